-- `fixed_lanes::clear_messages` meets its contract. Assumes nothing.
use Rattle.std.proofs.Common.{min, length}
use Rattle.fixed_lanes.specs.Clear.{Cleared}
use Rattle.fixed_lanes.proofs.clear_messages.Given as goal

abbrev pub invariant-loop-k : goal.invariant-loop-k
invariant-loop-k l = Cleared l.n (length l.fresh) l.fresh l.initial.work (min l.blocked l.k) l.work
