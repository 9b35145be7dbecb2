-- `fixed_lanes::Block::clear_rows` meets its contract. Assumes nothing.
use Rattle.std.proofs.Common.{length}
use Rattle.fixed_lanes.specs.Clear.{Cleared}
use Rattle.fixed_lanes.proofs.Block.clear_rows.Given as goal

abbrev pub invariant-loop-k : goal.invariant-loop-k
invariant-loop-k l = Cleared l.self.u (length l.self.fresh.now) l.self.fresh.now l.initial.work l.k l.work
