-- `fixed_lanes::clear_row` meets its contract. Assumes nothing.
use Rattle.std.proofs.Common.{length}
use Rattle.fixed_lanes.specs.Clear.{RowCleared}
use Rattle.fixed_lanes.proofs.clear_row.Given as goal

abbrev pub invariant-loop-i : goal.invariant-loop-i
invariant-loop-i l = RowCleared (length l.fresh) l.u l.fresh l.initial.work l.i l.work
