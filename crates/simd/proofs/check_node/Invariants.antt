-- `simd::check_node` meets its contract. Assumes nothing.
use Rattle.std.proofs.Common.{◌≡◌, ◌-◌, ◌≤◌, length}
use Rattle.lane16.specs.ColumnLaws.{Upto}
use Rattle.simd.specs.Memory.{checking}
use Rattle.simd.proofs.check_node.Given as goal

abbrev pub invariant-loop-at : goal.invariant-loop-at
invariant-loop-at l =
    (l.at ≤ l.check.lanes)
    × (length l.work ≡ length l.initial.work)
    × Upto (checking l.check l.offset) l.check.lanes l.at l.initial.work l.work

abbrev pub decreases-loop-at : goal.decreases-loop-at
decreases-loop-at l = l.check.lanes - l.at
