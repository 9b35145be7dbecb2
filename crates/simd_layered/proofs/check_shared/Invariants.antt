-- `simd_layered::check_shared` meets its contract. Assumes nothing.
use Rattle.std.proofs.Common.{◌≡◌, ◌-◌, ◌≤◌, length}
use Rattle.lane16.specs.ColumnLaws.{Upto}
use Rattle.iteration.specs.Once.{shared_in}
use Rattle.iteration.specs.Lists.{var}
use Rattle.simd_layered.specs.Checked.{run_column}
use Rattle.simd_layered.proofs.check_shared.Given as goal

abbrev pub invariant-loop-at : goal.invariant-loop-at
invariant-loop-at l =
    (l.at ≤ l.check.lanes)
    × (length l.work ≡ length l.initial.work)
    × Upto (run_column (shared_in l.flags) l.offset (var l.check.rows.now) l.check.s l.check.d l.check.n (length l.check.rows.now) l.place) l.check.lanes l.at
    l.initial.work l.work

abbrev pub decreases-loop-at : goal.decreases-loop-at
decreases-loop-at l = l.check.lanes - l.at
