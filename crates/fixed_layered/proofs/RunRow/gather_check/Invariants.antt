-- `fixed_layered::RunRow::gather_check` meets its contract. Assumes nothing.
use Rattle.std.proofs.Common.{◌≡◌, ◌+◌, length}
use Rattle.iteration.specs.Lists.{var, rows_in, edges_in}
use Rattle.fixed_layered.specs.Rows.{Gathers, sum_at, after}
use Rattle.fixed_layered.proofs.RunRow.gather_check.Given as goal

abbrev pub invariant-loop-k : goal.invariant-loop-k
invariant-loop-k l =
    let t = l.self.run.turns in
    (length l.seen ≡ 374)
    × Gathers t.lanes (l.place + l.k) (after t.code.n (edges_in t.code.p t.code.lists.now) t.lanes (var (rows_in t.code.p t.code.lists.now)) l.self.base l.s l.place l.work (sum_at t.lanes l.initial.seen l.initial.sums) l.k) l.seen l.sums
