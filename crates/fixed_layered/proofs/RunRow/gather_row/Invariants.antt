-- `fixed_layered::RunRow::gather_row` meets its contract. Assumes nothing.
use Rattle.std.proofs.Common.{◌≡◌}
use Rattle.iteration.specs.Lists.{edges_in, code_in}
use Rattle.iteration.specs.Full.{place_of}
use Rattle.iteration.specs.Once.{stepped}
use Rattle.fixed_layered.specs.Rows.{Gathers, run_sum}
use Rattle.fixed_layered.proofs.RunRow.gather_row.Given as goal

abbrev pub invariant-loop-x : goal.invariant-loop-x
invariant-loop-x l =
    let t = l.self.run.turns in
    let code = code_in t.code.p t.code.lists.now in
    (l.place ≡ place_of code (stepped t.first t.q) l.x)
    × Gathers t.lanes (place_of code (stepped t.first t.q) l.x) (run_sum t.code.n (edges_in t.code.p t.code.lists.now) code (stepped t.first t.q) l.self.base t.lanes l.work l.x) l.seen l.sums
