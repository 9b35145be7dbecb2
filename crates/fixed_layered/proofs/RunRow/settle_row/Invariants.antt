-- `fixed_layered::RunRow::settle_row` meets its contract. Assumes nothing.
use Rattle.iteration.specs.Lists.{edges_in, code_in}
use Rattle.iteration.specs.Once.{stepped}
use Rattle.fixed_layered.specs.Rows.{RowSettled}
use Rattle.fixed_layered.proofs.RunRow.settle_row.Given as goal

abbrev pub invariant-loop-x : goal.invariant-loop-x
invariant-loop-x l =
    let t = l.self.run.turns in
    RowSettled t.code.n (edges_in t.code.p t.code.lists.now) (code_in t.code.p t.code.lists.now) (stepped t.first t.q) l.self.base t.lanes l.sums l.initial.work l.x l.work
