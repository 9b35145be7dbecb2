-- `fixed_layered::RunRow::settle_check` meets its contract. Assumes nothing.
use Rattle.iteration.specs.Lists.{var, rows_in}
use Rattle.fixed_layered.specs.Rows.{CheckSettled}
use Rattle.fixed_layered.proofs.RunRow.settle_check.Given as goal

abbrev pub invariant-loop-v : goal.invariant-loop-v
invariant-loop-v l =
    let t = l.self.run.turns in CheckSettled (var (rows_in t.code.p t.code.lists.now)) l.self.base l.s t.lanes l.sums l.initial.work l.v-index l.work
