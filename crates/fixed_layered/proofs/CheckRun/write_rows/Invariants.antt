-- `fixed_layered::CheckRun::write_rows` meets its contract. Assumes nothing.
use Rattle.iteration.specs.Lists.{edges_in, code_in}
use Rattle.iteration.specs.Once.{stepped}
use Rattle.fixed_layered.specs.Rows.{Written}
use Rattle.fixed_layered.proofs.CheckRun.write_rows.Given as goal

abbrev pub invariant-loop-g : goal.invariant-loop-g
invariant-loop-g l =
    let t = l.self.turns in
    Written t.code.n (edges_in t.code.p t.code.lists.now) (code_in t.code.p t.code.lists.now) (stepped t.first t.q) t.m t.lanes l.self.flags.now l.initial.work l.g l.work
