-- `fixed_layered::CheckRun::shared_run` meets its contract. Assumes nothing.
use Rattle.std.proofs.Common.{◌≡◌, length}
use Rattle.iteration.specs.Once.{shared_in, stepped}
use Rattle.iteration.specs.Lists.{code_in}
use Rattle.iteration.specs.Full.{place_of}
use Rattle.fixed_layered.specs.Checks.{ChecksMade}
use Rattle.fixed_layered.proofs.CheckRun.shared_run.Given as goal

abbrev pub invariant-loop-x : goal.invariant-loop-x
invariant-loop-x l =
    let t = l.self.turns in
    (length l.t ≡ 2048)
    × (length l.u ≡ 2048)
    × (l.place ≡ place_of (code_in t.code.p t.code.lists.now) (stepped t.first t.q) l.x)
    × ChecksMade (shared_in l.self.flags.now) t.code.n t.code.p t.lanes t.offset t.code.lists.now t.first t.q l.initial.work l.x l.work
