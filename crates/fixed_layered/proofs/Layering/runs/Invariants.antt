-- `fixed_layered::Layering::runs` meets its contract. Assumes nothing.
use Rattle.fixed_layered.specs.Layers.{RunsBefore}
use Rattle.fixed_layered.proofs.Layering.runs.Given as goal

abbrev pub invariant-loop-at : goal.invariant-loop-at
invariant-loop-at l = RunsBefore l.self.code.n l.self.code.p l.self.lanes l.self.offset l.self.code.lists.now l.self.q l.self.step l.l l.initial.work l.at l.work
