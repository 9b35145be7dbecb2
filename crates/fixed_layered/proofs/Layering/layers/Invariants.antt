-- `fixed_layered::Layering::layers` meets its contract. Assumes nothing.
use Rattle.fixed_layered.specs.Layers.{LayersMade}
use Rattle.fixed_layered.proofs.Layering.layers.Given as goal

abbrev pub invariant-loop-l : goal.invariant-loop-l
invariant-loop-l l = LayersMade l.self.code.n l.self.code.p l.self.lanes l.self.offset l.self.code.lists.now l.self.q l.self.step l.initial.work l.l l.work
