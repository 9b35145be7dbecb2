-- `decoder_lanes::load` meets its contract. The loop's invariant: values of the fresh lanes below l are loaded, nothing else has changed, and `fresh`
-- says which they are.
-- Assumes nothing.
use Rattle.decoder_assign.specs.Taken.{held_in, iters_in}
use Rattle.decoder_lanes.specs.Load.{Loading}
use Rattle.decoder_lanes.proofs.load.Given as goal

abbrev pub invariant-loop-l : goal.invariant-loop-l
invariant-loop-l l = Loading l.n l.e l.lanes l.soft (held_in l.taken) (iters_in l.taken) l.initial.work l.l l.work l.fresh
