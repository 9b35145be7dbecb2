-- `fixed_lanes::load` meets its contract. Assumes nothing.
use Rattle.fixed_lanes.specs.Load.{Loaded}
use Rattle.fixed_lanes.proofs.load.Given as goal

abbrev pub invariant-loop-u : goal.invariant-loop-u
invariant-loop-u l = Loaded l.u l.lanes l.lane l.soft l.initial.work l.work
