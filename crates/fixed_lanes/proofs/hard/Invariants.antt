-- `fixed_lanes::hard` meets its contract. Assumes nothing.
use Rattle.lane16.specs.Column.{column}
use Rattle.iteration.specs.Check.{within}
use Rattle.fixed_lanes.specs.Read.{Deciding}
use Rattle.fixed_lanes.proofs.hard.Given as goal

abbrev pub invariant-loop-u : goal.invariant-loop-u
invariant-loop-u l = Deciding (within l.n (column l.lanes l.work l.lane)) l.initial.out l.u l.out
