-- `fixed_layered::gather` meets its contract. Assumes nothing.
use Rattle.fixed_layered.specs.Sums.{LanesGathered}
use Rattle.fixed_layered.proofs.gather.Given as goal

abbrev pub invariant-loop-i : goal.invariant-loop-i
invariant-loop-i l = LanesGathered l.seen l.t l.new l.old l.initial.sums l.i l.sums
