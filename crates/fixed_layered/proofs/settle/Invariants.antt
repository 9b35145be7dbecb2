-- `fixed_layered::settle` meets its contract. Assumes nothing.
use Rattle.fixed_layered.specs.Sums.{LanesSettled}
use Rattle.fixed_layered.proofs.settle.Given as goal

abbrev pub invariant-loop-i : goal.invariant-loop-i
invariant-loop-i l = LanesSettled l.sums l.i l.values
