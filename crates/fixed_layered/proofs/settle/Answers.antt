use Rattle.std.proofs.Common.{arith}
use Rattle.std.proofs.lemmas.Grind.{common_steps}
use Rattle.fixed_layered.specs.Sums.{values_again}
use Rattle.fixed_layered.proofs.settle.Goals as goal

pub loop-i-preserved : goal.loop-i-preserved
loop-i-preserved c = values_again _ c.loop-i.invariant (omega arith) (grind (arith, common_steps))
