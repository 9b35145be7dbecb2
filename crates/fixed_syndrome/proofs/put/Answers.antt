use Rattle.std.proofs.Common.{arith}
use Rattle.fixed_syndrome.specs.Chunk.{written_again}
use Rattle.fixed_syndrome.proofs.put.Goals as goal

pub loop-i-preserved : goal.loop-i-preserved
loop-i-preserved c = written_again _ c.loop-i.invariant (omega arith) (λ j. record { count = c.from.ensures j; check = c.from-in-loop-i.ensures j })
