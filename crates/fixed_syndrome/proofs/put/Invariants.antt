-- `fixed_syndrome::put` meets its contract. Assumes nothing.
use Rattle.fixed_syndrome.specs.Count.{no_unmet, lane_unmet}
use Rattle.fixed_syndrome.specs.Chunk.{ChunkWritten}
use Rattle.fixed_syndrome.proofs.put.Given as goal

abbrev pub invariant-loop-i : goal.invariant-loop-i
invariant-loop-i l = ChunkWritten no_unmet (lane_unmet l.x.counts l.x.checks) l.at l.initial.to l.i l.to
