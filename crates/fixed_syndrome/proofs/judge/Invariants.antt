-- `fixed_syndrome::judge` meets its contract. Assumes nothing.
use Rattle.std.proofs.Common.{false, get_or, eqb}
use Rattle.fixed_syndrome.specs.Chunk.{ChunkWritten}
use Rattle.fixed_syndrome.proofs.judge.Given as goal

abbrev pub invariant-loop-i : goal.invariant-loop-i
invariant-loop-i l = ChunkWritten false (λ k. eqb (get_or l.v k 0) 0) l.at l.initial.verdict l.i l.verdict
