-- `fixed_syndrome::met` meets its contract. Assumes nothing.
use Rattle.std.proofs.Common.{◌≡◌, false, length, min}
use Rattle.fixed_syndrome.specs.Chunk.{ChunksFilled}
use Rattle.fixed_syndrome.specs.Met.{VerdictIn}
use Rattle.fixed_syndrome.proofs.met.Given as goal

abbrev pub invariant-loop-at : goal.invariant-loop-at
invariant-loop-at l = (length l.verdict ≡ 64) × ChunksFilled false (VerdictIn l.code.n l.code.p l.lanes l.code.lists.now l.work l.held) (min l.at l.lanes) l.verdict
