-- `fixed_syndrome::count_lanes` meets its contract. Assumes nothing.
use Rattle.std.proofs.Common.{◌≡◌, length, min}
use Rattle.fixed_syndrome.specs.Chunk.{ChunksFilled}
use Rattle.fixed_syndrome.specs.Count.{no_unmet, UnmetIn}
use Rattle.fixed_syndrome.proofs.count_lanes.Given as goal

abbrev pub invariant-loop-at : goal.invariant-loop-at
invariant-loop-at l = (length l.unmet ≡ 64) × ChunksFilled no_unmet (UnmetIn l.code.n l.code.p l.lanes l.code.lists.now l.work) (min l.at l.lanes) l.unmet
