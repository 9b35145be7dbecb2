-- `fixed_syndrome::Words::count_block` meets its contract. Assumes nothing.
use Rattle.std.proofs.Common.{◌≡◌, length}
use Rattle.fixed_syndrome.specs.Count.{BlockBits, BlockCounting}
use Rattle.fixed_syndrome.proofs.Words.count_block.Given as goal

abbrev pub invariant-loop-k : goal.invariant-loop-k
invariant-loop-k l = (length l.bits ≡ 120) × BlockBits l.self.code.n l.self.code.p l.self.lanes l.self.code.lists.now l.self.work.now l.self.at l.from l.k l.bits

abbrev pub invariant-loop-k-2 : goal.invariant-loop-k-2
invariant-loop-k-2 l = BlockBits l.self.code.n l.self.code.p l.self.lanes l.self.code.lists.now l.self.work.now l.self.at l.from l.d l.bits × BlockCounting l.self.code.n l.self.code.p l.self.lanes l.self.code.lists.now l.self.work.now l.self.at l.from l.k l.b.counts l.b.places
