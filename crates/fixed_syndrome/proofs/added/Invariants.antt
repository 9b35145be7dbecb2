-- `fixed_syndrome::added` meets its contract. Assumes nothing.
use Rattle.std.proofs.Common.{◌≡◌, length}
use Rattle.fixed_syndrome.specs.Count.{BitsCounted}
use Rattle.fixed_syndrome.proofs.added.Given as goal

abbrev pub invariant-loop-i : goal.invariant-loop-i
invariant-loop-i l = (length l.counts ≡ 16) × ((length l.places ≡ 16) × BitsCounted l.b.counts l.b.places l.bits l.c l.i l.counts l.places)
