-- `fixed_syndrome::larger` meets its contract. Assumes nothing.
use Rattle.std.proofs.Common.{◌≡◌, length}
use Rattle.fixed_syndrome.specs.Met.{Larger}
use Rattle.fixed_syndrome.proofs.larger.Given as goal

abbrev pub invariant-loop-i : goal.invariant-loop-i
invariant-loop-i l = (length l.v ≡ 16) × Larger l.a l.b l.i l.v
