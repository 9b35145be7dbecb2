-- `fixed_syndrome::unheld` meets its contract. Assumes nothing.
use Rattle.std.proofs.Common.{◌≡◌, length}
use Rattle.fixed_syndrome.specs.Met.{Unheld}
use Rattle.fixed_syndrome.proofs.unheld.Given as goal

abbrev pub invariant-loop-i : goal.invariant-loop-i
invariant-loop-i l = (length l.v ≡ 16) × Unheld l.held l.i l.v
