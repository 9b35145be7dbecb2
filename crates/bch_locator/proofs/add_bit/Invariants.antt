-- `bch_locator::add_bit` meets its contract.
-- Assumes nothing.
use Rattle.bch_locator.proofs.Filling.{Filling}
use Rattle.bch_locator.proofs.Horner.{Plus}
use Rattle.bch_locator.proofs.add_bit.Given as goal

abbrev pub invariant-loop-i : goal.invariant-loop-i
invariant-loop-i l = Filling (Plus l.s l.b) l.r l.i
