-- `bch_locator::digits` meets its contract.
-- Assumes nothing.
use Rattle.bch_locator.proofs.Horner.{Partial}
use Rattle.bch_locator.proofs.digits.Given as goal

abbrev pub invariant-loop-k : goal.invariant-loop-k
invariant-loop-k l = Partial l.r l.initial.r l.w l.k
