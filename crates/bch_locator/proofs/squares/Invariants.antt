-- `bch_locator::squares` meets its contract.
-- Assumes nothing.
use Rattle.bch_locator.proofs.Horner.{Squaring}
use Rattle.bch_locator.proofs.squares.Given as goal

abbrev pub invariant-loop-k : goal.invariant-loop-k
invariant-loop-k l = Squaring l.s l.t l.k
