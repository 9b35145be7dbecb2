-- `bch_locator::times` meets its contract.
-- Assumes nothing.
use Rattle.bch_locator.proofs.Filling.{Filling, At}
use Rattle.bch_locator.proofs.times.Given as goal

abbrev pub invariant-loop-i : goal.invariant-loop-i
invariant-loop-i l = Filling (At l.t l.p) l.r l.i
