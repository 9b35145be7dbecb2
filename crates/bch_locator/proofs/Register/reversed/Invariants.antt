-- `bch_locator::Register::reversed` meets its contract.
-- Assumes nothing.
use Rattle.bch_locator.proofs.Search.{Reversing}
use Rattle.bch_locator.proofs.Register.reversed.Given as goal

abbrev pub invariant-loop-i : goal.invariant-loop-i
invariant-loop-i l = Reversing l.t l.self.c l.self.len l.i
