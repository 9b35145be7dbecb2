-- `bch_locator::Register::shortest` meets its contract.
-- Assumes nothing.
use Rattle.bch_locator.proofs.Steps.{State}
use Rattle.bch_locator.proofs.Register.shortest.Given as goal

abbrev pub invariant-loop-k : goal.invariant-loop-k
invariant-loop-k l = State l.s l.c l.b l.l l.m l.e l.k
