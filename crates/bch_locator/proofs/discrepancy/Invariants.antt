-- `bch_locator::discrepancy` meets its contract.
-- Assumes nothing.
use Rattle.std.proofs.Common.{◌≡◌}
use Rattle.bch_locator.specs.Element.{to_el}
use Rattle.bch_locator.specs.Register.{total}
use Rattle.bch_locator.proofs.discrepancy.Given as goal

abbrev pub invariant-loop-i : goal.invariant-loop-i
invariant-loop-i l = to_el l.d ≡ total l.c l.s l.k l.i
