-- `bch_locator::inverse` meets its contract.
-- Assumes nothing.
use Rattle.std.proofs.Common.{◌≡◌, ◌-◌}
use Rattle.gf16.specs.Field16.{R16, gf16}
use Rattle.algebra.specs.RingLaws.{ones_power}
use Rattle.bch_locator.specs.Element.{to_el}
use Rattle.bch_locator.proofs.inverse.Given as goal

abbrev pub invariant-loop : goal.invariant-loop
invariant-loop l = R16.◌⊠◌ (to_el l.r) (ones_power R16 (15 - l.counter) (to_el l.x)) ≡ gf16.inv (to_el l.a)
