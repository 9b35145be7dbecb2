-- The constants are powers of two. Assumes nothing.
use Rattle.std.proofs.Common.{refl, suc, arith}
use Rattle.laws.specs.Tests.{below}
use Rattle.bch_locator.specs.declared.TheConstants.{FIRST_POWERS, SECOND_POWERS, PLACE_POWERS}
use Rattle.bch_locator.specs.Lanes.{PowersOf}
use Rattle.bch_locator.specs.Syndromes.{first_part, second_part}
use Rattle.bch_locator.proofs.Raised.{powers_by}

pub first_powers : PowersOf FIRST_POWERS first_part
unfolding below first_part
first_powers = powers_by _ first_part refl (λ i h. omega arith) tt tt

pub second_powers : PowersOf SECOND_POWERS second_part
unfolding below second_part
second_powers = powers_by _ second_part refl (λ i h. omega arith) tt tt

pub place_powers : PowersOf PLACE_POWERS suc
unfolding below
place_powers = powers_by _ suc refl (λ i h. h) tt tt
