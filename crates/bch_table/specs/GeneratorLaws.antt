-- The generator multiplied out, and its degree.
use Rattle.std.specs.Prelude.{◌≡◌, refl, ℕ, ◌/◌, ◌^◌, ◌<◌}
use Rattle.std.proofs.Common.{ap}
use Rattle.laws.specs.Definitions.{◌⊕◌, clmul}
use Rattle.laws.specs.Poly.{degree_lt}
use Rattle.bch_table.specs.Generator.{masks, product, generator}

pub generator_is : generator ≡ 0x13b92f15b3078b68d77aa6c59656e8a4cfba9211137981c4b
unfolding generator product masks clmul ◌⊕◌
generator_is = refl

-- its degree is 192
pub generator_top : generator / 2 ^ 192 ≡ 1
generator_top = ap (λ (g : ℕ). g / 2 ^ 192) generator_is

pub generator_lt : generator < 2 ^ 193
generator_lt = degree_lt 192 generator generator_top
