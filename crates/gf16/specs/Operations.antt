-- The operations of the BCH code's field. It is known by them: that they make a field is a part of `gf16`, and the inverse is told by the law of `Field`.
use Rattle.std.specs.Prelude.{◌≡◌, refl}
use Rattle.laws.specs.Definitions.{◌⊕◌}
use Rattle.algebra.specs.Gf.{El, mul}
use Rattle.algebra.specs.GfField.{gf_ring, gf_field}
use Rattle.gf16.specs.Field16.{gf16, R16}

-- 0 and 1 are the numbers 0 and 1, the sum is xor, and the product that of algebra/Gf with α^16 = 100B hexadecimal
pub record Operations : Type 0 where
  pub zero : R16.𝟘.0 ≡ 0
  pub one : R16.𝟙.0 ≡ 1
  pub sum : (a b : El 15) → (R16.◌⊞◌ a b).0 ≡ a.0 ⊕ b.0
  pub product : (a b : El 15) → (R16.◌⊠◌ a b).0 ≡ mul 15 0x100B a.0 b.0

pub operations : Operations
unfolding gf16 gf_field gf_ring
operations = record { zero = refl; one = refl; sum = λ a b. refl; product = λ a b. refl }
