-- The two checks that make GF(2^16) a field, computed.
use Rattle.std.specs.Prelude.{◌≡◌, refl, ◌⊎◌, List, [], ◌∷◌, ℕ, T}
use Rattle.std.proofs.Common.{lit<}
use Rattle.laws.specs.Definitions.{◌⊕◌}
use Rattle.laws.specs.Tests.{below}
use Rattle.algebra.specs.Ring.{Ring}
use Rattle.algebra.specs.RingLaws.{sqs}
use Rattle.algebra.specs.Gf.{El, xt, mul_n, mul}
use Rattle.algebra.specs.GfField.{gf_ring}
use Rattle.algebra.specs.GfChecks.{lin, undoes, squarings, fix, idempotents}

-- a linear map that undoes x + x² but for the lowest digit, by its values at the powers of two: so only 0 and 1 are their own squares
unfoldable undo16 : List ℕ
undo16 = 350 ∷ 42420 ∷ 42422 ∷ 7412 ∷ 42418 ∷ 10272 ∷ 7420 ∷ 1328 ∷ 42402 ∷ 38610 ∷ 10240 ∷ 5068 ∷ 7356 ∷ 0 ∷ 1456 ∷ 21936 ∷ []

undone16 : T (undoes 15 0x100B undo16)
unfolding undo16 undoes below lin mul mul_n xt ◌⊕◌
undone16 = tt

-- sixteen squarings of α give α, and so of every element: x^65535 is its own square, and 1 where x is not 0
fermat16 : squarings 15 0x100B 16 2 ≡ 2
unfolding squarings mul mul_n xt ◌⊕◌
fermat16 = refl

abbrev ring16 : Ring (El 15)
ring16 = gf_ring 15 0x100B (lit< tt)

pub fix16 : (a : El 15) → sqs ring16 16 a ≡ a
fix16 = fix 15 0x100B (lit< tt) (lit< tt) undo16 undone16 fermat16

pub idempotents16 : (a : El 15) → ring16.◌⊠◌ a a ≡ a → (a ≡ ring16.𝟘) ⊎ (a ≡ ring16.𝟙)
idempotents16 = idempotents 15 0x100B (lit< tt) (lit< tt) undo16 undone16 fermat16
