-- Sequences over a ring: powers, values of polynomials, the product of power series, and counting zeros.
use Rattle.std.proofs.Math.Logic.{ite}
use Rattle.std.specs.Prelude.{ℕ, zero, suc, ◌/◌, ◌%◌}
use Rattle.algebra.specs.Ring.{Ring, Field}

module _ {F : Type 0} (R : Ring F) where
  open R use {𝟘, 𝟙, ◌⊞◌, ◌⊠◌}

  infixl 60 ◌⊞◌
  infixl 70 ◌⊠◌
  -- x to the n
  unfoldable pub pow : F → ℕ → F
  pow x zero = 𝟙
  pow x (suc n) = x ⊠ pow x n

  -- the value at x of the polynomial of n coefficients, the lowest first
  unfoldable pub eval : ℕ → (ℕ → F) → F → F
  eval zero c x = 𝟘
  eval (suc n) c x = c 0 ⊞ x ⊠ eval n (λ i. c (suc i)) x

  -- a binary digit as an element
  unfoldable pub bit : ℕ → F
  bit zero = 𝟘
  bit (suc n) = 𝟙

  -- the value at z of the polynomial whose k lowest digits are w's
  unfoldable pub ev : ℕ → ℕ → F → F
  ev zero w z = 𝟘
  ev (suc k) w z = bit (w % 2) ⊞ z ⊠ ev k (w / 2) z

  -- the product of power series: at n, the sum of c i s (n - i), i = 0 .. n
  unfoldable pub conv : (ℕ → F) → (ℕ → F) → ℕ → F
  conv c s zero = c 0 ⊠ s 0
  conv c s (suc n) = c 0 ⊠ s (suc n) ⊞ conv (λ i. c (suc i)) s n

-- how many of the first n of v are zero
unfoldable pub zeros : {F : Type 0} → Field F → ℕ → (ℕ → F) → ℕ
zeros K zero v = 0
zeros K (suc n) v = ite (K.dec (v n) K.ring.𝟘) (suc (zeros K n v)) (zeros K n v)
