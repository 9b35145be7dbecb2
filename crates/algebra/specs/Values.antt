-- The values of binary polynomials in a ring of characteristic 2; a polynomial that vanishes at all roots of a divisor is its multiple.
use Rattle.std.specs.Prelude.{◌≡◌}
use Rattle.std.proofs.Math.Path.{refl, sym, ap, ap₂}
use Rattle.std.proofs.Common.{◌∙◌, not-suc-le-zero, le_of_suc-le-suc, mod-lt, zero-mul, one-mul, le_refl, mul-div_cancel, div-one, ℕ, zero, suc, ◌+◌, ◌*◌, ◌/◌, ◌%◌, ◌^◌, ◌≤◌, ◌<◌, arith}
use Rattle.std.proofs.Math.Nat.{mul-mod_left}
use Rattle.std.proofs.Math.Arith.{lt-one}
use Rattle.laws.specs.Xor.{⊕-half, ⊕-odd, two_cases, two_pos}
use Rattle.laws.specs.Definitions.{◌⊕◌, clmul, rem}
use Rattle.laws.specs.Poly.{quo, deeper, half_down, division, rem_lt}
use Rattle.algebra.specs.Ring.{Ring, Field}
use Rattle.algebra.specs.RingLaws.{zero-⊞, one-⊠, ⊠-zero, zero-⊠, ⊞-swap, ⊠-swap, dist-⊠, square_add}
use Rattle.algebra.specs.Series.{eval, bit, ev}
use Rattle.algebra.specs.Roots.{Distinct, roots}

module _ {F : Type 0} (R : Ring F) where
  open R use {𝟘, 𝟙, ◌⊞◌, ◌⊠◌, ⊞-zero, ⊞-self, ⊠-assoc, ⊠-one, ⊠-dist}

  infixl 60 ◌⊞◌
  infixl 70 ◌⊠◌
  bit_add : (a b : ℕ) → a < 2 → b < 2 → bit R (a ⊕ b) ≡ bit R a ⊞ bit R b
  unfolding bit ◌⊕◌
  bit_add a b ha hb =
      two_cases (λ a. bit R (a ⊕ b) ≡ bit R a ⊞ bit R b) (sym (zero-⊞ R (bit R b)))
      (two_cases (λ b. bit R (1 ⊕ b) ≡ 𝟙 ⊞ bit R b) (sym (⊞-zero 𝟙)) (sym (⊞-self 𝟙)) b hb) a ha

  pub ev_add : (k a b : ℕ) (z : F) → ev R k (a ⊕ b) z ≡ ev R k a z ⊞ ev R k b z
  unfolding ev
  ev_add zero a b z = sym (⊞-zero 𝟘)
  ev_add (suc k) a b z =
      ap₂ (λ (u v : ℕ). bit R u ⊞ z ⊠ ev R k v z) (⊕-odd a b) (⊕-half a b)
      ∙ ap₂ (λ y w. y ⊞ z ⊠ w) (bit_add (a % 2) (b % 2) (mod-lt a two_pos) (mod-lt b two_pos)) (ev_add k (a / 2) (b / 2) z)
      ∙ ap (λ y. bit R (a % 2) ⊞ bit R (b % 2) ⊞ y) (⊠-dist z _ _) ∙ ⊞-swap R _ _ _ _

  pub ev_zero : (k : ℕ) (z : F) → ev R k 0 z ≡ 𝟘
  unfolding ev bit
  ev_zero zero z = refl
  ev_zero (suc k) z = ap (λ y. 𝟘 ⊞ z ⊠ y) (ev_zero k z) ∙ ap (λ y. 𝟘 ⊞ y) (⊠-zero R z) ∙ ⊞-zero 𝟘

  pub ev_double : (k w : ℕ) (z : F) → ev R (suc k) (w * 2) z ≡ z ⊠ ev R k w z
  unfolding ev bit
  ev_double k w z = ap₂ (λ (u v : ℕ). bit R u ⊞ z ⊠ ev R k v z) (mul-mod_left w 2) (mul-div_cancel w two_pos) ∙ zero-⊞ R _

  pub ev_more : (k j w : ℕ) (z : F) → w < 2 ^ k → k ≤ j → ev R j w z ≡ ev R k w z
  unfolding ev
  ev_more zero j w z h g = ap (λ (v : ℕ). ev R j v z) (lt-one h) ∙ ev_zero j z
  ev_more (suc k) zero w z h g = absurd (not-suc-le-zero g)
  ev_more (suc k) (suc j) w z h g = ap (λ y. bit R (w % 2) ⊞ z ⊠ y) (ev_more k j (w / 2) z (half_down w k h) (le_of_suc-le-suc g))

  ev_digit : (t k g : ℕ) (z : F) → t < 2 → ev R k (t * g) z ≡ bit R t ⊠ ev R k g z
  unfolding bit
  ev_digit t k g z =
      two_cases (λ t. ev R k (t * g) z ≡ bit R t ⊠ ev R k g z) (ap (λ (v : ℕ). ev R k v z) (zero-mul g) ∙ ev_zero k z ∙ sym (zero-⊠ R _))
      (ap (λ (v : ℕ). ev R k v z) (one-mul g) ∙ sym (one-⊠ R _)) t

  -- the product goes to the product
  pub ev_clmul : (k q g d j : ℕ) (z : F) → g < 2 ^ d → k + d ≤ j → ev R j (clmul k q g) z ≡ ev R k q z ⊠ ev R d g z
  unfolding clmul ev
  ev_clmul zero q g d j z h e = ev_zero j z ∙ sym (zero-⊠ R _)
  ev_clmul (suc k) q g d zero z h e = absurd (omega arith)
  ev_clmul (suc k) q g d (suc j) z h e =
      ev_add (suc j) (q % 2 * g) (clmul k (q / 2) g * 2) z
      ∙ ap₂ ◌⊞◌ (ev_digit (q % 2) (suc j) g z (mod-lt q two_pos) ∙ ap (λ y. bit R (q % 2) ⊠ y) (ev_more d (suc j) g z h (omega arith)))
      (ev_double j (clmul k (q / 2) g) z ∙ ap (λ y. z ⊠ y) (ev_clmul k (q / 2) g d j z h (omega arith)) ∙ sym (⊠-assoc z _ _))
      ∙ sym (dist-⊠ R (bit R (q % 2)) (z ⊠ ev R k (q / 2) z) (ev R d g z))

  bit_square : (t : ℕ) → t < 2 → bit R t ⊠ bit R t ≡ bit R t
  unfolding bit
  bit_square = two_cases (λ t. bit R t ⊠ bit R t ≡ bit R t) (⊠-zero R 𝟘) (⊠-one 𝟙)

  -- squares of values are values at squares
  pub ev_square : (k w : ℕ) (z : F) → ev R k w z ⊠ ev R k w z ≡ ev R k w (z ⊠ z)
  unfolding ev
  ev_square zero w z = ⊠-zero R 𝟘
  ev_square (suc k) w z =
      square_add R (bit R (w % 2)) (z ⊠ ev R k (w / 2) z)
      ∙ ap₂ ◌⊞◌ (bit_square (w % 2) (mod-lt w two_pos)) (⊠-swap R z (ev R k (w / 2) z) z (ev R k (w / 2) z) ∙ ap (λ y. z ⊠ z ⊠ y) (ev_square k (w / 2) z))

  -- as a polynomial with coefficients
  unfoldable pub coeff : ℕ → ℕ → F
  coeff w i = bit R (w / 2 ^ i % 2)

  pub ev_eval : (k w : ℕ) (z : F) → ev R k w z ≡ eval R k (coeff w) z
  unfolding ev eval coeff
  ev_eval zero w z = refl
  ev_eval (suc k) w z =
      ap₂ (λ (v : ℕ) y. bit R (v % 2) ⊞ z ⊠ y) (sym (div-one w)) (ev_eval k (w / 2) z ∙ ap (λ c. eval R k c z) (λ i n. bit R (deeper w n i % 2)))

module _ {F : Type 0} (K : Field F) where
  open K.ring use {𝟘, ◌⊞◌, ◌⊠◌}

  infixl 60 ◌⊞◌
  infixl 70 ◌⊠◌
  abbrev R₃ : Ring F
  R₃ = K.ring

  bit_zero : (t : ℕ) → t < 2 → bit R₃ t ≡ 𝟘 → t ≡ 0
  unfolding bit
  bit_zero = two_cases (λ t. bit R₃ t ≡ 𝟘 → t ≡ 0) (λ _. refl) (λ e. absurd (K.one_nz e))

  digits_zero : (k w : ℕ) → w < 2 ^ k → ((i : ℕ) → i < k → coeff R₃ w i ≡ 𝟘) → w ≡ 0
  unfolding coeff
  digits_zero zero w h z = lt-one h
  digits_zero (suc k) w h z =
      let a : w % 2 ≡ 0 = bit_zero (w % 2) (mod-lt w two_pos) (ap (λ (v : ℕ). bit R₃ (v % 2)) (sym (div-one w)) ∙ z 0 (omega arith)) in
      let b : w / 2 ≡ 0 = digits_zero k (w / 2) (half_down w k h) (λ i g. ap (λ (v : ℕ). bit R₃ (v % 2)) (deeper w i) ∙ z (suc i) (omega arith)) in
      omega arith

  -- with a root of g for each of its degrees: what vanishes at those is a multiple of g
  pub multiple : (d g : ℕ) (x : ℕ → F) → g < 2 ^ suc d → g / 2 ^ d ≡ 1 → Distinct d x → ((p : ℕ) → p < d → ev R₃ (suc d) g (x p) ≡ 𝟘)
      → (k w : ℕ) → w < 2 ^ k → ((p : ℕ) → p < d → ev R₃ k w (x p) ≡ 𝟘) → rem d g k w ≡ 0
  multiple d g x hg top dx gx k w hw wx =
      digits_zero d (rem d g k w) small (roots K d (coeff R₃ (rem d g k w)) x dx (λ p h. sym (ev_eval R₃ d (rem d g k w) (x p)) ∙ at p h))
    where
      small : rem d g k w < 2 ^ d
      small = rem_lt d g k w top

      at : (p : ℕ) → p < d → ev R₃ d (rem d g k w) (x p) ≡ 𝟘
      at p h =
          sym (ev_more R₃ d (k + suc d) (rem d g k w) (x p) small (omega arith)) ∙ sym (zero-⊞ R₃ _)
          ∙ ap (λ y. y ⊞ ev R₃ (k + suc d) (rem d g k w) (x p)) (sym (ev_clmul R₃ k (quo d g k w) g (suc d) (k + suc d) (x p) hg (le_refl _) ∙ ap (λ y. ev R₃ k (quo d g k w) (x p) ⊠ y) (gx p h) ∙ ⊠-zero R₃ _))
          ∙ sym (ev_add R₃ (k + suc d) (clmul k (quo d g k w) g) (rem d g k w) (x p)) ∙ ap (λ (v : ℕ). ev R₃ (k + suc d) v (x p)) (sym (division d g k w hw))
          ∙ ev_more R₃ k (k + suc d) w (x p) hw (omega arith) ∙ wx p h
