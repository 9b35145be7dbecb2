-- At most half as many errors as there are syndromes are all 1, if the syndromes are those of a binary word (`binary`).
use Rattle.std.specs.Prelude.{◌≡◌, ◌≢◌, ◌⊎◌, ℕ, suc, ◌+◌, ◌*◌, ◌≤◌, ◌<◌}
use Rattle.std.proofs.Math.Path.{sym, ap}
use Rattle.std.proofs.Common.{ap₂, ◌∙◌, arith}
use Rattle.algebra.specs.Ring.{Ring, Field}
use Rattle.algebra.specs.RingLaws.{zero-⊠, ⊠-swap, ⊞-cancel, dist-⊠}
use Rattle.algebra.specs.Series.{pow}
use Rattle.algebra.specs.SeriesLaws.{sum, sum_ext, sum_add, sum_square, pow_add}
use Rattle.algebra.specs.Power.{square_pow}
use Rattle.algebra.specs.Roots.{Distinct, domain, square_inj, idempotent}
use Rattle.algebra.specs.Errors.{weight, weight_mono, Syndromes, min_distance}

module _ {F : Type 0} (K : Field F) where
  open K.ring use {𝟘, 𝟙, ◌⊞◌, ◌⊠◌, ⊞-zero, ⊞-self}

  infixl 60 ◌⊞◌
  infixl 70 ◌⊠◌
  abbrev R₃ : Ring F
  R₃ = K.ring

  -- ---- squares of syndromes
  double : (u : F) (m i : ℕ) → m ≡ 2 * (1 + i) → pow R₃ u m ≡ pow R₃ (u ⊠ u) (1 + i)
  double u m i e = ap (pow R₃ u) e ∙ sym (square_pow R₃ u (1 + i))

  square_term : (a u : F) (i : ℕ) → a ⊠ pow R₃ u (1 + i) ⊠ (a ⊠ pow R₃ u (1 + i)) ≡ a ⊠ a ⊠ pow R₃ (u ⊠ u) (1 + i)
  square_term a u i =
      let e : (1 + i) + (1 + i) ≡ 2 * (1 + i) = omega arith in
      ⊠-swap R₃ a _ a _ ∙ ap (λ w. a ⊠ a ⊠ w) (sym (pow_add R₃ u (1 + i) (1 + i)) ∙ double u _ i e)

  -- ---- n places with locators x
  module _ (n : ℕ) (x : ℕ → F) (x-nz : (p : ℕ) → p < n → x p ≢ 𝟘) (x-d : Distinct n x) where
    -- ---- if S_2i = S_i² for i = 1 .. t, S_1 being s_0, at most t errors with these syndromes are all 1
    pub binary : (k t : ℕ) (ε s : ℕ → F) → Syndromes K n x 1 k ε s → t + t ≤ k → weight K n ε ≤ t
        → ((i : ℕ) → i < t → s (suc (i + i)) ≡ s i ⊠ s i) → (p : ℕ) → p < n → (ε p ≡ 𝟘) ⊎ (ε p ≡ 𝟙)
    binary k t ε s s-is enough light squares p h = idempotent K (ε p) (⊞-cancel R₃ _ _ (none p h))
      where
        η : ℕ → F
        η p = ε p ⊠ ε p ⊞ ε p

        X : ℕ → F
        X p = x p ⊠ x p

        η_light : weight K n η ≤ t
        η_light =
            let a = weight_mono K n η ε (λ p _ ne z. ne (ap₂ ◌⊞◌ (ap (λ w. w ⊠ ε p) z ∙ zero-⊠ R₃ (ε p)) z ∙ ⊞-zero 𝟘)) in
            omega arith

        zero_at : (i : ℕ) → i < t → sum R₃ n (λ p. η p ⊠ pow R₃ (X p) (1 + i)) ≡ 𝟘
        zero_at i a =
            let e : 1 + suc (i + i) ≡ 2 * (1 + i) = omega arith in
            sum_ext R₃ n _ _ (λ p _. dist-⊠ R₃ (ε p ⊠ ε p) (ε p) (pow R₃ (X p) (1 + i)))
            ∙ sum_add R₃ n (λ p. ε p ⊠ ε p ⊠ pow R₃ (X p) (1 + i)) (λ p. ε p ⊠ pow R₃ (X p) (1 + i))
            ∙ ap₂ ◌⊞◌
            (sum_ext R₃ n _ _ (λ p _. sym (square_term (ε p) (x p) i)) ∙ sym (sum_square R₃ n (λ p. ε p ⊠ pow R₃ (x p) (1 + i)))
            ∙ ap (λ w. w ⊠ w) (sym (s-is i (omega arith))))
            (sum_ext R₃ n _ _ (λ p _. ap (λ w. ε p ⊠ w) (sym (double (x p) _ i e))) ∙ sym (s-is (suc (i + i)) (omega arith)) ∙ squares i a)
            ∙ ⊞-self _

        none : (p : ℕ) → p < n → η p ≡ 𝟘
        none =
            min_distance K n X (λ p a e. x-nz p a (domain K (x p) (x p) e (x-nz p a)))
            (λ i j a a' e. x-d i j a a' (square_inj K (x i) (x j) e)) 1 t η η_light zero_at
