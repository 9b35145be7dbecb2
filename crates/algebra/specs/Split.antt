-- A register of length l with l different roots generates nothing but sums of l powers: sequences that are the syndromes of l errors.
use Rattle.std.specs.Prelude.{◌≡◌, ◌≢◌}
use Rattle.std.proofs.Math.Path.{sym, ap, ap₂}
use Rattle.std.proofs.Common.{◌∙◌, not-suc-le-zero, le_refl, arith, ℕ, zero, suc, ◌≤◌, ◌<◌}
use Rattle.std.proofs.Math.Logic.{ite, if_pos, if_neg}
use Rattle.std.proofs.Math.Decide.{ℕ_discrete, dec_lt}
use Rattle.algebra.specs.Ring.{Ring, Field}
use Rattle.algebra.specs.RingLaws.{⊞-cancel, ⊞-swap, ⊞-self-l, ⊠-lc, ⊠-zero, one-⊠}
use Rattle.algebra.specs.Series.{pow, eval, conv}
use Rattle.algebra.specs.SeriesLaws.{sum_last, sum_ext, sum_add, sum_mul, sum_zero, eval_more, conv_add_r, conv_head}
use Rattle.algebra.specs.Roots.{Distinct, apart, weigh}
use Rattle.algebra.specs.Register.{Gen}
use Rattle.algebra.specs.Locator.{syndrome, at_roots}

module _ {F : Type 0} (K : Field F) where
  open K.ring use {𝟘, ◌⊞◌, ◌⊠◌, ⊞-comm, ⊞-zero, ⊞-self, ⊠-assoc, ⊠-comm, ⊠-one, ⊠-dist}

  infixl 60 ◌⊞◌
  infixl 70 ◌⊠◌
  abbrev R : Ring F
  R = K.ring

  -- ---- n power sequences with different bases take any n values: one base more
  module _ (n : ℕ) (x : ℕ → F) (x-d : Distinct (suc n) x) (s z : ℕ → F)
      (z-is : (j : ℕ) → j < n → s (suc j) ⊞ x n ⊠ s j ≡ syndrome R n z x j) where
    w : ℕ → F
    w p = z p ⊠ K.inv (x p ⊞ x n)

    w_law : (p : ℕ) → p < n → w p ⊠ (x p ⊞ x n) ≡ z p
    unfolding w
    w_law p h =
        ⊠-assoc (z p) _ _ ∙ ap (λ y. z p ⊠ y) (⊠-comm _ _ ∙ K.inv_law (x p ⊞ x n) (apart K (x p) (x n) (x-d p n h (le_refl (suc n))))) ∙ ⊠-one (z p)

    -- what the first n leave
    left : ℕ → F
    left j = s j ⊞ syndrome R n w x j

    part : (j : ℕ) → syndrome R n w x (suc j) ⊞ x n ⊠ syndrome R n w x j ≡ syndrome R n z x j
    unfolding syndrome pow
    part j =
        ap (λ y. syndrome R n w x (suc j) ⊞ y) (sym (sum_mul R n (x n) (λ p. w p ⊠ pow R (x p) j)))
        ∙ sym (sum_add R n (λ p. w p ⊠ pow R (x p) (suc j)) (λ p. x n ⊠ (w p ⊠ pow R (x p) j)))
        ∙ sum_ext R n _ _ (λ p h. sym (weigh K (w p) (x p) (x n) (pow R (x p) j)) ∙ ap (λ y. y ⊠ pow R (x p) j) (w_law p h))

    left_step : (j : ℕ) → j < n → left (suc j) ≡ x n ⊠ left j
    unfolding left
    left_step j h =
        ⊞-cancel R _ _
        (ap (λ y. left (suc j) ⊞ y) (⊠-dist (x n) (s j) (syndrome R n w x j)) ∙ ⊞-swap R _ _ _ _ ∙ ap₂ ◌⊞◌ (z-is j h) (part j) ∙ ⊞-self _)

    left_pow : (j : ℕ) → j < suc n → left j ≡ left 0 ⊠ pow R (x n) j
    unfolding pow
    left_pow zero h = sym (⊠-one (left 0))
    left_pow (suc j) h = left_step j (omega arith) ∙ ap (λ y. x n ⊠ y) (left_pow j (omega arith)) ∙ ⊠-lc R (x n) (left 0) _

    more : ℕ → F
    more p = ite (dec_lt p n) (w p) (left 0)

    more_is : (j : ℕ) → j < suc n → s j ≡ syndrome R (suc n) more x j
    unfolding syndrome more left
    more_is j h =
        sym (⊞-self-l R (syndrome R n w x j) (s j)) ∙ ap (λ y. syndrome R n w x j ⊞ y) (⊞-comm _ (s j) ∙ left_pow j h)
        ∙ ap₂ ◌⊞◌ (sum_ext R n _ _ (λ p g. ap (λ y. y ⊠ pow R (x p) j) (sym (if_pos (dec_lt p n) g (w p) (left 0)))))
        (ap (λ y. y ⊠ pow R (x n) j) (sym (if_neg (dec_lt n n) (λ g. omega arith) (w n) (left 0))))
        ∙ sym (sum_last R n (λ p. more p ⊠ pow R (x p) j))

  interpolate : (n : ℕ) (x : ℕ → F) → Distinct n x → (s : ℕ → F) → (y : ℕ → F) × ((j : ℕ) → j < n → s j ≡ syndrome R n y x j)
  interpolate zero x d s = (s, λ j h. absurd (not-suc-le-zero h))
  interpolate (suc n) x d s =
      let r = interpolate n x (λ i j h h'. d i j h (omega arith)) (λ j. s (suc j) ⊞ x n ⊠ s j) in
      (more n x d s r.0 r.1, more_is n x d s r.0 r.1)

  -- ---- the first l of s, and the register, give the others
  module _ (s : ℕ → F) (k : ℕ) (c : ℕ → F) (l : ℕ) (g : Gen R s k c l) (x : ℕ → F) (x-nz : (p : ℕ) → p < l → x p ≢ 𝟘) (x-d : Distinct l x)
      (root : (p : ℕ) → p < l → eval R (suc l) c (K.inv (x p)) ≡ 𝟘) where
    -- the register generates the powers of the inverses of its roots, for ever
    powers : (y : ℕ → F) (n : ℕ) → l ≤ n → conv R c (syndrome R l y x) n ≡ 𝟘
    powers y n h =
        at_roots K l y x x-nz c n
        ∙ sum_zero R l _ (λ p a. ap (λ v. y p ⊠ (pow R (x p) n ⊠ v)) (eval_more R (suc l) (suc n) c _ (omega arith) (λ i b. g.supp i b) ∙ root p a)
        ∙ ap (λ v. y p ⊠ v) (⊠-zero R _) ∙ ⊠-zero R (y p))

    module _ (y : ℕ → F) (y_is : (j : ℕ) → j < l → s j ≡ syndrome R l y x j) where
      rest : ℕ → F
      rest j = s j ⊞ syndrome R l y x j

      at : (n : ℕ) → n < k → ((j : ℕ) → j < n → rest j ≡ 𝟘) → Dec (n < l) → rest n ≡ 𝟘
      unfolding rest
      at n h low (yes a) = ap (λ v. v ⊞ syndrome R l y x n) (y_is n a) ∙ ⊞-self _
      at n h low (no a) =
          sym (one-⊠ R (rest n)) ∙ ap (λ v. v ⊠ rest n) (sym g.head)
          ∙ sym (conv_head R n c rest (λ i j e. ap (λ v. c (suc i) ⊠ v) (low j (omega arith)) ∙ ⊠-zero R _))
          ∙ conv_add_r R n c s (syndrome R l y x) ∙ ap₂ ◌⊞◌ (g.zeros n (omega arith) h) (powers y n (omega arith)) ∙ ⊞-zero 𝟘

      below : (m j : ℕ) → m ≤ k → j < m → rest j ≡ 𝟘
      below zero j a h = absurd (not-suc-le-zero h)
      below (suc m) j a h = pick (ℕ_discrete j m) (λ i. below m i (omega arith))
        where
          pick : Dec (j ≡ m) → ((i : ℕ) → i < m → rest i ≡ 𝟘) → rest j ≡ 𝟘
          pick (yes e) low = ap rest e ∙ at m a low (dec_lt m l)
          pick (no ne) low = low j (omega arith)

    pub split : (y : ℕ → F) × ((j : ℕ) → j < k → s j ≡ syndrome R l y x j)
    unfolding rest
    split = let r = interpolate l x x-d s in (r.0, λ j h. ⊞-cancel R _ _ (below r.0 r.1 k j (le_refl k) h))
