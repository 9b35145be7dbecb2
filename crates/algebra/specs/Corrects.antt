-- A shortest register and the errors that have its syndromes: one of at most half as many places as there are syndromes is wrong exactly
-- at the register's roots, as many as it is long (`Found`); and a register with so many roots has such an error (`corrected`). That such an
-- error is found is in proofs/Found.antt, that it is binary if the syndromes are those of a binary word in proofs/Binary.antt.
use Rattle.std.specs.Prelude.{◌≡◌, ◌≢◌, ℕ, suc, ◌+◌, ◌≤◌, ◌<◌}
use Rattle.std.proofs.Math.Path.{sym, ap, subst}
use Rattle.std.proofs.Common.{◌∙◌, arith}
use Rattle.std.proofs.Math.Decide.{dec_le}
use Rattle.algebra.specs.Ring.{Ring, Field}
use Rattle.algebra.specs.RingLaws.{zero-⊠}
use Rattle.algebra.specs.Series.{pow, zeros}
use Rattle.algebra.specs.SeriesLaws.{sum_ext}
use Rattle.algebra.specs.Roots.{Distinct, pow_nz, inv_inj, roots}
use Rattle.algebra.specs.Register.{Shortest}
use Rattle.algebra.specs.Locator.{syndrome}
use Rattle.algebra.specs.Split.{split}
use Rattle.algebra.specs.Errors.{weight, weight_strict, Listing, listing, Syndromes, chien, shift, no_longer}
use Rattle.algebra.specs.Places.{spread, spread_at, spread_off, mark, mark_zero, zero_mark, zeros_mark, zeros_weight}

module _ {F : Type 0} (K : Field F) where
  open K.ring use {𝟘, 𝟙, ◌⊞◌, ◌⊠◌, ⊞-zero, ⊞-self, ⊠-assoc, ⊠-comm, ⊠-one}

  infixl 60 ◌⊞◌
  infixl 70 ◌⊠◌
  abbrev R₃ : Ring F
  R₃ = K.ring

  -- ---- the error ε has the k syndromes s, as many places as the register c is long, and those are c's roots among the n places
  pub record Found (n : ℕ) (x : ℕ → F) (b k : ℕ) (s c : ℕ → F) (l : ℕ) (ε : ℕ → F) : Type 0 where
    pub syndromes : Syndromes K n x b k ε s
    pub count : weight K n ε ≡ l
    pub wrong : (p : ℕ) → p < n → ε p ≢ 𝟘 → chien K c l x p ≡ 𝟘
    pub right : (p : ℕ) → p < n → chien K c l x p ≡ 𝟘 → ε p ≢ 𝟘

  -- ---- n places with locators x
  module _ (n : ℕ) (x : ℕ → F) (x-nz : (p : ℕ) → p < n → x p ≢ 𝟘) (x-d : Distinct n x) where
    -- a register has at most as many roots as it is long
    pub roots_fit : (c : ℕ → F) (l : ℕ) → c 0 ≡ 𝟙 → zeros K n (chien K c l x) ≤ l
    roots_fit c l head = pick (dec_le (suc l) (zeros K n v))
      where
        v : ℕ → F
        v = chien K c l x

        M : Listing K n (mark K v) (weight K n (mark K v))
        M = listing K n (mark K v)

        many : suc l ≤ weight K n (mark K v) → ⊥
        many h =
            K.one_nz (sym head ∙ roots K (suc l) c (λ i. K.inv (x (M.place i)))
            (λ i j a b e. x-d (M.place i) (M.place j) (M.in_order i j a (omega arith)) (M.inside j (omega arith))
            (inv_inj K _ _ (x-nz (M.place i) (M.inside i (omega arith))) (x-nz (M.place j) (M.inside j (omega arith))) e))
            (λ i a. zero_mark K v (M.place i) (M.wrong i (omega arith))) 0 (omega arith))

        pick : Dec (suc l ≤ zeros K n v) → zeros K n v ≤ l
        pick (yes h) = absurd (many (subst (λ (m : ℕ). suc l ≤ m) (zeros_mark K n v) h))
        pick (no h) = omega arith

    module _ (b k : ℕ) (s c : ℕ → F) (l : ℕ) (S : Shortest R₃ s k c l) where
      -- a found error's places are the register's roots, as many as it is long
      pub found_count : (ε : ℕ → F) → Found n x b k s c l ε → zeros K n (chien K c l x) ≡ l
      found_count ε f = zeros_weight K n (chien K c l x) ε f.wrong f.right ∙ f.count

      -- ---- as many roots as the register is long: they are the places of an error with these syndromes
      module _ (full : zeros K n (chien K c l x) ≡ l) where
        v : ℕ → F
        v = chien K c l x

        M : Listing K n (mark K v) l
        unfolding v
        M = subst (λ (m : ℕ). Listing K n (mark K v) m) (sym (zeros_mark K n v) ∙ full) (listing K n (mark K v))

        x₁ : ℕ → F
        x₁ i = x (M.place i)

        parts : (y : ℕ → F) × ((j : ℕ) → j < k → s j ≡ syndrome R₃ l y x₁ j)
        unfolding x₁ v
        parts =
            split K s k c l S.gen x₁ (λ i h. x-nz (M.place i) (M.inside i h))
            (λ i j h h'. x-d (M.place i) (M.place j) (M.in_order i j h h') (M.inside j h')) (λ i h. zero_mark K v (M.place i) (M.wrong i h))

        z : ℕ → F
        z i = parts.0 i ⊠ K.inv (pow R₃ (x₁ i) b)

        -- z_i X_i^b is the i-th part
        z_law : (i : ℕ) → i < l → z i ⊠ pow R₃ (x₁ i) b ≡ parts.0 i
        unfolding z x₁
        z_law i h =
            ⊠-assoc (parts.0 i) _ _ ∙ ap (λ w. parts.0 i ⊠ w) (⊠-comm _ _ ∙ K.inv_law _ (pow_nz K (x₁ i) b (x-nz (M.place i) (M.inside i h)))) ∙ ⊠-one _

        error : ℕ → F
        error = spread 𝟘 M.place z l

        error_off : (p : ℕ) → p < n → mark K v p ≡ 𝟘 → error p ≡ 𝟘
        unfolding error
        error_off p h e = spread_off 𝟘 M.place z l p (λ i a q. M.wrong i a (ap (mark K v) q ∙ e))

        error_at : (i : ℕ) → i < l → error (M.place i) ≡ z i
        unfolding error
        error_at i h = spread_at 𝟘 M.place z l M.in_order i h

        error_syndromes : Syndromes K n x b k error s
        unfolding syndrome x₁
        error_syndromes j h =
            parts.1 j h
            ∙ sum_ext R₃ l _ _ (λ i a. ap (λ w. w ⊠ pow R₃ (x₁ i) j) (sym (z_law i a) ∙ ap (λ w. w ⊠ pow R₃ (x₁ i) b) (sym (error_at i a))) ∙ sym (shift K (error (M.place i)) (x₁ i) b j))
            ∙ sym (M.sums (λ p. error p ⊠ pow R₃ (x p) (b + j)) (λ p a e. ap (λ w. w ⊠ pow R₃ (x p) (b + j)) (error_off p a e) ∙ zero-⊠ R₃ _))

        only_roots : (p : ℕ) → p < n → error p ≢ 𝟘 → mark K v p ≢ 𝟘
        only_roots p h ne e = ne (error_off p h e)

        -- with fewer errors than roots the register would not be a shortest one
        all_roots : (p : ℕ) → p < n → v p ≡ 𝟘 → error p ≢ 𝟘
        unfolding v
        all_roots p h r e =
            let a = weight_strict K n error (mark K v) only_roots p h e (mark_zero K v p r) in
            let a' = no_longer K n x x-nz b k error s error_syndromes c l S in
            omega (arith, zeros_mark K n v, full)

        pub corrected : (ε : ℕ → F) × Found n x b k s c l ε
        unfolding v
        corrected = (
          error,
          record {
            syndromes = error_syndromes;
            count = sym (zeros_weight K n v error (λ p h ne. zero_mark K v p (only_roots p h ne)) all_roots) ∙ full;
            wrong = λ p h ne. zero_mark K v p (only_roots p h ne);
            right = all_roots;
          },
        )
