-- Powers of an element of a ring: by squaring, and what its order is a multiple of.
use Rattle.std.specs.Prelude.{◌≡◌, ◌≢◌, Bool, true, not, ◌&&◌, T}
use Rattle.std.proofs.Math.Path.{refl, sym, ap, ap₂}
use Rattle.std.proofs.Common.{◌∙◌, subst, not-suc-le-zero, le_of_suc-le-suc, mul-suc, mul-zero, div-add-mod', mul_comm, mod-lt, zero-lt-suc, ℕ, zero, suc, ◌+◌, ◌*◌, ◌/◌, ◌%◌, ◌^◌, ◌<◌, arith}
use Rattle.std.proofs.Math.Nat.{pow-suc}
use Rattle.std.proofs.Math.Arith.{lt-one}
use Rattle.std.proofs.Math.Dec.{T_not}
use Rattle.std.specs.Float.Ieee.Fits.{and_l, and_r}
use Rattle.laws.specs.Xor.{two_cases, two_pos}
use Rattle.algebra.specs.Ring.{Ring}
use Rattle.algebra.specs.RingLaws.{one-⊠}
use Rattle.algebra.specs.Series.{pow}
use Rattle.algebra.specs.SeriesLaws.{pow_add}

module _ {F : Type 0} (R : Ring F) where
  open R use {𝟙, ◌⊠◌, ⊠-assoc, ⊠-comm, ⊠-one}

  infixl 70 ◌⊠◌
  pow_one : (n : ℕ) → pow R 𝟙 n ≡ 𝟙
  unfolding pow
  pow_one zero = refl
  pow_one (suc n) = one-⊠ R _ ∙ pow_one n

  pub pow_suc' : (a : F) (n : ℕ) → a ⊠ pow R a n ≡ pow R a (suc n)
  unfolding pow
  pow_suc' a n = refl

  pub pow_mul : (a : F) (i j : ℕ) → pow R a (i * j) ≡ pow R (pow R a i) j
  unfolding pow
  pow_mul a i zero = ap (pow R a) (mul-zero i)
  pow_mul a i (suc j) = ap (pow R a) (mul-suc i j) ∙ pow_add R a (i * j) i ∙ ap (λ z. z ⊠ pow R a i) (pow_mul a i j) ∙ ⊠-comm _ _

  pub pow_mod : (u : F) (p i : ℕ) → pow R u p ≡ 𝟙 → pow R u i ≡ pow R u (i % p)
  pow_mod u p i e =
      ap (pow R u) (sym (div-add-mod' i p) ∙ ap (λ z. z + i % p) (mul_comm (i / p) p)) ∙ pow_add R u (p * (i / p)) (i % p)
      ∙ ap (λ z. z ⊠ pow R u (i % p)) (pow_mul u p (i / p) ∙ ap (λ z. pow R z (i / p)) e ∙ pow_one (i / p)) ∙ one-⊠ R _

  -- by squaring: k binary digits
  unfoldable pub digit : ℕ → F → F
  digit zero a = 𝟙
  digit (suc n) a = a

  unfoldable pub fast : ℕ → F → ℕ → F
  fast zero a e = 𝟙
  fast (suc k) a e = digit (e % 2) a ⊠ fast k (a ⊠ a) (e / 2)

  digit_pow : (n : ℕ) (a : F) → n < 2 → digit n a ≡ pow R a n
  unfolding digit pow
  digit_pow n a = two_cases (λ n. digit n a ≡ pow R a n) refl (sym (⊠-one a)) n

  pub square_pow : (a : F) (j : ℕ) → pow R (a ⊠ a) j ≡ pow R a (2 * j)
  unfolding pow
  square_pow a j = ap (λ z. pow R z j) (ap (λ z. a ⊠ z) (sym (⊠-one a))) ∙ sym (pow_mul a 2 j)

  pub fast_pow : (k : ℕ) (a : F) (e : ℕ) → e < 2 ^ k → fast k a e ≡ pow R a e
  unfolding fast pow
  fast_pow zero a e h = sym (ap (pow R a) (lt-one h))
  fast_pow (suc k) a e h =
      ap₂ ◌⊠◌ (digit_pow (e % 2) a (mod-lt e two_pos)) (fast_pow k (a ⊠ a) (e / 2) (omega (arith, pow-suc 2 k)) ∙ square_pow a (e / 2))
      ∙ sym (pow_add R a (e % 2) (2 * (e / 2))) ∙ ap (pow R a) back
    where
      back : e % 2 + 2 * (e / 2) ≡ e
      back = omega arith

  -- ---- the order, a factor at a time: is_one is a test for 1 that a field computes
  -- none of the first k of x, w x, w² x, .. is 1
  unfoldable pub misses : (F → Bool) → ℕ → F → F → Bool
  misses is_one zero w x = true
  misses is_one (suc k) w x = not (is_one x) && misses is_one k w (w ⊠ x)

  module _ (is_one : F → Bool) (isOne-law : (a : F) → a ≡ 𝟙 → T (is_one a)) where
    misses_at : (k : ℕ) (w x : F) → T (misses is_one k w x) → (j : ℕ) → j < k → pow R w j ⊠ x ≢ 𝟙
    unfolding misses pow
    misses_at zero w x t j h e = absurd (not-suc-le-zero h)
    misses_at (suc k) w x t zero h e = T_not (is_one x) (and_l (not (is_one x)) (misses is_one k w (w ⊠ x)) t) (isOne-law x (sym (one-⊠ R x) ∙ e))
    misses_at (suc k) w x t (suc j) h e =
        misses_at k w (w ⊠ x) (and_r (not (is_one x)) (misses is_one k w (w ⊠ x)) t) j (le_of_suc-le-suc h)
        (sym (⊠-assoc (pow R w j) w x) ∙ ap (λ z. z ⊠ x) (⊠-comm (pow R w j) w) ∙ e)

    -- u to the q * suc k is 1, and w = u ^ q has none of its first k powers at 1: then what takes u to 1 is a multiple of suc k
    pub order_part : (u : F) (k q : ℕ) → pow R u (q * suc k) ≡ 𝟙 → (w : F) → w ≡ pow R u q → T (misses is_one k w w)
        → (i : ℕ) → pow R u i ≡ 𝟙 → i % suc k ≡ 0
    order_part u k q full w same t i one = go (i % suc k) refl
      where
        w_full : pow R w (suc k) ≡ 𝟙
        w_full = ap (λ z. pow R z (suc k)) same ∙ sym (pow_mul u q (suc k)) ∙ full

        w_i : pow R w i ≡ 𝟙
        w_i =
            ap (λ z. pow R z i) same ∙ sym (pow_mul u q i) ∙ ap (pow R u) (mul_comm q i) ∙ pow_mul u i q
            ∙ ap (λ z. pow R z q) one ∙ pow_one q

        rest : pow R w (i % suc k) ≡ 𝟙
        rest = sym (pow_mod w (suc k) i w_full) ∙ w_i

        bound : i % suc k < suc k
        bound = mod-lt i (zero-lt-suc k)

        go : (r : ℕ) → i % suc k ≡ r → i % suc k ≡ 0
        go zero d = d
        go (suc j) d =
            let h : suc j < suc k = subst (λ (z : ℕ). z < suc k) d bound in
            absurd (misses_at k w w t j (le_of_suc-le-suc h) (⊠-comm _ w ∙ pow_suc' w j ∙ ap (pow R w) (sym d) ∙ rest))
