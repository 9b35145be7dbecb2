-- A shortest register for the syndromes of e errors, from twice as many syndromes, has the errors' inverse locators as its roots, and no others.
use Rattle.std.specs.Prelude.{◌≡◌, ◌≢◌}
use Rattle.std.proofs.Math.Path.{refl, sym, ap, ap₂}
use Rattle.std.proofs.Common.{◌∙◌, not-suc-le-zero, le_of_suc-le-suc, arith, ℕ, zero, suc, ◌+◌, ◌≤◌, ◌<◌}
use Rattle.std.proofs.Math.Logic.{ite, if_pos, if_neg}
use Rattle.std.proofs.Math.Nat.{le-suc}
use Rattle.std.proofs.Math.Decide.{ℕ_discrete, dec_le, dec_lt}
use Rattle.algebra.specs.Ring.{Ring, Field}
use Rattle.algebra.specs.RingLaws.{⊠-lc, zero-⊞, one-⊠, ⊠-zero, ⊞-swap}
use Rattle.algebra.specs.Series.{pow, eval, conv}
use Rattle.algebra.specs.SeriesLaws.{sum, sum_ext, sum_zero, sum_none, sum_mul, sum_front, pow_add, eval_more, unit, up, conv_vanish, conv_add_r, conv_mul_r, conv_pow}
use Rattle.algebra.specs.Roots.{Distinct, domain, pow_nz, inv_inj, roots, vandermonde}
use Rattle.algebra.specs.Register.{Gen}

module _ {F : Type 0} (R : Ring F) where
  open R use {𝟘, 𝟙, ◌⊞◌, ◌⊠◌, ⊞-zero, ⊞-self, ⊠-assoc, ⊠-one, ⊠-dist}

  infixl 60 ◌⊞◌
  infixl 70 ◌⊠◌
  unfoldable pub syndrome : ℕ → (ℕ → F) → (ℕ → F) → ℕ → F
  syndrome e y x n = sum R e (λ p. y p ⊠ pow R (x p) n)

  conv_zero : (n : ℕ) (c : ℕ → F) → conv R c (λ i. 𝟘) n ≡ 𝟘
  conv_zero n c = conv_vanish R n c (λ i. 𝟘) (λ i j e. ⊠-zero R (c i))

  conv_syndrome : (e : ℕ) (y x : ℕ → F) (c : ℕ → F) (n : ℕ) → conv R c (syndrome e y x) n ≡ sum R e (λ p. y p ⊠ conv R c (pow R (x p)) n)
  unfolding syndrome sum
  conv_syndrome zero y x c n = conv_zero n c
  conv_syndrome (suc e) y x c n =
      conv_add_r R n c (syndrome e y x) (λ m. y e ⊠ pow R (x e) m) ∙ ap₂ ◌⊞◌ (conv_syndrome e y x c n) (conv_mul_r R n (y e) c (pow R (x e)))

  -- ---- evaluation of sums and shifts
  eval_add : (n : ℕ) (c d : ℕ → F) (z : F) → eval R n (λ i. c i ⊞ d i) z ≡ eval R n c z ⊞ eval R n d z
  unfolding eval
  eval_add zero c d z = sym (⊞-zero 𝟘)
  eval_add (suc n) c d z =
      ap (λ y. (c 0 ⊞ d 0) ⊞ z ⊠ y) (eval_add n (λ i. c (suc i)) (λ i. d (suc i)) z) ∙ ap (λ y. (c 0 ⊞ d 0) ⊞ y) (⊠-dist z _ _) ∙ ⊞-swap R _ _ _ _

  eval_mul : (n : ℕ) (k : F) (c : ℕ → F) (z : F) → eval R n (λ i. k ⊠ c i) z ≡ k ⊠ eval R n c z
  unfolding eval
  eval_mul zero k c z = sym (⊠-zero R k)
  eval_mul (suc n) k c z = ap (λ y. k ⊠ c 0 ⊞ z ⊠ y) (eval_mul n k (λ i. c (suc i)) z) ∙ ap (λ y. k ⊠ c 0 ⊞ y) (⊠-lc R z k _) ∙ sym (⊠-dist k _ _)

  pub eval_sums : (n : ℕ) (c : ℕ → F) (z : F) → eval R n c z ≡ sum R n (λ p. c p ⊠ pow R z p)
  unfolding eval pow
  eval_sums zero c z = sym (sum_none R _)
  eval_sums (suc n) c z =
      ap (λ y. c 0 ⊞ z ⊠ y) (eval_sums n (λ i. c (suc i)) z)
      ∙ ap₂ ◌⊞◌ (sym (⊠-one (c 0))) (sym (sum_mul R n z _) ∙ sum_ext R n _ _ (λ p h. ⊠-lc R z (c (suc p)) (pow R z p)))
      ∙ sym (sum_front R n (λ p. c p ⊠ pow R z p))

  eval_up : (n : ℕ) (c : ℕ → F) (z : F) → eval R (suc n) (up R c) z ≡ z ⊠ eval R n c z
  unfolding eval up
  eval_up n c z = zero-⊞ R _

  -- ---- the locator polynomial of the first p of x
  unfoldable pub locator : (ℕ → F) → ℕ → ℕ → F
  locator x zero = unit R
  locator x (suc p) = λ i. locator x p i ⊞ x p ⊠ up R (locator x p) i

  locator_head : (x : ℕ → F) (p : ℕ) → locator x p 0 ≡ 𝟙
  unfolding locator unit up
  locator_head x zero = refl
  locator_head x (suc p) = ap₂ ◌⊞◌ (locator_head x p) (⊠-zero R (x p)) ∙ ⊞-zero 𝟙

  locator_supp : (x : ℕ → F) (p i : ℕ) → p < i → locator x p i ≡ 𝟘
  unfolding locator unit up
  locator_supp x zero zero h = absurd (not-suc-le-zero h)
  locator_supp x zero (suc i) h = refl
  locator_supp x (suc p) zero h = absurd (not-suc-le-zero h)
  locator_supp x (suc p) (suc i) h =
      ap₂ (λ y z. y ⊞ x p ⊠ z) (locator_supp x p (suc i) (omega arith)) (locator_supp x p i (omega arith)) ∙ ap (λ y. 𝟘 ⊞ y) (⊠-zero R (x p)) ∙ ⊞-zero 𝟘

  locator_eval : (x : ℕ → F) (p n : ℕ) (z : F) → p < n → eval R (suc n) (locator x (suc p)) z ≡ eval R n (locator x p) z ⊞ x p ⊠ (z ⊠ eval R n (locator x p) z)
  unfolding locator
  locator_eval x p n z h =
      eval_add (suc n) (locator x p) (λ i. x p ⊠ up R (locator x p) i) z
      ∙ ap₂ ◌⊞◌ (eval_more R n (suc n) (locator x p) z (le-suc n) (λ i l. locator_supp x p i (omega arith)))
      (eval_mul (suc n) (x p) (up R (locator x p)) z ∙ ap (λ y. x p ⊠ y) (eval_up n (locator x p) z))

  locator_root : (x : ℕ → F) (p n q : ℕ) (z : F) → p < n → q < p → x q ⊠ z ≡ 𝟙 → eval R n (locator x p) z ≡ 𝟘
  locator_root x zero n q z h k e = absurd (not-suc-le-zero k)
  locator_root x (suc p) zero q z h k e = absurd (not-suc-le-zero h)
  locator_root x (suc p) (suc n) q z h k e =
      locator_eval x p n z (le_of_suc-le-suc h) ∙ pick (ℕ_discrete q p) (λ k. locator_root x p n q z (le_of_suc-le-suc h) k e)
    where
      v : F
      v = eval R n (locator x p) z

      pick : Dec (q ≡ p) → (q < p → v ≡ 𝟘) → v ⊞ x p ⊠ (z ⊠ v) ≡ 𝟘
      pick (yes d) r = ap (λ y. v ⊞ y) (sym (⊠-assoc (x p) z v) ∙ ap (λ y. y ⊠ v) (ap (λ m. x m ⊠ z) (sym d) ∙ e) ∙ one-⊠ R v) ∙ ⊞-self v
      pick (no ne) r =
          ap (λ y. y ⊞ x p ⊠ (z ⊠ y)) (r (omega arith)) ∙ ap (λ y. 𝟘 ⊞ x p ⊠ y) (⊠-zero R z) ∙ ap (λ y. 𝟘 ⊞ y) (⊠-zero R (x p)) ∙ ⊞-zero 𝟘

module _ {F : Type 0} (K : Field F) (e : ℕ) (y x : ℕ → F) where
  open K.ring use {𝟘, ◌⊠◌, ⊠-assoc, ⊠-comm}

  infixl 70 ◌⊠◌
  abbrev R₁ : Ring F
  R₁ = K.ring

  module _ (x-nz : (p : ℕ) → p < e → x p ≢ 𝟘) where
    pub at_roots : (c : ℕ → F) (n : ℕ) → conv R₁ c (syndrome R₁ e y x) n ≡ sum R₁ e (λ p. y p ⊠ (pow R₁ (x p) n ⊠ eval R₁ (suc n) c (K.inv (x p))))
    at_roots c n =
        conv_syndrome R₁ e y x c n
        ∙ sum_ext R₁ e _ _ (λ p h. ap (λ w. y p ⊠ w) (conv_pow R₁ n c (x p) (K.inv (x p)) (K.inv_law (x p) (x-nz p h))))

    pub locator_gen : (k : ℕ) → Gen R₁ (syndrome R₁ e y x) k (locator R₁ x e) e
    locator_gen k =
        record {
          head = locator_head R₁ x e;
          supp = locator_supp R₁ x e;
          zeros = λ n h h'.
              at_roots (locator R₁ x e) n
              ∙ sum_zero R₁ e _ (λ p l. ap (λ w. y p ⊠ (pow R₁ (x p) n ⊠ w)) (locator_root R₁ x e (suc n) p (K.inv (x p)) (omega arith) l (K.inv_law (x p) (x-nz p l)))
              ∙ ap (λ w. y p ⊠ w) (⊠-zero R₁ _) ∙ ⊠-zero R₁ (y p));
        }

    module _ (y-nz : (p : ℕ) → p < e → y p ≢ 𝟘) (x-d : Distinct e x) (k : ℕ) (enough : e + e ≤ k) (c : ℕ → F) (l : ℕ)
        (gen : Gen R₁ (syndrome R₁ e y x) k c l) (fits : l ≤ e) where
      -- each error's inverse locator is a root
      pub all_roots : (p : ℕ) → p < e → eval R₁ (suc l) c (K.inv (x p)) ≡ 𝟘
      all_roots p h =
          domain K _ (pow R₁ (x p) l) (⊠-comm _ _ ∙ domain K _ (y p) (⊠-comm _ (y p) ∙ vandermonde K e w x x-d eqs p h) (y-nz p h)) (pow_nz K (x p) l (x-nz p h))
        where
          v : ℕ → F
          v p = eval R₁ (suc l) c (K.inv (x p))

          w : ℕ → F
          w p = y p ⊠ (pow R₁ (x p) l ⊠ v p)

          eqs : (j : ℕ) → j < e → sum R₁ e (λ p. w p ⊠ pow R₁ (x p) j) ≡ 𝟘
          eqs j a =
              sum_ext R₁ e _ (λ p. y p ⊠ (pow R₁ (x p) (l + j) ⊠ eval R₁ (suc (l + j)) c (K.inv (x p)))) (λ p _.
              ⊠-assoc (y p) _ _ ∙ ap (λ z. y p ⊠ z) (⊠-assoc (pow R₁ (x p) l) (v p) _ ∙ ap (λ z. pow R₁ (x p) l ⊠ z) (⊠-comm (v p) _) ∙ sym (⊠-assoc _ _ (v p))
              ∙ ap₂ ◌⊠◌ (sym (pow_add R₁ (x p) l j)) (sym (eval_more R₁ (suc l) (suc (l + j)) c _ (omega arith) (λ i q. gen.supp i q)))))
              ∙ sym (at_roots c (l + j)) ∙ gen.zeros (l + j) (omega arith) (omega arith)

      inv_distinct : Distinct e (λ p. K.inv (x p))
      inv_distinct i j h h' d = x-d i j h h' (inv_inj K (x i) (x j) (x-nz i (omega arith)) (x-nz j h') d)

      too_many : (r : ℕ → F) → Distinct (suc l) r → ((p : ℕ) → p < suc l → eval R₁ (suc l) c (r p) ≡ 𝟘) → ⊥
      too_many r d z = K.one_nz (sym gen.head ∙ roots K (suc l) c r d z 0 (omega arith))

      pub length_is : l ≡ e
      length_is = pick (dec_le e l)
        where
          pick : Dec (e ≤ l) → l ≡ e
          pick (yes h) = omega arith
          pick (no h) = absurd (too_many (λ p. K.inv (x p)) (λ i j a b. inv_distinct i j a (omega arith)) (λ p a. all_roots p (omega arith)))

      -- the inverse locators, and one more
      with_one : F → ℕ → F
      with_one z i = ite (dec_lt i e) (K.inv (x i)) z

      pub only_roots : (z : F) → eval R₁ (suc l) c z ≡ 𝟘 → ((p : ℕ) → p < e → z ≢ K.inv (x p)) → ⊥
      unfolding with_one
      only_roots z r ne = too_many (with_one z) differ zero_at
        where
          low : (i : ℕ) → i < e → with_one z i ≡ K.inv (x i)
          low i h = if_pos (dec_lt i e) h (K.inv (x i)) z

          high : (i : ℕ) → ¬ (i < e) → with_one z i ≡ z
          high i h = if_neg (dec_lt i e) h (K.inv (x i)) z

          differ : Distinct (suc l) (with_one z)
          differ i j h h' d = pick (dec_lt j e)
            where
              hi : i < e
              hi = omega (arith, length_is)

              pick : Dec (j < e) → ⊥
              pick (yes q) = inv_distinct i j h q (sym (low i hi) ∙ d ∙ low j q)
              pick (no q) = ne i hi (sym (high j q) ∙ sym d ∙ low i hi)

          zero_at : (p : ℕ) → p < suc l → eval R₁ (suc l) c (with_one z p) ≡ 𝟘
          zero_at p h = pick (dec_lt p e)
            where
              pick : Dec (p < e) → eval R₁ (suc l) c (with_one z p) ≡ 𝟘
              pick (yes q) = ap (eval R₁ (suc l) c) (low p q) ∙ all_roots p q
              pick (no q) = ap (eval R₁ (suc l) c) (high p q) ∙ r
