-- Over a field: a polynomial of n coefficients with n roots is zero; a combination of n power sequences that vanishes n times is zero
-- (Vandermonde); powers of an element below its order differ.
use Rattle.std.specs.Prelude.{◌≡◌, ◌≢◌, ◌⊎◌}
use Rattle.std.proofs.Math.Path.{sym, ap, ap₂}
use Rattle.std.proofs.Common.{◌∙◌, inl, inr, not-suc-le-zero, le_of_suc-le-suc, le_refl, arith, ℕ, zero, suc, ◌+◌, ◌-◌, ◌<◌}
use Rattle.std.proofs.Math.Decide.{ℕ_discrete}
use Rattle.algebra.specs.Ring.{Ring, Field}
use Rattle.algebra.specs.RingLaws.{⊠-lc, zero-⊞, dist-⊠, ⊠-zero, zero-⊠, ⊞-self-l, ⊞-swap, ⊞-cancel, square_add}
use Rattle.algebra.specs.Series.{pow, eval}
use Rattle.algebra.specs.SeriesLaws.{sum, sum_ext, sum_add, sum_mul, sum_zero, pow_add, eval_zero}

-- the first n of a sequence differ
abbrev pub Distinct {ℓ} : {F : Type ℓ} → ℕ → (ℕ → F) → Type ℓ
Distinct n x = (i j : ℕ) → i < j → j < n → x i ≢ x j

module _ {F : Type 0} (K : Field F) where
  open K.ring use {𝟘, 𝟙, ◌⊞◌, ◌⊠◌, ⊞-assoc, ⊞-comm, ⊞-zero, ⊞-self, ⊠-assoc, ⊠-comm, ⊠-one, ⊠-dist}

  infixl 60 ◌⊞◌
  infixl 70 ◌⊠◌
  abbrev R : Ring F
  R = K.ring

  -- no divisors of zero
  pub domain : (a b : F) → a ⊠ b ≡ 𝟘 → b ≢ 𝟘 → a ≡ 𝟘
  domain a b e nz =
      sym (⊠-one a) ∙ ap (λ y. a ⊠ y) (sym (K.inv_law b nz)) ∙ sym (⊠-assoc a b (K.inv b)) ∙ ap (λ y. y ⊠ K.inv b) e ∙ zero-⊠ R (K.inv b)

  pub apart : (a b : F) → a ≢ b → a ⊞ b ≢ 𝟘
  apart a b ne e = ne (⊞-cancel R a b e)

  pub pow_nz : (a : F) (n : ℕ) → a ≢ 𝟘 → pow R a n ≢ 𝟘
  unfolding pow
  pow_nz a zero nz q = K.one_nz q
  pow_nz a (suc n) nz q = nz (domain a (pow R a n) q (pow_nz a n nz))

  -- inverses of different elements differ
  pub inv_inj : (a b : F) → a ≢ 𝟘 → b ≢ 𝟘 → K.inv a ≡ K.inv b → a ≡ b
  inv_inj a b na nb e =
      sym (⊠-one a) ∙ ap (λ w. a ⊠ w) (sym (K.inv_law b nb)) ∙ ap (λ w. a ⊠ (b ⊠ w)) (sym e)
      ∙ ⊠-lc R a b _ ∙ ap (λ w. b ⊠ w) (K.inv_law a na) ∙ ⊠-one b

  -- squares of different elements differ
  pub square_inj : (a b : F) → a ⊠ a ≡ b ⊠ b → a ≡ b
  square_inj a b e = pick (K.dec (a ⊞ b) 𝟘)
    where
      zero : (a ⊞ b) ⊠ (a ⊞ b) ≡ 𝟘
      zero = square_add R a b ∙ ap (λ y. y ⊞ b ⊠ b) e ∙ ⊞-self (b ⊠ b)

      pick : Dec (a ⊞ b ≡ 𝟘) → a ≡ b
      pick (yes z) = ⊞-cancel R a b z
      pick (no nz) = absurd (nz (domain (a ⊞ b) (a ⊞ b) zero nz))

  -- only 0 and 1 are their own squares
  pub idempotent : (a : F) → a ⊠ a ≡ a → (a ≡ 𝟘) ⊎ (a ≡ 𝟙)
  idempotent a e = pick (K.dec a 𝟘)
    where
      pick : Dec (a ≡ 𝟘) → (a ≡ 𝟘) ⊎ (a ≡ 𝟙)
      pick (yes z) = inl z
      pick (no nz) =
          inr (sym (⊠-one a) ∙ ap (λ y. a ⊠ y) (sym (K.inv_law a nz)) ∙ sym (⊠-assoc a a (K.inv a)) ∙ ap (λ y. y ⊠ K.inv a) e ∙ K.inv_law a nz)

  -- ---- division by x - a
  quot : F → ℕ → (ℕ → F) → ℕ → F
  quot a zero c i = 𝟘
  quot a (suc n) c zero = eval R (suc n) c a
  quot a (suc n) c (suc i) = quot a n (λ j. c (suc j)) i

  factor : (n : ℕ) (c : ℕ → F) (x a : F) → eval R (suc n) c x ⊞ eval R (suc n) c a ≡ (x ⊞ a) ⊠ eval R n (quot a n (λ j. c (suc j))) x
  unfolding eval quot
  factor zero c x a = ap₂ (λ y z. (c 0 ⊞ y) ⊞ (c 0 ⊞ z)) (⊠-zero R x) (⊠-zero R a) ∙ ⊞-self (c 0 ⊞ 𝟘) ∙ sym (⊠-zero R (x ⊞ a))
  factor (suc n) c x a =
      ⊞-swap R (c 0) (x ⊠ ex) (c 0) (a ⊠ ea) ∙ ap (λ y. y ⊞ (x ⊠ ex ⊞ a ⊠ ea)) (⊞-self (c 0)) ∙ zero-⊞ R _
      ∙ sym (⊠-dist (x ⊞ a) ea (x ⊠ rest) ∙ ap (λ y. (x ⊞ a) ⊠ ea ⊞ y) (⊠-lc R (x ⊞ a) x rest ∙ ap (λ y. x ⊠ y) (sym (factor n (λ j. c (suc j)) x a)))
      ∙ ap₂ ◌⊞◌ (dist-⊠ R x a ea) (⊠-dist x ex ea) ∙ arrange (x ⊠ ea) (a ⊠ ea) (x ⊠ ex))
    where
      ex : F
      ex = eval R (suc n) (λ j. c (suc j)) x

      ea : F
      ea = eval R (suc n) (λ j. c (suc j)) a

      rest : F
      rest = eval R n (quot a n (λ j. c (suc (suc j)))) x

      arrange : (p q r : F) → (p ⊞ q) ⊞ (r ⊞ p) ≡ r ⊞ q
      arrange p q r = ap₂ ◌⊞◌ (⊞-comm p q) (⊞-comm r p) ∙ ⊞-assoc q p (p ⊞ r) ∙ ap (λ y. q ⊞ y) (⊞-self-l R p r) ∙ ⊞-comm q r

  -- a polynomial whose other coefficients are zero is its first one
  constant : (n : ℕ) (c : ℕ → F) (a : F) → ((i : ℕ) → i < n → c (suc i) ≡ 𝟘) → c 0 ≡ eval R (suc n) c a
  unfolding eval
  constant n c a t = sym (⊞-zero (c 0)) ∙ ap (λ y. c 0 ⊞ y) (sym (⊠-zero R a)) ∙ ap (λ y. c 0 ⊞ a ⊠ y) (sym (eval_zero R n (λ j. c (suc j)) a t))

  quot_zero : (a : F) (n : ℕ) (c : ℕ → F) → ((i : ℕ) → i < n → quot a n c i ≡ 𝟘) → (i : ℕ) → i < n → c i ≡ 𝟘
  unfolding quot
  quot_zero a zero c h i k = absurd (not-suc-le-zero k)
  quot_zero a (suc n) c h zero k = constant n c a (quot_zero a n (λ j. c (suc j)) (λ j l. h (suc j) (omega arith))) ∙ h 0 k
  quot_zero a (suc n) c h (suc i) k = quot_zero a n (λ j. c (suc j)) (λ j l. h (suc j) (omega arith)) i (le_of_suc-le-suc k)

  -- one root less
  lower : (n : ℕ) (c x : ℕ → F) → Distinct (suc n) x → ((p : ℕ) → p < suc n → eval R (suc n) c (x p) ≡ 𝟘)
      → (p : ℕ) → p < n → eval R n (quot (x n) n (λ j. c (suc j))) (x p) ≡ 𝟘
  lower n c x d r p h =
      domain _ (x p ⊞ x n) (⊠-comm _ (x p ⊞ x n) ∙ sym (factor n c (x p) (x n)) ∙ ap₂ ◌⊞◌ (r p (omega arith)) (r n (omega arith)) ∙ ⊞-zero 𝟘)
      (apart (x p) (x n) (d p n h (omega arith)))

  lift : (n : ℕ) (c : ℕ → F) (a : F) → eval R (suc n) c a ≡ 𝟘 → ((i : ℕ) → i < n → c (suc i) ≡ 𝟘) → (i : ℕ) → i < suc n → c i ≡ 𝟘
  lift n c a r t zero h = constant n c a t ∙ r
  lift n c a r t (suc i) h = t i (le_of_suc-le-suc h)

  pub roots : (n : ℕ) (c x : ℕ → F) → Distinct n x → ((p : ℕ) → p < n → eval R n c (x p) ≡ 𝟘) → (i : ℕ) → i < n → c i ≡ 𝟘
  roots zero c x d r i h = absurd (not-suc-le-zero h)
  roots (suc n) c x d r i h =
      lift n c (x n) (r n (le_refl (suc n)))
      (quot_zero (x n) n (λ j. c (suc j))
      (roots n (quot (x n) n (λ j. c (suc j))) x (λ i j l k. d i j l (omega arith)) (lower n c x d r))) i h

  -- ---- Vandermonde
  pub weigh : (y x a q : F) → (y ⊠ (x ⊞ a)) ⊠ q ≡ y ⊠ (x ⊠ q) ⊞ a ⊠ (y ⊠ q)
  weigh y x a q =
      ap (λ z. z ⊠ q) (⊠-dist y x a) ∙ dist-⊠ R (y ⊠ x) (y ⊠ a) q
      ∙ ap₂ ◌⊞◌ (⊠-assoc y x q) (⊠-assoc y a q ∙ ⊠-lc R y a q)

  shave : (n : ℕ) (y x : ℕ → F) (j : ℕ)
      → sum R (suc n) (λ p. y p ⊠ pow R (x p) j) ≡ 𝟘 → sum R (suc n) (λ p. y p ⊠ pow R (x p) (suc j)) ≡ 𝟘
      → sum R n (λ p. (y p ⊠ (x p ⊞ x n)) ⊠ pow R (x p) j) ≡ 𝟘
  unfolding sum pow
  shave n y x j e e' =
      sym (⊞-zero _) ∙ ap (λ z. sum R n (λ p. (y p ⊠ (x p ⊞ x n)) ⊠ pow R (x p) j) ⊞ z) (sym last)
      ∙ sum_ext R (suc n) _ (λ p. y p ⊠ pow R (x p) (suc j) ⊞ x n ⊠ (y p ⊠ pow R (x p) j)) (λ p h. weigh (y p) (x p) (x n) (pow R (x p) j))
      ∙ sum_add R (suc n) (λ p. y p ⊠ pow R (x p) (suc j)) (λ p. x n ⊠ (y p ⊠ pow R (x p) j))
      ∙ ap₂ ◌⊞◌ e' (sum_mul R (suc n) (x n) (λ p. y p ⊠ pow R (x p) j) ∙ ap (λ z. x n ⊠ z) e ∙ ⊠-zero R (x n)) ∙ ⊞-zero 𝟘
    where
      last : (y n ⊠ (x n ⊞ x n)) ⊠ pow R (x n) j ≡ 𝟘
      last = ap (λ z. (y n ⊠ z) ⊠ pow R (x n) j) (⊞-self (x n)) ∙ ap (λ z. z ⊠ pow R (x n) j) (⊠-zero R (y n)) ∙ zero-⊠ R _

  top : (n : ℕ) (y x : ℕ → F) → sum R (suc n) (λ p. y p ⊠ pow R (x p) 0) ≡ 𝟘 → ((p : ℕ) → p < n → y p ≡ 𝟘) → (p : ℕ) → p < suc n → y p ≡ 𝟘
  unfolding sum pow
  top n y x e z p h = pick (ℕ_discrete p n)
    where
      yn : y n ≡ 𝟘
      yn =
          sym (⊠-one (y n)) ∙ sym (zero-⊞ R _)
          ∙ ap (λ w. w ⊞ y n ⊠ 𝟙) (sym (sum_zero R n (λ p. y p ⊠ 𝟙) (λ p k. ap (λ w. w ⊠ 𝟙) (z p k) ∙ ⊠-one 𝟘))) ∙ e

      pick : Dec (p ≡ n) → y p ≡ 𝟘
      pick (yes q) = ap y q ∙ yn
      pick (no ne) = z p (omega arith)

  pub vandermonde : (n : ℕ) (y x : ℕ → F) → Distinct n x → ((j : ℕ) → j < n → sum R n (λ p. y p ⊠ pow R (x p) j) ≡ 𝟘) → (p : ℕ) → p < n → y p ≡ 𝟘
  vandermonde zero y x d e p h = absurd (not-suc-le-zero h)
  vandermonde (suc n) y x d e p h =
      top n y x (e 0 (omega arith))
      (λ p k. domain (y p) (x p ⊞ x n)
      (vandermonde n (λ p. y p ⊠ (x p ⊞ x n)) x (λ i j l k. d i j l (omega arith))
      (λ j k. shave n y x j (e j (omega arith)) (e (suc j) (omega arith))) p k)
      (apart (x p) (x n) (d p n k (le_refl (suc n))))) p h

  -- ---- an element of order n: its powers are not zero, and the first n of them differ
  pub power_nz : (a : F) (n : ℕ) → 0 < n → pow R a n ≡ 𝟙 → (i : ℕ) → pow R a i ≢ 𝟘
  unfolding pow
  power_nz a zero h e i = absurd (not-suc-le-zero h)
  power_nz a (suc n) h e i = pow_nz a i (λ z. K.one_nz (sym e ∙ ap (λ y. y ⊠ pow R a n) z ∙ zero-⊠ R _))

  pub power_distinct : (a : F) (n : ℕ) → pow R a n ≡ 𝟙 → ((i : ℕ) → 0 < i → i < n → pow R a i ≢ 𝟙) → Distinct n (pow R a)
  power_distinct a n full order i j h h' e = order (j - i) (omega arith) (omega arith) one
    where
      split : j ≡ i + (j - i)
      split = omega arith

      product : (pow R a (j - i) ⊞ 𝟙) ⊠ pow R a i ≡ 𝟘
      product =
          ⊠-comm _ _ ∙ ⊠-dist (pow R a i) (pow R a (j - i)) 𝟙
          ∙ ap₂ ◌⊞◌ (sym (pow_add R a i (j - i)) ∙ ap (pow R a) (sym split) ∙ sym e) (⊠-one _) ∙ ⊞-self _

      one : pow R a (j - i) ≡ 𝟙
      one = ⊞-cancel R _ _ (domain _ (pow R a i) product (power_nz a n (omega arith) full i))
