-- What holds of sequences over a ring: finite sums, powers, values, and the product of power series, `conv`, as a sum at the end.
use Rattle.std.specs.Prelude.{◌≡◌}
use Rattle.std.proofs.Math.Path.{refl, sym, ap, ap₂, fun_ext}
use Rattle.std.proofs.Common.{◌∙◌, not-suc-le-zero, le_of_suc-le-suc, arith, ℕ, zero, suc, ◌+◌, ◌-◌, ◌≤◌, ◌<◌}
use Rattle.std.proofs.Math.Nat.{zero-add, suc-add, suc-sub-suc, sub-zero}
use Rattle.std.proofs.Math.Decide.{le_ind}
use Rattle.algebra.specs.Ring.{Ring}
use Rattle.algebra.specs.Series.{pow, eval, conv}
use Rattle.algebra.specs.RingLaws.{⊠-lc, zero-⊞, one-⊠, dist-⊠, ⊠-zero, zero-⊠, ⊞-swap, ⊠-swap, square_add}

module _ {F : Type 0} (R : Ring F) where
  open R use {𝟘, 𝟙, ◌⊞◌, ◌⊠◌, ⊞-assoc, ⊞-comm, ⊞-zero, ⊠-assoc, ⊠-comm, ⊠-dist}

  infixl 60 ◌⊞◌
  infixl 70 ◌⊠◌
  -- ---- sums
  unfoldable pub sum : ℕ → (ℕ → F) → F
  sum zero f = 𝟘
  sum (suc n) f = sum n f ⊞ f n

  pub sum_last : (n : ℕ) (f : ℕ → F) → sum (suc n) f ≡ sum n f ⊞ f n
  unfolding sum
  sum_last n f = refl

  pub sum_none : (f : ℕ → F) → sum 0 f ≡ 𝟘
  unfolding sum
  sum_none f = refl

  pub sum_ext : (n : ℕ) (f g : ℕ → F) → ((i : ℕ) → i < n → f i ≡ g i) → sum n f ≡ sum n g
  unfolding sum
  sum_ext zero f g h = refl
  sum_ext (suc n) f g h = ap₂ ◌⊞◌ (sum_ext n f g (λ i k. h i (omega arith))) (h n (omega arith))

  pub sum_add : (n : ℕ) (f g : ℕ → F) → sum n (λ i. f i ⊞ g i) ≡ sum n f ⊞ sum n g
  unfolding sum
  sum_add zero f g = sym (⊞-zero 𝟘)
  sum_add (suc n) f g = ap (λ x. x ⊞ (f n ⊞ g n)) (sum_add n f g) ∙ ⊞-swap R _ _ _ _

  pub sum_mul : (n : ℕ) (c : F) (f : ℕ → F) → sum n (λ i. c ⊠ f i) ≡ c ⊠ sum n f
  unfolding sum
  sum_mul zero c f = sym (⊠-zero R c)
  sum_mul (suc n) c f = ap (λ x. x ⊞ c ⊠ f n) (sum_mul n c f) ∙ sym (⊠-dist c (sum n f) (f n))

  pub sum_zero : (n : ℕ) (f : ℕ → F) → ((i : ℕ) → i < n → f i ≡ 𝟘) → sum n f ≡ 𝟘
  unfolding sum
  sum_zero zero f h = refl
  sum_zero (suc n) f h = ap₂ ◌⊞◌ (sum_zero n f (λ i k. h i (omega arith))) (h n (omega arith)) ∙ ⊞-zero 𝟘

  pub sum_square : (n : ℕ) (f : ℕ → F) → sum n f ⊠ sum n f ≡ sum n (λ i. f i ⊠ f i)
  unfolding sum
  sum_square zero f = ⊠-zero R 𝟘
  sum_square (suc n) f = square_add R (sum n f) (f n) ∙ ap (λ x. x ⊞ f n ⊠ f n) (sum_square n f)

  -- ---- powers
  pub pow_add : (x : F) (i j : ℕ) → pow R x (i + j) ≡ pow R x i ⊠ pow R x j
  unfolding pow
  pow_add x zero j = rw zero-add (sym (one-⊠ R (pow R x j)))
  pow_add x (suc i) j = rw suc-add (ap (λ y. x ⊠ y) (pow_add x i j) ∙ sym (⊠-assoc x (pow R x i) (pow R x j)))

  -- ---- values of polynomials
  pub eval_zero : (n : ℕ) (c : ℕ → F) (x : F) → ((i : ℕ) → i < n → c i ≡ 𝟘) → eval R n c x ≡ 𝟘
  unfolding eval
  eval_zero zero c x h = refl
  eval_zero (suc n) c x h =
      ap₂ (λ y z. y ⊞ x ⊠ z) (h 0 (omega arith)) (eval_zero n (λ i. c (suc i)) x (λ i k. h (suc i) (omega arith))) ∙ ap (λ y. 𝟘 ⊞ y) (⊠-zero R x) ∙ ⊞-zero 𝟘

  -- coefficients past the degree count for nothing
  pub eval_more : (n k : ℕ) (c : ℕ → F) (x : F) → n ≤ k → ((i : ℕ) → n ≤ i → c i ≡ 𝟘) → eval R k c x ≡ eval R n c x
  unfolding eval
  eval_more zero k c x h z = eval_zero k c x (λ i _. z i (omega arith))
  eval_more (suc n) zero c x h z = absurd (not-suc-le-zero h)
  eval_more (suc n) (suc k) c x h z =
      ap (λ y. c 0 ⊞ x ⊠ y) (eval_more n k (λ i. c (suc i)) x (le_of_suc-le-suc h) (λ i l. z (suc i) (omega arith)))

  -- ---- the product of power series
  -- 1, and then 0
  unfoldable pub unit : ℕ → F
  unit zero = 𝟙
  unit (suc i) = 𝟘

  -- times x
  unfoldable pub up : (ℕ → F) → ℕ → F
  up g zero = 𝟘
  up g (suc n) = g n

  pub conv_vanish : (k : ℕ) (c g : ℕ → F) → ((i j : ℕ) → i + j ≡ k → c i ⊠ g j ≡ 𝟘) → conv R c g k ≡ 𝟘
  unfolding conv
  conv_vanish zero c g h = h 0 0 refl
  conv_vanish (suc k) c g h =
      ap₂ ◌⊞◌ (h 0 (suc k) (zero-add (suc k))) (conv_vanish k (λ i. c (suc i)) g (λ i j e. h (suc i) j (omega arith))) ∙ ⊞-zero 𝟘

  pub conv_head : (k : ℕ) (c g : ℕ → F) → ((i j : ℕ) → suc i + j ≡ k → c (suc i) ⊠ g j ≡ 𝟘) → conv R c g k ≡ c 0 ⊠ g k
  unfolding conv
  conv_head zero c g h = refl
  conv_head (suc k) c g h =
      ap (λ y. c 0 ⊠ g (suc k) ⊞ y) (conv_vanish k (λ i. c (suc i)) g (λ i j e. h i j (omega arith))) ∙ ⊞-zero _

  pub conv_ext : (n : ℕ) (c s s' : ℕ → F) → ((j : ℕ) → j ≤ n → s j ≡ s' j) → conv R c s n ≡ conv R c s' n
  unfolding conv
  conv_ext zero c s s' h = ap (λ y. c 0 ⊠ y) (h 0 (omega arith))
  conv_ext (suc n) c s s' h = ap₂ (λ y z. c 0 ⊠ y ⊞ z) (h (suc n) (omega arith)) (conv_ext n (λ i. c (suc i)) s s' (λ j k. h j (omega arith)))

  pub conv_add_r : (n : ℕ) (c f g : ℕ → F) → conv R c (λ i. f i ⊞ g i) n ≡ conv R c f n ⊞ conv R c g n
  unfolding conv
  conv_add_r zero c f g = ⊠-dist (c 0) (f 0) (g 0)
  conv_add_r (suc n) c f g = ap₂ ◌⊞◌ (⊠-dist (c 0) (f (suc n)) (g (suc n))) (conv_add_r n (λ i. c (suc i)) f g) ∙ ⊞-swap R _ _ _ _

  pub conv_mul_r : (n : ℕ) (k : F) (c f : ℕ → F) → conv R c (λ i. k ⊠ f i) n ≡ k ⊠ conv R c f n
  unfolding conv
  conv_mul_r zero k c f = ⊠-lc R (c 0) k (f 0)
  conv_mul_r (suc n) k c f = ap₂ ◌⊞◌ (⊠-lc R (c 0) k (f (suc n))) (conv_mul_r n k (λ i. c (suc i)) f) ∙ sym (⊠-dist k _ _)

  pub conv_add_l : (n : ℕ) (c d s : ℕ → F) → conv R (λ i. c i ⊞ d i) s n ≡ conv R c s n ⊞ conv R d s n
  unfolding conv
  conv_add_l zero c d s = dist-⊠ R (c 0) (d 0) (s 0)
  conv_add_l (suc n) c d s = ap₂ ◌⊞◌ (dist-⊠ R (c 0) (d 0) (s (suc n))) (conv_add_l n (λ i. c (suc i)) (λ i. d (suc i)) s) ∙ ⊞-swap R _ _ _ _

  pub conv_mul_l : (n : ℕ) (k : F) (c s : ℕ → F) → conv R (λ i. k ⊠ c i) s n ≡ k ⊠ conv R c s n
  unfolding conv
  conv_mul_l zero k c s = ⊠-assoc k (c 0) (s 0)
  conv_mul_l (suc n) k c s = ap₂ ◌⊞◌ (⊠-assoc k (c 0) (s (suc n))) (conv_mul_l n k (λ i. c (suc i)) s) ∙ sym (⊠-dist k _ _)

  pub conv_up_l : (n : ℕ) (c s : ℕ → F) → conv R (up c) s n ≡ up (conv R c s) n
  unfolding conv up
  conv_up_l zero c s = zero-⊠ R (s 0)
  conv_up_l (suc n) c s = ap (λ y. y ⊞ conv R c s n) (zero-⊠ R (s (suc n))) ∙ zero-⊞ R (conv R c s n)

  -- c = c 0 + x c'
  conv_split : (n : ℕ) (c s : ℕ → F) → conv R c s n ≡ c 0 ⊠ s n ⊞ up (conv R (λ i. c (suc i)) s) n
  unfolding conv up
  conv_split zero c s = sym (⊞-zero (c 0 ⊠ s 0))
  conv_split (suc n) c s = refl

  conv_up_r : (n : ℕ) (c g : ℕ → F) → conv R c (up g) n ≡ up (conv R c g) n
  unfolding conv up
  conv_up_r zero c g = ⊠-zero R (c 0)
  conv_up_r (suc n) c g = ap (λ y. c 0 ⊠ g n ⊞ y) (conv_up_r n (λ i. c (suc i)) g) ∙ sym (conv_split n c g)

  lc_step : (n : ℕ) (a b s : ℕ → F) → up (conv R a (conv R (λ i. b (suc i)) s)) n ≡ up (conv R (λ i. b (suc i)) (conv R a s)) n
      → conv R a (conv R b s) n ≡ conv R b (conv R a s) n
  lc_step n a b s rest =
      ap (λ g. conv R a g n) (fun_ext (λ m. conv_split m b s))
      ∙ conv_add_r n a (λ m. b 0 ⊠ s m) (up (conv R (λ i. b (suc i)) s))
      ∙ ap₂ ◌⊞◌ (conv_mul_r n (b 0) a s) (conv_up_r n a (conv R (λ i. b (suc i)) s) ∙ rest)
      ∙ sym (conv_split n b (conv R a s))

  -- the product with two series goes in either order
  pub conv_lc : (n : ℕ) (a b s : ℕ → F) → conv R a (conv R b s) n ≡ conv R b (conv R a s) n
  unfolding up
  conv_lc zero a b s = lc_step zero a b s refl
  conv_lc (suc n) a b s = lc_step (suc n) a b s (conv_lc n a (λ i. b (suc i)) s)

  -- conv against powers is evaluation at the inverse
  pub conv_pow : (n : ℕ) (c : ℕ → F) (x z : F) → x ⊠ z ≡ 𝟙 → conv R c (pow R x) n ≡ pow R x n ⊠ eval R (suc n) c z
  unfolding conv pow eval
  conv_pow zero c x z e = ⊠-comm (c 0) 𝟙 ∙ ap (λ y. 𝟙 ⊠ y) (sym (ap (λ y. c 0 ⊞ y) (⊠-zero R z) ∙ ⊞-zero (c 0)))
  conv_pow (suc n) c x z e =
      ap₂ ◌⊞◌ (⊠-comm (c 0) (pow R x (suc n)))
      (conv_pow n (λ i. c (suc i)) x z e ∙ cancel)
      ∙ sym (⊠-dist (pow R x (suc n)) (c 0) (z ⊠ eval R (suc n) (λ i. c (suc i)) z))
    where
      v : F
      v = eval R (suc n) (λ i. c (suc i)) z

      cancel : pow R x n ⊠ v ≡ x ⊠ pow R x n ⊠ (z ⊠ v)
      cancel = sym (⊠-swap R x (pow R x n) z v ∙ ap (λ y. y ⊠ (pow R x n ⊠ v)) e ∙ one-⊠ R (pow R x n ⊠ v))

  -- ---- as sums, for loops
  pub sum_front : (n : ℕ) (f : ℕ → F) → sum (suc n) f ≡ f 0 ⊞ sum n (λ i. f (suc i))
  unfolding sum
  sum_front zero f = ⊞-comm 𝟘 (f 0)
  sum_front (suc n) f = ap (λ y. y ⊞ f (suc n)) (sum_front n f) ∙ ⊞-assoc (f 0) (sum n (λ i. f (suc i))) (f (suc n))

  pub sum_more : (n k : ℕ) (f : ℕ → F) → n ≤ k → ((i : ℕ) → n ≤ i → i < k → f i ≡ 𝟘) → sum k f ≡ sum n f
  sum_more n k f h z = le_ind (λ m. ((i : ℕ) → n ≤ i → i < m → f i ≡ 𝟘) → sum m f ≡ sum n f) (λ _. refl) step k h z
    where
      step : (m : ℕ) → n ≤ m → (((i : ℕ) → n ≤ i → i < m → f i ≡ 𝟘) → sum m f ≡ sum n f) → ((i : ℕ) → n ≤ i → i < suc m → f i ≡ 𝟘) → sum (suc m) f ≡ sum n f
      step m a ih w = sum_last m f ∙ ap₂ ◌⊞◌ (ih (λ i p q. w i p (omega arith))) (w m a (omega arith)) ∙ ⊞-zero _

  pub conv_sum : (n : ℕ) (c s : ℕ → F) → conv R c s n ≡ sum (suc n) (λ i. c i ⊠ s (n - i))
  unfolding conv
  conv_sum zero c s = sym (sum_front zero (λ i. c i ⊠ s (0 - i)) ∙ ap (λ y. c 0 ⊠ s 0 ⊞ y) (sum_none _) ∙ ⊞-zero _)
  conv_sum (suc n) c s =
      ap (λ y. c 0 ⊠ s (suc n) ⊞ y) (conv_sum n (λ i. c (suc i)) s ∙ sum_ext (suc n) _ _ (λ i h. ap (λ z. c (suc i) ⊠ s z) (sym (suc-sub-suc n i))))
      ∙ sym (sum_front (suc n) (λ i. c i ⊠ s (suc n - i)) ∙ ap (λ z. c 0 ⊠ s z ⊞ sum (suc n) (λ i. c (suc i) ⊠ s (suc n - suc i))) (sub-zero (suc n)))
