-- The product `mul` is that of a commutative ring of characteristic 2 with xor, on the numbers below 2 ^ suc n.
-- Pairs with a proof are equal by the logic's HLevel, which std does not hand on.
use Rattle.std.specs.Prelude.{◌≡◌}
use Rattle.std.proofs.Math.Path.{refl, sym, ap, ap₂}
use Rattle.std.proofs.Common.{◌∙◌, not-suc-le-zero, le_of_suc-le-suc, mod-lt, one-mul, le_of_lt, arith, ℕ, zero, suc, ◌*◌, ◌/◌, ◌%◌, ◌^◌, ◌≤◌, ◌<◌}
use mathlib.Core.HLevel.{Σ_prop_path}
use Rattle.std.proofs.Math.Nat.{pow-suc, zero-mul, mod-eq_of_lt, div-eq_of_lt, mul-div_cancel, mul-mod_left, suc-le-suc_iff}
use Rattle.std.proofs.Math.Bridge.{le_prop}
use Rattle.std.proofs.Math.Pow.{pow_pos, pow-lt}
use Rattle.laws.specs.Xor.{⊕-self, ⊕-zero, zero-⊕, ⊕-lt, ⊕-div, ⊕-mod, ⊕-half, ⊕-odd, ⊕-double, ⊕-swap, bit_mul, two_cases, two_pos, span}
use Rattle.laws.specs.Definitions.{◌⊕◌}
use Rattle.algebra.specs.Gf.{xt, mul_n, mul}

-- equal numbers are equal elements
pub el_path : {q : ℕ} {a b : (x : ℕ) × (x < q)} → a.0 ≡ b.0 → a ≡ b
el_path e = Σ_prop_path (λ x. le_prop) e

pub one_not_zero : ◌≡◌ {A = ℕ} 1 0 → ⊥
one_not_zero e = omega arith

-- times α^i
unfoldable pub xts : ℕ → ℕ → ℕ → ℕ → ℕ
xts n poly zero b = b
xts n poly (suc i) b = xts n poly i (xt n poly b)

module _ (n poly : ℕ) (hp : poly < 2 ^ suc n) where
  private_bit : (d : ℕ) → d < 2 → (p k : ℕ) → p < 2 ^ k → d * p < 2 ^ k
  private_bit d h p k hp = two_cases (λ d. d * p < 2 ^ k) (rw zero-mul (pow_pos k)) (rw one-mul hp) d h

  xt_lt : (b : ℕ) → xt n poly b < 2 ^ suc n
  unfolding xt
  xt_lt b = ⊕-lt (suc n) (mod-lt (b * 2) (pow_pos (suc n))) (private_bit (b / 2 ^ n % 2) (mod-lt (b / 2 ^ n) two_pos) poly (suc n) hp)

  xt_add : (a b : ℕ) → xt n poly (a ⊕ b) ≡ xt n poly a ⊕ xt n poly b
  unfolding xt
  xt_add a b =
      rw (⊕-double, ⊕-mod, ⊕-div, ⊕-odd (a / 2 ^ n) (b / 2 ^ n), bit_mul (a / 2 ^ n % 2) (b / 2 ^ n % 2) poly (mod-lt (a / 2 ^ n) two_pos) (mod-lt (b / 2 ^ n) two_pos))
      (⊕-swap _ _ _ _)

  mul_n_lt : (k a b : ℕ) → b < 2 ^ suc n → mul_n n poly k a b < 2 ^ suc n
  unfolding mul_n
  mul_n_lt zero a b h = pow_pos (suc n)
  mul_n_lt (suc k) a b h = ⊕-lt (suc n) (private_bit (a % 2) (mod-lt a two_pos) b (suc n) h) (mul_n_lt k (a / 2) (xt n poly b) (xt_lt b))

  dist : (d a b : ℕ) → d < 2 → d * (a ⊕ b) ≡ (d * a) ⊕ (d * b)
  dist d a b = two_cases (λ d. d * (a ⊕ b) ≡ (d * a) ⊕ (d * b)) (simp (zero-mul, zero-⊕)) (simp one-mul) d

  mul_n_add_r : (k a b c : ℕ) → mul_n n poly k a (b ⊕ c) ≡ mul_n n poly k a b ⊕ mul_n n poly k a c
  unfolding mul_n
  mul_n_add_r zero a b c = sym (⊕-zero 0)
  mul_n_add_r (suc k) a b c =
      rw (dist (a % 2) b c (mod-lt a two_pos), xt_add, mul_n_add_r k (a / 2) (xt n poly b) (xt n poly c)) (⊕-swap _ _ _ _)

  mul_n_add_l : (k a b c : ℕ) → mul_n n poly k (a ⊕ b) c ≡ mul_n n poly k a c ⊕ mul_n n poly k b c
  unfolding mul_n
  mul_n_add_l zero a b c = sym (⊕-zero 0)
  mul_n_add_l (suc k) a b c =
      rw (⊕-odd, ⊕-half, bit_mul (a % 2) (b % 2) c (mod-lt a two_pos) (mod-lt b two_pos), mul_n_add_l k (a / 2) (b / 2) (xt n poly c)) (⊕-swap _ _ _ _)

  xt_zero : xt n poly 0 ≡ 0
  xt_zero = ap (xt n poly) (sym (⊕-zero 0)) ∙ xt_add 0 0 ∙ ⊕-self (xt n poly 0)

  bit_xt : (d b : ℕ) → d < 2 → d * xt n poly b ≡ xt n poly (d * b)
  bit_xt d b = two_cases (λ d. d * xt n poly b ≡ xt n poly (d * b)) (simp (zero-mul, xt_zero)) (simp one-mul) d

  mul_n_xt : (k a b : ℕ) → mul_n n poly k a (xt n poly b) ≡ xt n poly (mul_n n poly k a b)
  unfolding mul_n
  mul_n_xt zero a b = sym xt_zero
  mul_n_xt (suc k) a b = rw (mul_n_xt k (a / 2) (xt n poly b), bit_xt (a % 2) b (mod-lt a two_pos)) (sym (xt_add _ _))

  mul_n_zero : (k b : ℕ) → mul_n n poly k 0 b ≡ 0
  unfolding mul_n
  mul_n_zero zero b = refl
  mul_n_zero (suc k) b = rw (zero-mul b, mul_n_zero k (xt n poly b)) (⊕-zero 0)

  mul_n_pow : (k i b : ℕ) → i < k → mul_n n poly k (2 ^ i) b ≡ xts n poly i b
  unfolding mul_n xts
  mul_n_pow zero i b h = absurd (not-suc-le-zero h)
  mul_n_pow (suc k) zero b h = ap₂ ◌⊕◌ (one-mul b) (mul_n_zero k (xt n poly b)) ∙ ⊕-zero b
  mul_n_pow (suc k) (suc i) b h =
      rw (pow-suc 2 i, mul-mod_left (2 ^ i) 2, mul-div_cancel (2 ^ i) two_pos, zero-mul b, zero-⊕) (mul_n_pow k i (xt n poly b) (le_of_suc-le-suc h))

  xt_pow : (i : ℕ) → i < n → xt n poly (2 ^ i) ≡ 2 ^ suc i
  unfolding xt
  xt_pow i h =
      rw (← pow-suc 2 i, mod-eq_of_lt (pow-lt (suc-le-suc_iff.1 h)), div-eq_of_lt (pow-lt h), zero-mul poly) (⊕-zero _)

  xts_out : (i b : ℕ) → xts n poly (suc i) b ≡ xt n poly (xts n poly i b)
  unfolding xts
  xts_out zero b = refl
  xts_out (suc i) b = xts_out i (xt n poly b)

  xts_one : (i : ℕ) → i ≤ n → xts n poly i 1 ≡ 2 ^ i
  unfolding xts
  xts_one zero h = refl
  xts_one (suc i) h = xts_out i 1 ∙ ap (xt n poly) (xts_one i (le_of_lt h)) ∙ xt_pow i h

  xts_add : (i j b : ℕ) → xts n poly i (xts n poly j b) ≡ xts n poly j (xts n poly i b)
  unfolding xts
  xts_add i zero b = refl
  xts_add i (suc j) b = xts_add i j (xt n poly b) ∙ ap (xts n poly j) (xts_out i b)

  pub mul_lt : (a b : ℕ) → b < 2 ^ suc n → mul n poly a b < 2 ^ suc n
  unfolding mul
  mul_lt a b h = mul_n_lt (suc n) a b h

  mul_add_l : (a b c : ℕ) → mul n poly (a ⊕ b) c ≡ mul n poly a c ⊕ mul n poly b c
  unfolding mul
  mul_add_l a b c = mul_n_add_l (suc n) a b c

  pub mul_add_r : (a b c : ℕ) → mul n poly a (b ⊕ c) ≡ mul n poly a b ⊕ mul n poly a c
  unfolding mul
  mul_add_r a b c = mul_n_add_r (suc n) a b c

  mul_pow : (i b : ℕ) → i ≤ n → mul n poly (2 ^ i) b ≡ xts n poly i b
  unfolding mul
  mul_pow i b h = mul_n_pow (suc n) i b (suc-le-suc_iff.1 h)

  pub one_mul' : (b : ℕ) → mul n poly 1 b ≡ b
  unfolding xts
  one_mul' b = mul_pow 0 b (omega arith)

  pub mul_zero_l : (b : ℕ) → mul n poly 0 b ≡ 0
  unfolding mul
  mul_zero_l b = mul_n_zero (suc n) b

  mul_zero_r : (a : ℕ) → mul n poly a 0 ≡ 0
  mul_zero_r a = ap (mul n poly a) (sym (⊕-zero 0)) ∙ mul_add_r a 0 0 ∙ ⊕-self (mul n poly a 0)

  pow_comm : (i j : ℕ) → i ≤ n → j ≤ n → mul n poly (2 ^ i) (2 ^ j) ≡ mul n poly (2 ^ j) (2 ^ i)
  pow_comm i j hi hj =
      mul_pow i (2 ^ j) hi ∙ ap (xts n poly i) (sym (xts_one j hj)) ∙ xts_add i j 1 ∙ ap (xts n poly j) (xts_one i hi) ∙ sym (mul_pow j (2 ^ i) hj)

  pub mul_comm' : (a b : ℕ) → a < 2 ^ suc n → b < 2 ^ suc n → mul n poly a b ≡ mul n poly b a
  mul_comm' a b ha hb =
      span (λ a. mul n poly a b ≡ mul n poly b a) (mul_zero_l b ∙ sym (mul_zero_r b)) (suc n)
      (λ a c _ _ p q. mul_add_l a c b ∙ ap₂ ◌⊕◌ p q ∙ sym (mul_add_r b a c))
      (λ i hi. span (λ b. mul n poly (2 ^ i) b ≡ mul n poly b (2 ^ i)) (mul_zero_r (2 ^ i) ∙ sym (mul_zero_l (2 ^ i))) (suc n)
      (λ a c _ _ p q. mul_add_r (2 ^ i) a c ∙ ap₂ ◌⊕◌ p q ∙ sym (mul_add_l a c (2 ^ i)))
      (λ j hj. pow_comm i j (le_of_suc-le-suc hi) (le_of_suc-le-suc hj)) b hb) a ha

  mul_xt_r : (a b : ℕ) → mul n poly a (xt n poly b) ≡ xt n poly (mul n poly a b)
  unfolding mul
  mul_xt_r a b = mul_n_xt (suc n) a b

  mul_xt_l : (a b : ℕ) → a < 2 ^ suc n → b < 2 ^ suc n → mul n poly (xt n poly a) b ≡ xt n poly (mul n poly a b)
  mul_xt_l a b ha hb = mul_comm' (xt n poly a) b (xt_lt a) hb ∙ mul_xt_r b a ∙ ap (xt n poly) (mul_comm' b a hb ha)

  mul_xts_l : (i a b : ℕ) → a < 2 ^ suc n → b < 2 ^ suc n → mul n poly (xts n poly i a) b ≡ xts n poly i (mul n poly a b)
  unfolding xts
  mul_xts_l zero a b ha hb = refl
  mul_xts_l (suc i) a b ha hb = mul_xts_l i (xt n poly a) b (xt_lt a) hb ∙ ap (xts n poly i) (mul_xt_l a b ha hb)

  pub mul_assoc' : (a b c : ℕ) → a < 2 ^ suc n → b < 2 ^ suc n → c < 2 ^ suc n → mul n poly (mul n poly a b) c ≡ mul n poly a (mul n poly b c)
  mul_assoc' a b c ha hb hc =
      span (λ a. mul n poly (mul n poly a b) c ≡ mul n poly a (mul n poly b c))
      (ap (λ (x : ℕ). mul n poly x c) (mul_zero_l b) ∙ mul_zero_l c ∙ sym (mul_zero_l (mul n poly b c))) (suc n)
      (λ a d _ _ p q. ap (λ (x : ℕ). mul n poly x c) (mul_add_l a d b) ∙ mul_add_l _ _ c ∙ ap₂ ◌⊕◌ p q ∙ sym (mul_add_l a d _))
      (λ i hi. let h = le_of_suc-le-suc hi in
      ap (λ (x : ℕ). mul n poly x c) (mul_pow i b h) ∙ mul_xts_l i b c hb hc ∙ sym (mul_pow i (mul n poly b c) h)) a ha

  pub mul_two : (i : ℕ) → i < n → mul n poly 2 (2 ^ i) ≡ 2 ^ suc i
  unfolding xts
  mul_two i h = mul_pow 1 (2 ^ i) (omega arith) ∙ xt_pow i h
