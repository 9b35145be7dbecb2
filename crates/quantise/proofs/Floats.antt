-- The soft value of a binary32 from its bits, and the result as an i8.
-- Assumes nothing.
use Rattle.std.proofs.Common.{◌≡◌, refl, sym, ◌∙◌, ap, ap₂, subst, Bool, true, false, not, cond, ℕ, zero, suc, ◌+◌, ◌-◌, ◌*◌, ◌/◌, ◌%◌, ◌^◌, ◌<◌, ◌≤◌, min, mul-one, arith, T, ltb, leb, eqb, lit<, ℤ, pos, negsuc, neg_ℤ, ◌-ℤ◌, w8, SFits, to_z, of_z, ltb-true, ltb-false, ne_eqb, Float}
use Rattle.std.proofs.Math.IntN.{sub_ℕ, +ℤ_idl}
use Rattle.std.specs.Int.Signed.{mag}
use Rattle.std.proofs.lemmas.Int.{to_z-of_z}
use Rattle.std.specs.Float.Ieee.{nan, inf, fin, binary32, up, down, odd, of_fields, of_bits, is_nan, to_bits, fits}
use Rattle.std.specs.Float.Ieee.Bits.{of_bits-to_bits}
use Rattle.std.specs.Float.Ieee.Exact.{HasValue, odd_sign}
use Rattle.std.specs.Float.Ieee.Fits.{down_pos}
use Rattle.std.specs.Float.Ieee.Nearest.{div_same}
use Rattle.quantise.specs.Soft.{signed, nearest, soft_value}
use Rattle.quantise.specs.Bits.{units_at, size_of}
use Rattle.quantise.proofs.Sizes.{units_large, rounds_past_top}

-- ---- a float that is a / c in size, with the sign s

cross : (M D a c : ℕ) → M * c ≡ a * D → (M * 2 + D) * (c * 2) ≡ (a * 2 + c) * (D * 2)
cross M D a c e = omega arith

value_soft : (x : Float) (s : Bool) (a c : ℕ) → 0 < c → HasValue x s a c → soft_value x ≡ signed s (min (nearest a c) 127)
value_soft nan s a c h v = absurd v
value_soft (inf t) s a c h v = absurd v
value_soft (fin t m e) s a c h v =
    let d : 0 < down e = down_pos e in
    ap₂ signed v.0 (ap (λ (n : ℕ). min n 127) (div_same (m * up e * 2 + down e) (down e * 2) (a * 2 + c) (c * 2) (omega arith) (omega arith) (cross (m * up e) (down e) a c v.1)))

-- ---- a binary32 from its fields: below 255, and 255, where it is an infinity

finite_soft : (s : Bool) (x t : ℕ) → x < 255 → soft_value (of_fields binary32 s x t) ≡ signed s (min (nearest (units_at x t) (2 ^ 149)) 127)
unfolding of_fields
finite_soft s zero t h =
    value_soft (odd 24 s t 0 149) s (t * 2 ^ 0) (2 ^ 149) (lit< tt) (odd_sign 24 s t 0 149)
    ∙ ap (λ (u : ℕ). signed s (min (nearest u (2 ^ 149)) 127)) (mul-one t)
finite_soft s (suc y) t h =
    ap (λ (b : Bool). soft_value (cond b (cond (eqb t 0) (inf s) nan) (odd 24 s (8388608 + t) y 149))) (ne_eqb (suc y) 255 (λ e. omega arith))
    ∙ value_soft (odd 24 s (8388608 + t) y 149) s ((8388608 + t) * 2 ^ y) (2 ^ 149) (lit< tt) (odd_sign 24 s (8388608 + t) y 149)

infinite_soft : (s : Bool) (t : ℕ) → t < 8388608 → T (not (is_nan (of_fields binary32 s 255 t))) → soft_value (of_fields binary32 s 255 t) ≡ signed s (min (nearest (units_at 255 t) (2 ^ 149)) 127)
unfolding of_fields is_nan
infinite_soft s t h n = go (eqb t 0) n ∙ ap (signed s) (sym (rounds_past_top (units_at 255 t) (units_large 255 t h (omega arith))))
  where
    go : (b : Bool) → T (not (is_nan (cond b (inf s) nan))) → soft_value (cond b (inf s) nan) ≡ signed s 127
    go true n = refl
    go false n = absurd n

fields_soft : (s : Bool) (x t : ℕ) → x < 256 → t < 8388608 → T (not (is_nan (of_fields binary32 s x t))) → soft_value (of_fields binary32 s x t) ≡ signed s (min (nearest (units_at x t) (2 ^ 149)) 127)
fields_soft s x t hx ht n = by (ltb x 255) refl
  where
    by : (b : Bool) → ltb x 255 ≡ b → soft_value (of_fields binary32 s x t) ≡ signed s (min (nearest (units_at x t) (2 ^ 149)) 127)
    by true e = finite_soft s x t (ltb-true x 255 e)
    by false e =
        let top : x ≡ 255 = omega (arith, ltb-false x 255 e) in
        subst (λ (k : ℕ). soft_value (of_fields binary32 s k t) ≡ signed s (min (nearest (units_at k t) (2 ^ 149)) 127)) (sym top)
        (infinite_soft s t ht (subst (λ (k : ℕ). T (not (is_nan (of_fields binary32 s k t)))) top n))

-- ---- a binary32 from its bits: the sign's digit is the highest

of_bits_soft : (b : ℕ) → T (not (is_nan (of_bits binary32 b))) → soft_value (of_bits binary32 b) ≡ signed (leb 2147483648 b) (size_of (b % 2147483648))
unfolding of_bits size_of
of_bits_soft b n =
    let x : b % 2147483648 / 8388608 < 256 = omega arith in
    let t : b % 8388608 < 8388608 = omega arith in
    let d : b % 8388608 ≡ b % 2147483648 % 8388608 = omega arith in
    fields_soft (leb 2147483648 b) (b % 2147483648 / 8388608) (b % 8388608) x t n
    ∙ ap (λ (k : ℕ). signed (leb 2147483648 b) (min (nearest (units_at (b % 2147483648 / 8388608) k) (2 ^ 149)) 127)) d

pub bits_soft : (p : Float) → T (fits binary32 p) → T (not (is_nan p)) → soft_value p ≡ signed (leb 2147483648 (to_bits binary32 p)) (size_of (to_bits binary32 p % 2147483648))
bits_soft p f n =
    let e = of_bits-to_bits binary32 p f in
    ap soft_value (sym e) ∙ of_bits_soft (to_bits binary32 p) (subst (λ (q : Float). T (not (is_nan q))) (sym e) n)

-- ---- what the test for a NaN says

pub not_nan : (p : Float) → is_nan p ≡ false → T (not (is_nan p))
not_nan p e = subst (λ (b : Bool). T (not b)) (sym e) tt

pub nan_soft : (p : Float) → is_nan p ≡ true → pos 0 ≡ soft_value p
unfolding is_nan
nan_soft nan e = refl
nan_soft (inf s) e = cc
nan_soft (fin s m e') e = cc

-- ---- the result as an i8

pub read_back : (n : ℕ) → n < 128 → to_z w8 n ≡ pos n
read_back n h = to_z-of_z w8 (pos n) (record { sfits = h })

mag_neg : (n : ℕ) → n < 128 → mag (pos 0 -ℤ pos n) < 128
mag_neg zero h = omega arith
mag_neg (suc n) h = omega (arith, mag_subℕ n)
  where
    mag_subℕ : (k : ℕ) → mag (sub_ℕ 0 (suc k)) ≤ k
    mag_subℕ k = by (ltb 0 (suc k)) refl
      where
        by : (b : Bool) → ltb 0 (suc k) ≡ b → mag (cond b (negsuc (suc k - 1)) (pos (0 - suc k))) ≤ k
        by true e = omega arith
        by false e = omega arith

pub neg_fits : (n : ℕ) → n < 128 → SFits w8 (pos 0 -ℤ to_z w8 n)
neg_fits n h = subst (λ (z : ℤ). SFits w8 (pos 0 -ℤ z)) (sym (read_back n h)) (record { sfits = mag_neg n h })

pub neg_back : (n : ℕ) → n < 128 → to_z w8 (of_z w8 (pos 0 -ℤ to_z w8 n)) ≡ neg_ℤ (pos n)
neg_back n h = to_z-of_z w8 (pos 0 -ℤ to_z w8 n) (neg_fits n h) ∙ (ap (λ (z : ℤ). pos 0 -ℤ z) (read_back n h) ∙ +ℤ_idl (neg_ℤ (pos n)))
