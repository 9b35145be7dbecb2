-- `size_of` in the three ranges of a binary32's bits: below 0.5, above 127.0, and between.
-- `omega` takes no number of more than 38 digits, so each range is shown over variables first. Assumes nothing.
use Rattle.std.proofs.Common.{◌≡◌, refl, sym, ◌∙◌, ap, ap₂, ℕ, zero, suc, ◌+◌, ◌-◌, ◌*◌, ◌/◌, ◌%◌, ◌^◌, ◌<◌, ◌≤◌, min, le-div_iff_mul-le, mul-le-mul_left, mul-le-mul_right, le_trans, mul_comm, mod-eq_of_lt, arith, Bool, true, false, ltb, ltb-true, ltb-false, lit<, lit≤, pow-add, pow_mono}
use Rattle.std.proofs.Math.Nat.{min-eq_right, min-eq_left, div-eq_of_lt, mul-div-mul_right}
use Rattle.quantise.specs.Soft.{nearest}
use Rattle.quantise.specs.Bits.{units_at, size_of}

-- ---- u units, at 2 ^ 149 to the one

below_half : (u E C : ℕ) → u ≤ 16777215 * E → 0 < E → C ≡ 33554432 * E → u * 2 + C < C * 2
below_half u E C h he hc = omega arith

above_top : (u E C : ℕ) → 16646144 * E ≤ u → C ≡ 131072 * E → 127 * (C * 2) ≤ u * 2 + C
above_top u E C h hc = omega arith

rounds_to_zero : (u : ℕ) → u ≤ 16777215 * 2 ^ 124 → nearest u (2 ^ 149) ≡ 0
rounds_to_zero u h = div-eq_of_lt (below_half u (2 ^ 124) (2 ^ 149) h (lit< tt) refl)

pub rounds_past_top : (u : ℕ) → 16646144 * 2 ^ 132 ≤ u → min (nearest u (2 ^ 149)) 127 ≡ 127
rounds_past_top u h = min-eq_right ((le-div_iff_mul-le (lit< tt)).1 (above_top u (2 ^ 132) (2 ^ 149) h refl))

-- S units of a significand Q, where S is K times P, the P of the field 126
scaled : (Q K P S C : ℕ) → S ≡ K * P → C ≡ 16777216 * P → (Q * S * 2 + C ≡ (Q * K + 8388608) * (P * 2)) × (C * 2 ≡ 16777216 * (P * 2))
scaled Q K P S C e f = let m : Q * S ≡ Q * (K * P) = ap (λ (n : ℕ). Q * n) e in (omega arith, omega arith)

-- ---- the units of a field x and digits t

-- a product that grows in both factors
mul_le : {a b c d : ℕ} → a ≤ b → c ≤ d → a * c ≤ b * d
mul_le {a} {b} {c} {d} h k =
    let l : a * c ≤ b * c = mul-le-mul_right c h in
    let r : b * c ≤ b * d = mul-le-mul_left b k in
    omega arith

units_small : (x t : ℕ) → t < 8388608 → x < 126 → units_at x t ≤ 16777215 * 2 ^ 124
units_small zero t ht hx =
    let p : 1 ≤ 2 ^ 124 = lit< tt in
    let m : 16777215 * 1 ≤ 16777215 * 2 ^ 124 = mul-le-mul_left 16777215 p in
    at_most t (16777215 * 2 ^ 124) ht m
  where
    at_most : (t m : ℕ) → t < 8388608 → 16777215 * 1 ≤ m → t ≤ m
    at_most t m h k = omega arith
units_small (suc y) t ht hx =
    let q : 8388608 + t ≤ 16777215 = omega arith in
    let l : y ≤ 124 = omega arith in
    mul_le q (pow_mono l)

-- from the bits of 127.0 on: the same field with at least its digits, or a higher field
pub units_large : (x t : ℕ) → t < 8388608 → 1123942400 ≤ x * 8388608 + t → 16646144 * 2 ^ 132 ≤ units_at x t
units_large zero t ht h = absurd (no t ht h)
  where
    no : (t : ℕ) → t < 8388608 → 1123942400 ≤ 0 * 8388608 + t → ⊥
    no t ht h = omega arith
units_large (suc y) t ht h = by (ltb 132 y) refl
  where
    by : (b : Bool) → ltb 132 y ≡ b → 16646144 * 2 ^ 132 ≤ (8388608 + t) * 2 ^ y
    by true e =
        let l : 133 ≤ y = ltb-true 132 y e in
        let q : 8388608 ≤ 8388608 + t = omega arith in
        let m : 8388608 * 2 ^ 133 ≤ (8388608 + t) * 2 ^ y = mul_le q (pow_mono l) in
        le_trans (lit≤ tt) m
    by false e =
        let u : y ≤ 132 = ltb-false 132 y e in
        let l : 132 ≤ y = omega arith in
        let q : 16646144 ≤ 8388608 + t = omega arith in
        mul_le q (pow_mono l)

-- ---- the three returns of `magnitude`

pub size_small : (bits : ℕ) → bits < 1056964608 → 0 ≡ size_of bits
unfolding size_of
size_small bits h =
    let l : bits / 8388608 < 126 = omega arith in
    let t : bits % 8388608 < 8388608 = omega arith in
    sym (ap (λ (n : ℕ). min n 127) (rounds_to_zero (units_at (bits / 8388608) (bits % 8388608)) (units_small (bits / 8388608) (bits % 8388608) t l)))

pub size_large : (bits : ℕ) → 1123942400 ≤ bits → 127 ≡ size_of bits
unfolding size_of
size_large bits h =
    let l : 1123942400 ≤ bits / 8388608 * 8388608 + bits % 8388608 = omega arith in
    let t : bits % 8388608 < 8388608 = omega arith in
    sym (rounds_past_top (units_at (bits / 8388608) (bits % 8388608)) (units_large (bits / 8388608) (bits % 8388608) t l))

-- what is left to round: the field is 126 + j, and the significand Q is moved up by j places
module _ (bits : ℕ) (low : 1056964608 ≤ bits) (high : bits ≤ 1123942400) where
  abbrev pub moved : ℕ
  moved = (8388608 + bits % 8388608) * 2 ^ (bits / 8388608 - 126)

  -- it is at most 127.0's
  pub moved_le : moved ≤ 2130706432
  moved_le = by (ltb (bits / 8388608 - 126) 7) refl
    where
      by : (b : Bool) → ltb (bits / 8388608 - 126) 7 ≡ b → (8388608 + bits % 8388608) * 2 ^ (bits / 8388608 - 126) ≤ 2130706432
      by true e =
          let q : 8388608 + bits % 8388608 ≤ 16777216 = omega arith in
          let j : bits / 8388608 - 126 ≤ 6 = omega (arith, ltb-true (bits / 8388608 - 126) 7 e) in
          let p : 2 ^ (bits / 8388608 - 126) ≤ 64 = pow_mono j in
          le_trans (mul_le q p) (lit≤ tt)
      by false e =
          let s : 7 ≤ bits / 8388608 - 126 = ltb-false (bits / 8388608 - 126) 7 e in
          let q : 8388608 + bits % 8388608 ≤ 16646144 = omega arith in
          let j : bits / 8388608 - 126 ≤ 7 = omega arith in
          let p : 2 ^ (bits / 8388608 - 126) ≤ 128 = pow_mono j in
          le_trans (mul_le q p) (lit≤ tt)

  -- the code's shift loses nothing
  pub moved_fits : moved % 4294967296 ≡ moved
  moved_fits = let h = moved_le in mod-eq_of_lt (omega arith)

  near : nearest (units_at (bits / 8388608) (bits % 8388608)) (2 ^ 149) ≡ (moved + 8388608) / 16777216
  near =
      let x : bits / 8388608 ≡ suc (125 + (bits / 8388608 - 126)) = omega arith in
      ap (λ (n : ℕ). nearest (units_at n (bits % 8388608)) (2 ^ 149)) x
      ∙ at_field (8388608 + bits % 8388608) (bits / 8388608 - 126)
    where
      at_field : (Q j : ℕ) → nearest (Q * 2 ^ (125 + j)) (2 ^ 149) ≡ (Q * 2 ^ j + 8388608) / 16777216
      at_field Q j =
          let s = scaled Q (2 ^ j) (2 ^ 125) (2 ^ (125 + j)) (2 ^ 149) (pow-add 2 125 j ∙ mul_comm (2 ^ 125) (2 ^ j)) refl in
          ap₂ (λ (a b : ℕ). a / b) s.0 s.1 ∙ mul-div-mul_right (Q * 2 ^ j + 8388608) 16777216 (lit< tt)

  pub size_middle : (moved % 4294967296 + 8388608) / 16777216 ≡ size_of bits
  unfolding size_of
  size_middle =
      let h = moved_le in
      let l : (moved + 8388608) / 16777216 ≤ 127 = omega arith in
      ap (λ (n : ℕ). (n + 8388608) / 16777216) moved_fits
      ∙ sym (ap (λ (n : ℕ). min n 127) near ∙ min-eq_left l)

  pub size_below : (moved % 4294967296 + 8388608) / 16777216 < 128
  size_below = let h = moved_le in let e = moved_fits in omega arith
