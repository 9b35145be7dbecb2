-- Three words as one number: shifted by sixteen places, and its top two bytes; and what those leave behind.
-- Assumes nothing.
use Rattle.std.proofs.Common.{◌≡◌, sym, ◌∙◌, ap, ap₂, subst, ℕ, ◌+◌, ◌*◌, ◌/◌, ◌%◌, ◌^◌, ◌<◌, mod-eq_of_lt, mod-lt, add_comm, lt_of_lt_of_le, div-add-mod', arith, lit<, lit≤, bit_xor, shl_lt}
use Rattle.std.proofs.lemmas.Nat.{xor_lt}
use Rattle.std.proofs.Math.Nat.{mul-div-mul_right, mul-add-mod_self_right, div-div-eq-div-mul}
use Rattle.std.specs.Int.Bits.{xor_shifted}
use Rattle.bch_table.specs.Table.{times_power}
use Rattle.laws.specs.Xor.{⊕-assoc, ⊕-comm, ⊕-split}
use Rattle.laws.specs.Definitions.{◌⊕◌, rem}
use Rattle.laws.specs.Poly.{rem_add, rem_small, rem_digits, ⊕-join, ⊕-shift}
use Rattle.bch_table.specs.Generator.{generator}
use Rattle.bch_table.specs.Step.{joined, step_of}
use Rattle.bch_table.specs.Words.{below}

-- ---- one word: its lower 48 bits moved up, with the next word's top two bytes
word_up : (x y : ℕ) → y < 2 ^ 64 → bit_xor (x * 65536 % 2 ^ 64) (y / 2 ^ 48) ≡ x % 2 ^ 48 * 65536 + y / 2 ^ 48
word_up x y h =
    let e : x * 65536 % 2 ^ 64 ≡ x % 2 ^ 48 * 65536 = omega arith in
    let k : y / 2 ^ 48 < 65536 = omega arith in
    ap (λ (n : ℕ). bit_xor n (y / 2 ^ 48)) e ∙ xor_shifted (x % 2 ^ 48) 16 (y / 2 ^ 48) k

last_up : (x : ℕ) → x * 65536 % 2 ^ 64 ≡ x % 2 ^ 48 * 65536
last_up x = omega arith

up_lt' : (a b : ℕ) → a < 2 ^ 48 → b < 65536 → a * 65536 + b < 2 ^ 64
up_lt' a b ha hb = omega arith

top_lt : (y : ℕ) → y < 2 ^ 64 → y / 2 ^ 48 < 65536
top_lt y h = omega arith

up_lt : (x y : ℕ) → y < 2 ^ 64 → x % 2 ^ 48 * 65536 + y / 2 ^ 48 < 2 ^ 64
up_lt x y h = up_lt' (x % 2 ^ 48) (y / 2 ^ 48) (mod-lt x (lit< tt)) (top_lt y h)

last_lt : (x : ℕ) → x % 2 ^ 48 * 65536 < 2 ^ 64
last_lt x = subst (λ (n : ℕ). n < 2 ^ 64) (last_up x) (mod-lt (x * 65536) (lit< tt))

-- ---- three words, with B for 2 ^ 64: 65536 h = h₁ B + h₀ with h₁ of sixteen bits, and so on
up_sum : (B h h₁ h₀ m m₁ m₀ l l₁ l₀ : ℕ) → h * 65536 ≡ h₁ * B + h₀ → m * 65536 ≡ m₁ * B + m₀ → l * 65536 ≡ l₁ * B + l₀
    → ((h * B + m) * B + l) * 65536 ≡ (((h₀ + m₁) * B + (m₀ + l₁)) * B + l₀) + h₁ * (B * B * B)
up_sum B h h₁ h₀ m m₁ m₀ l l₁ l₀ eh em el =
    let a : h * 65536 * (B * B) ≡ (h₁ * B + h₀) * (B * B) = ap (λ (n : ℕ). n * (B * B)) eh in
    let b : m * 65536 * B ≡ (m₁ * B + m₀) * B = ap (λ (n : ℕ). n * B) em in
    omega arith

shifted_mod : (h m l : ℕ) → h < 2 ^ 64 → m < 2 ^ 64 → l < 2 ^ 64
    → joined h m l * 65536 % 2 ^ 192 ≡ joined (h % 2 ^ 48 * 65536 + m / 2 ^ 48) (m % 2 ^ 48 * 65536 + l / 2 ^ 48) (l % 2 ^ 48 * 65536)
unfolding joined
shifted_mod h m l hh hm hl =
    ap (λ (n : ℕ). n % 2 ^ 192) (up_sum (2 ^ 64) h (h / 2 ^ 48) (h % 2 ^ 48 * 65536) m (m / 2 ^ 48) (m % 2 ^ 48 * 65536) l (l / 2 ^ 48) (l % 2 ^ 48 * 65536) (omega arith) (omega arith) (omega arith))
    ∙ (add_mul_mod (h / 2 ^ 48) _ (2 ^ 192)
    ∙ mod-eq_of_lt (below (2 ^ 64) (h % 2 ^ 48 * 65536 + m / 2 ^ 48) (m % 2 ^ 48 * 65536 + l / 2 ^ 48) (l % 2 ^ 48 * 65536) (up_lt h m hm) (up_lt m l hl) (last_lt l)))
  where
    add_mul_mod : (q r n : ℕ) → (r + q * n) % n ≡ r % n
    add_mul_mod q r n = ap (λ (k : ℕ). k % n) (add_comm r (q * n)) ∙ mul-add-mod_self_right q n r

-- the top two bytes
top_bytes : (h m l : ℕ) → m < 2 ^ 64 → l < 2 ^ 64 → joined h m l / 2 ^ 176 ≡ h / 2 ^ 48
unfolding joined
top_bytes h m l hm hl =
    sym (div-div-eq-div-mul (joined h m l) (2 ^ 128) (2 ^ 48))
    ∙ ap (λ (n : ℕ). n / 2 ^ 48) (sym (div-div-eq-div-mul (joined h m l) (2 ^ 64) (2 ^ 64))
    ∙ (ap (λ (n : ℕ). n / 2 ^ 64) (off (h * 2 ^ 64 + m) l hl) ∙ off h m hm))
  where
    off : (x y : ℕ) → y < 2 ^ 64 → (x * 2 ^ 64 + y) / 2 ^ 64 ≡ x
    off x y h = omega arith

-- the words that the code makes are those of the number shifted
pub shifted_is : (h m l : ℕ) → h < 2 ^ 64 → m < 2 ^ 64 → l < 2 ^ 64
    → joined (bit_xor (h * 65536 % 2 ^ 64) (m / 2 ^ 48)) (bit_xor (m * 65536 % 2 ^ 64) (l / 2 ^ 48)) (l * 65536 % 2 ^ 64) ≡ joined h m l * 65536 % 2 ^ 192
shifted_is h m l hh hm hl =
    (λ i. joined (word_up h m hm i) (word_up m l hl i) (last_up l i)) ∙ sym (shifted_mod h m l hh hm hl)

-- two bytes times x^192: the upper one is its byte times x^200
two_bytes : (t : ℕ) → t < 65536 → rem 192 generator 208 (t * 2 ^ 192) ≡ times_power 200 (t / 256) ⊕ times_power 192 (t % 256)
unfolding times_power
two_bytes t h =
    ap (λ (z : ℕ). rem 192 generator 208 (z * 2 ^ 192)) (sym (⊕-join (t / 256) 8 (t % 256) low ∙ div-add-mod' t 256))
    ∙ ap (rem 192 generator 208) (⊕-shift (t / 256 * 2 ^ 8) (t % 256) 192 ∙ ap (λ (z : ℕ). z ⊕ (t % 256 * 2 ^ 192)) (around (t / 256) (2 ^ 8) (2 ^ 192)))
    ∙ rem_add 192 generator 208 (t / 256 * 2 ^ 200) (t % 256 * 2 ^ 192)
    ∙ ap (λ (z : ℕ). rem 192 generator 208 (t / 256 * 2 ^ 200) ⊕ z) (rem_digits 192 generator 208 200 (t % 256 * 2 ^ 192) (lt_of_lt_of_le fits (lit≤ tt)) fits)
  where
    low : t % 256 < 2 ^ 8
    low = mod-lt t (lit< tt)

    fits : t % 256 * 2 ^ 192 < 2 ^ 200
    fits = shl_lt 8 192 low

    around : (a b c : ℕ) → a * b * c ≡ a * (b * c)
    around a b c = omega arith

-- sixteen bits more: the top two bytes leave, and the tables have what they leave behind
step_is : (v b : ℕ) → bit_xor (v / 2 ^ 176) b < 65536
    → step_of v b ≡ (v * 65536 % 2 ^ 192 ⊕ times_power 200 (bit_xor (v / 2 ^ 176) b / 256)) ⊕ times_power 192 (bit_xor (v / 2 ^ 176) b % 256)
unfolding step_of ◌⊕◌
step_is v b small =
    ap (rem 192 generator 208) (ap (λ (z : ℕ). z ⊕ (b * 2 ^ 192)) (⊕-split (v * 65536) 192 ∙ ap (λ (z : ℕ). (z * 2 ^ 192) ⊕ low) top) ∙ around)
    ∙ rem_add 192 generator 208 low ((t ⊕ b) * 2 ^ 192)
    ∙ ap₂ ◌⊕◌ (rem_small 192 generator 208 low low_lt (lt_of_lt_of_le low_lt (lit≤ tt))) (two_bytes (t ⊕ b) small)
    ∙ sym (⊕-assoc low (times_power 200 ((t ⊕ b) / 256)) (times_power 192 ((t ⊕ b) % 256)))
  where
    t : ℕ
    t = v / 2 ^ 176

    low : ℕ
    low = v * 65536 % 2 ^ 192

    low_lt : low < 2 ^ 192
    low_lt = mod-lt (v * 65536) (lit< tt)

    top : v * 65536 / 2 ^ 192 ≡ t
    top = mul-div-mul_right v (2 ^ 176) (lit< tt)

    around : ((t * 2 ^ 192) ⊕ low) ⊕ (b * 2 ^ 192) ≡ low ⊕ ((t ⊕ b) * 2 ^ 192)
    around =
        ap (λ (z : ℕ). z ⊕ (b * 2 ^ 192)) (⊕-comm (t * 2 ^ 192) low) ∙ ⊕-assoc low (t * 2 ^ 192) (b * 2 ^ 192)
        ∙ ap (λ (z : ℕ). low ⊕ z) (sym (⊕-shift t b 192))

-- the whole step
pub stepped : (h m l b s u w x r : ℕ) → h < 2 ^ 64 → m < 2 ^ 64 → l < 2 ^ 64 → b < 2 ^ 16 → s ≡ joined h m l * 65536 % 2 ^ 192
    → u ≡ times_power 200 (bit_xor (h / 2 ^ 48) b / 256) → w ≡ times_power 192 (bit_xor (h / 2 ^ 48) b % 256) → x ≡ s ⊕ u → r ≡ x ⊕ w → r ≡ step_of (joined h m l) b
stepped h m l b s u w x r hh hm hl hb es eu ew ex er =
    er ∙ ap₂ ◌⊕◌ (ex ∙ ap₂ ◌⊕◌ es eu) ew
    ∙ ap (λ (t : ℕ). (joined h m l * 65536 % 2 ^ 192 ⊕ times_power 200 (bit_xor t b / 256)) ⊕ times_power 192 (bit_xor t b % 256)) (sym top)
    ∙ sym (step_is (joined h m l) b (subst (λ (t : ℕ). bit_xor t b < 65536) (sym top) (xor_lt 16 (h / 2 ^ 48) b (top_lt h hh) hb)))
  where
    top : joined h m l / 2 ^ 176 ≡ h / 2 ^ 48
    top = top_bytes h m l hm hl
