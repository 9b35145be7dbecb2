-- Words put together, and what that makes of their remainders. Encoding gives a codeword; remainder 0 and being divided by g are the same.
--
-- In order: numbers of words (`number_append`, `number_digit`); the digits of a remainder; remainders sixteen bits at a time; codewords
-- (`remainder_codeword`, `codeword_remainder`, `encoded_codeword`).
--
-- Not here: division by a polynomial (laws, Poly).
use Rattle.std.specs.Prelude.{◌≡◌, refl, List, [], ◌∷◌, ◌++◌, ℕ, zero, suc, ◌+◌, ◌-◌, ◌*◌, ◌/◌, ◌%◌, ◌^◌, ◌≤◌, ◌<◌, length, get_or}
use Rattle.std.proofs.Common.{sym, ap, ap₂, ◌∙◌, subst, not-suc-le-zero, le_of_suc-le-suc, le-add_left, mod-lt, mod-eq_of_lt, zero-add, zero-mul, add_comm, mul_comm, pow-suc, lt_of_lt_of_le, add-one, arith, length-append, pow-add, pow_pos, pow_mono, shl_lt}
use Rattle.std.proofs.Math.Nat.{suc-sub-suc, mul-add-div_right, mul-add-mod_self_right, mod-mod, mod-one}
use Rattle.std.proofs.Math.Arith.{digits_lt}
use Rattle.std.proofs.Math.Pow.{high}
use Rattle.std.proofs.lemmas.Nat.{mod-pow-add}
use Rattle.laws.specs.Xor.{⊕-lt, ⊕-self, zero-⊕, two_pos}
use Rattle.laws.specs.Definitions.{◌⊕◌, rem}
use Rattle.laws.specs.Poly.{rem_lt, rem_zero, rem_add, rem_small, rem_digits, rem_shift, ⊕-join, ⊕-shift, divides_rem, rem_divides}
use Rattle.bch_table.specs.Generator.{generator}
use Rattle.bch_table.specs.GeneratorLaws.{generator_top}
use Rattle.bch_table.specs.Step.{step_of}
use Rattle.bch_remainder.specs.Word.{number, number_from, parity_of, remainder_of, Codeword, bits_of, parity_bits}

-- ---- numbers of words
number_from_is : (a : ℕ) (w : List ℕ) → number_from a w ≡ a * 2 ^ length w + number w
unfolding number number_from
number_from_is a [] = omega arith
number_from_is a (b ∷ w) =
    number_from_is (a * 2 + b % 2) w
    ∙ spread a (b % 2) (2 ^ length w) (number_from 0 w) (2 ^ suc (length w)) (pow-suc 2 (length w))
    ∙ ap (λ (n : ℕ). a * 2 ^ suc (length w) + n) (sym (number_from_is (0 * 2 + b % 2) w))
  where
    spread : (a b p n q : ℕ) → q ≡ p * 2 → (a * 2 + b) * p + n ≡ a * q + ((0 * 2 + b) * p + n)
    spread a b p n q e =
        let h : (a * 2 + b) * p + n ≡ a * (p * 2) + ((0 * 2 + b) * p + n) = omega arith in
        h ∙ ap (λ (q : ℕ). a * q + ((0 * 2 + b) * p + n)) (sym e)

pub number_one_more : (b : ℕ) (w : List ℕ) → number (b ∷ w) ≡ b % 2 * 2 ^ length w + number w
unfolding number number_from
number_one_more b w = number_from_is (0 * 2 + b % 2) w ∙ ap (λ (x : ℕ). x * 2 ^ length w + number w) (zero-add (b % 2))

pub number_lt : (w : List ℕ) → number w < 2 ^ length w
unfolding number number_from
number_lt [] = omega arith
number_lt (b ∷ w) =
    subst (λ (n : ℕ). n < 2 ^ suc (length w)) (sym (number_one_more b w))
    (subst (λ (n : ℕ). b % 2 * 2 ^ length w + number w < n) (mul_comm 2 (2 ^ length w) ∙ sym (pow-suc 2 (length w))) (digits_lt (mod-lt b two_pos) (number_lt w)))

pub number_fits : (w : List ℕ) (k : ℕ) → length w ≤ k → number w < 2 ^ k
number_fits w k h = lt_of_lt_of_le (number_lt w) (pow_mono h)

number_from_append : (a : ℕ) (m d : List ℕ) → number_from a (m ++ d) ≡ number_from (number_from a m) d
unfolding number_from
number_from_append a [] d = refl
number_from_append a (b ∷ m) d = number_from_append (a * 2 + b % 2) m d

pub number_append : (m d : List ℕ) → number (m ++ d) ≡ number m * 2 ^ length d + number d
unfolding number
number_append m d = number_from_append 0 m d ∙ number_from_is (number_from 0 m) d

number-append-⊕ : (m d : List ℕ) → number (m ++ d) ≡ (number m * 2 ^ length d) ⊕ number d
number-append-⊕ m d = number_append m d ∙ sym (⊕-join (number m) (length d) (number d) (number_lt d))

-- the coefficient of each power: bit i from the front is that of x^(length - 1 - i)
high_part : (a n j k : ℕ) → (a * 2 ^ (j + suc k) + n) / 2 ^ j % 2 ≡ n / 2 ^ j % 2
high_part a n j k =
    ap (λ (x : ℕ). (x + n) / 2 ^ j % 2) (ap (λ (x : ℕ). a * x) (pow-add 2 j (suc k) ∙ ap (λ (x : ℕ). 2 ^ j * x) (pow-suc 2 k)) ∙ around a (2 ^ j) (2 ^ k))
    ∙ ap (λ (x : ℕ). x % 2) (mul-add-div_right (pow_pos j) (a * 2 ^ k * 2) n) ∙ mul-add-mod_self_right (a * 2 ^ k) 2 (n / 2 ^ j)
  where
    around : (a b c : ℕ) → a * (b * (c * 2)) ≡ a * c * 2 * b
    around a b c = omega arith

pub number_digit : (w : List ℕ) (i : ℕ) → i < length w → number w / 2 ^ (length w - suc i) % 2 ≡ get_or w i 0 % 2
number_digit [] i h = absurd (not-suc-le-zero h)
number_digit (b ∷ w) zero h =
    ap (λ (x : ℕ). x / 2 ^ (suc (length w) - 1) % 2) (number_one_more b w) ∙ ap (λ (k : ℕ). (b % 2 * 2 ^ length w + number w) / 2 ^ k % 2) less
    ∙ ap (λ (x : ℕ). x % 2) (high (b % 2) (length w) (number_lt w)) ∙ mod-mod b 2
  where
    less : suc (length w) - 1 ≡ length w
    less = omega arith
number_digit (b ∷ w) (suc i) h =
    ap (λ (x : ℕ). x / 2 ^ (suc (length w) - suc (suc i)) % 2) (number_one_more b w)
    ∙ ap₂ (λ (l k : ℕ). (b % 2 * 2 ^ l + number w) / 2 ^ k % 2) whole (suc-sub-suc (length w) (suc i))
    ∙ high_part (b % 2) (number w) (length w - suc i) i ∙ number_digit w i inside
  where
    inside : i < length w
    inside = le_of_suc-le-suc h

    whole : length w ≡ length w - suc i + suc i
    whole = omega arith

-- ---- digits of a remainder
pub length_bits : (k r : ℕ) → length (bits_of k r) ≡ k
unfolding bits_of
length_bits zero r = refl
length_bits (suc k) r = ap suc (length_bits k r)

number_bits_mod : (k r : ℕ) → number (bits_of k r) ≡ r % 2 ^ k
unfolding bits_of number number_from
number_bits_mod zero r = sym (mod-one r)
number_bits_mod (suc k) r =
    number_one_more (r / 2 ^ k % 2) (bits_of k r)
    ∙ ap₂ (λ (n b : ℕ). b * 2 ^ n + number (bits_of k r)) (length_bits k r) (mod-mod (r / 2 ^ k) 2)
    ∙ ap (λ (n : ℕ). r / 2 ^ k % 2 * 2 ^ k + n) (number_bits_mod k r) ∙ sym (mod-pow-add r 1 k) ∙ ap (λ (n : ℕ). r % 2 ^ n) (add_comm 1 k ∙ add-one k)

number_bits : (k r : ℕ) → r < 2 ^ k → number (bits_of k r) ≡ r
number_bits k r h = number_bits_mod k r ∙ mod-eq_of_lt h

-- ---- remainders
parity_lt : (m : List ℕ) → parity_of m < 2 ^ 192
unfolding parity_of
parity_lt m = rem_lt 192 generator (length m + 192) (number m * 2 ^ 192) generator_top

pub parity_none : parity_of [] ≡ 0
unfolding parity_of number number_from
parity_none = rem_zero 192 generator 192

-- the first bits, sixteen or fewer
pub parity_start : (c : List ℕ) → length c ≤ 16 → parity_of c ≡ step_of 0 (number c)
unfolding parity_of step_of
parity_start c h =
    rem_digits 192 generator (length c + 192) 208 (number c * 2 ^ 192) here (lt_of_lt_of_le here (pow_mono reach))
    ∙ ap (rem 192 generator 208) (sym (ap (λ (n : ℕ). n ⊕ (number c * 2 ^ 192)) (zero-mul (2 ^ 16)) ∙ zero-⊕ (number c * 2 ^ 192)))
  where
    here : number c * 2 ^ 192 < 2 ^ (length c + 192)
    here = shl_lt (length c) 192 (number_lt c)

    reach : length c + 192 ≤ 208
    reach = omega arith

-- sixteen bits more
pub parity_step : (m c : List ℕ) → length c ≡ 16 → parity_of (m ++ c) ≡ step_of (parity_of m) (number c)
unfolding parity_of step_of
parity_step m c h =
    ap₂ (λ (n x : ℕ). rem 192 generator (n + 192) (x * 2 ^ 192)) (length-append m c ∙ ap (λ (n : ℕ). length m + n) h) (number-append-⊕ m c ∙ ap (λ (n : ℕ). (number m * 2 ^ n) ⊕ number c) h)
    ∙ ap (rem 192 generator (length m + 16 + 192)) (⊕-shift (number m * 2 ^ 16) (number c) 192 ∙ ap (λ (x : ℕ). x ⊕ (number c * 2 ^ 192)) (around (number m) (2 ^ 16) (2 ^ 192)))
    ∙ rem_shift 192 generator (length m + 192) 16 (length m + 16 + 192) (number m * 2 ^ 192) (number c * 2 ^ 192) generator_top (shl_lt (length m) 192 (number_lt m)) (omega arith) (omega arith)
    ∙ rem_digits 192 generator (length m + 16 + 192) 208 ((parity_of m * 2 ^ 16) ⊕ (number c * 2 ^ 192)) (lt_of_lt_of_le small (pow_mono reach)) small
  where
    around : (a b c : ℕ) → a * b * c ≡ a * c * b
    around a b c = omega arith

    sixteen : number c < 2 ^ 16
    sixteen = subst (λ (n : ℕ). number c < 2 ^ n) h (number_lt c)

    small : (parity_of m * 2 ^ 16) ⊕ (number c * 2 ^ 192) < 2 ^ 208
    small = ⊕-lt 208 (shl_lt 192 16 (parity_lt m)) (shl_lt 16 192 sixteen)

    reach : 208 ≤ length m + 16 + 192
    reach = omega arith

-- the remainder of a word, from its message and its last 192 bits
pub remainder_split : (m d : List ℕ) → length d ≡ 192 → remainder_of (m ++ d) ≡ parity_of m ⊕ number d
unfolding remainder_of parity_of
remainder_split m d h =
    ap₂ (rem 192 generator) (length-append m d ∙ ap (λ (n : ℕ). length m + n) h) (number-append-⊕ m d ∙ ap (λ (n : ℕ). (number m * 2 ^ n) ⊕ number d) h)
    ∙ rem_add 192 generator (length m + 192) (number m * 2 ^ 192) (number d)
    ∙ ap (λ (n : ℕ). rem 192 generator (length m + 192) (number m * 2 ^ 192) ⊕ n) (rem_small 192 generator (length m + 192) (number d) small (lt_of_lt_of_le small (pow_mono (le-add_left 192 (length m)))))
  where
    small : number d < 2 ^ 192
    small = subst (λ (n : ℕ). number d < 2 ^ n) h (number_lt d)

-- ---- codewords
pub remainder_codeword : (w : List ℕ) → remainder_of w ≡ 0 → Codeword w
unfolding remainder_of
remainder_codeword w = rem_divides 192 generator (length w) (number w) (number_lt w)

pub codeword_remainder : (w : List ℕ) → Codeword w → remainder_of w ≡ 0
unfolding remainder_of
codeword_remainder w = divides_rem 192 generator (length w) (number w) generator_top (number_lt w)

-- encoding gives a codeword
-- a message and its parity
abbrev pub encoded : List ℕ → List ℕ
encoded m = m ++ parity_bits (parity_of m)

encoded_remainder : (m : List ℕ) → remainder_of (encoded m) ≡ 0
encoded_remainder m =
    remainder_split m (parity_bits (parity_of m)) (length_bits 192 (parity_of m))
    ∙ ap (λ (n : ℕ). parity_of m ⊕ n) (number_bits 192 (parity_of m) (parity_lt m)) ∙ ⊕-self (parity_of m)

pub encoded_codeword : (m : List ℕ) → Codeword (encoded m)
encoded_codeword m = remainder_codeword (encoded m) (encoded_remainder m)
