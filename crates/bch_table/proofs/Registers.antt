-- The rule of each table: its entries are the words of the registers. antt computes one test over the whole table:
-- the register of 0 is 0, that of 2 ^ (i + 1) is that of 2 ^ i shifted once, and that of t is that of t without its top digit, with that of its top digit added.
-- Laws on remainders turn what it shows into t(x) times x^e mod g, whatever e is.
-- Assumes nothing.
use Rattle.std.proofs.Common.{◌≡◌, refl, sym, ap, ap₂, ◌∙◌, subst, List, [], ◌∷◌, ◌++◌, map, ℕ, zero, suc, ◌+◌, ◌-◌, ◌*◌, ◌^◌, ◌≤◌, ◌<◌, not-suc-le-zero, le_of_suc-le-suc, le_of_lt, lt_of_lt_of_le, lt_of_not-le, le_refl, add_comm, zero-mul, one-mul, pow-suc, mul-div_cancel, add-zero, zero-add, add-suc, suc-add, arith, lit<, length, get_or, length-append, get_or-append-add, pow_mono, shl_lt}
use Rattle.std.proofs.Math.Nat.{mul-mod_left, two-pow-succ}
use Rattle.std.proofs.Math.Decide.{dec_le}
use Rattle.std.proofs.Math.Arith.{lt-one}
use Rattle.std.proofs.Math.ListN.{length-map, get_or-append}
use Rattle.std.proofs.Math.Pow.{pow-lt}
use Rattle.laws.specs.Xor.{two_pos}
use Rattle.laws.specs.Definitions.{◌⊕◌, rem, into, shifted}
use Rattle.laws.specs.Poly.{rem_zero, rem_add, rem_digits, ⊕-join, ⊕-shift}
use Rattle.bch_table.specs.Generator.{generator}
use Rattle.bch_table.specs.GeneratorLaws.{generator_is}
use Rattle.bch_table.specs.Table.{times_power, word_of, table_from, byte_table, upper_table, entry_at}
use Rattle.bch_table.specs.Step.{joined}
use Rattle.bch_table.specs.Words as three
use Rattle.bch_table.specs.declared.TheConstants.{TABLE, UPPER}

-- a list, and after it the same with r added to each
unfoldable both_halves : ℕ → List ℕ → List ℕ
both_halves r l = l ++ map (λ (x : ℕ). r ⊕ x) l

-- x^i times the register r
unfoldable doubled : ℕ → ℕ → ℕ → ℕ
doubled g r zero = r
doubled g r (suc i) = into 192 g (doubled g r i) 0

-- the registers of the numbers below 2 ^ i, from that of 1
unfoldable registers : ℕ → ℕ → ℕ → List ℕ
registers g r zero = 0 ∷ []
registers g r (suc i) = both_halves (doubled g r i) (registers g r i)

-- the words of registers, one after the other
unfoldable words : List ℕ → List ℕ
words [] = []
words (r ∷ rs) = word_of 0 r ∷ word_of 1 r ∷ word_of 2 r ∷ words rs

-- the words of the code's registers
unfoldable pub words_of : List (List ℕ) → List ℕ
words_of [] = []
words_of (r ∷ rs) = get_or r 0 0 ∷ get_or r 1 0 ∷ get_or r 2 0 ∷ words_of rs

-- ---- the test
table_is : words (registers 0x13b92f15b3078b68d77aa6c59656e8a4cfba9211137981c4b 0x3b92f15b3078b68d77aa6c59656e8a4cfba9211137981c4b 8) ≡ words_of TABLE
unfolding words words_of registers both_halves doubled word_of into shifted ◌⊕◌
table_is = refl

-- x^192 mod g is g without its top digit
first_of : rem 192 0x13b92f15b3078b68d77aa6c59656e8a4cfba9211137981c4b 200 (2 ^ 192) ≡ 0x3b92f15b3078b68d77aa6c59656e8a4cfba9211137981c4b
unfolding rem into shifted ◌⊕◌
first_of = refl

first : times_power 192 1 ≡ 0x3b92f15b3078b68d77aa6c59656e8a4cfba9211137981c4b
unfolding times_power
first = ap (λ (g : ℕ). rem 192 g 200 (2 ^ 192)) generator_is ∙ first_of

-- the same of the second table, from x^200 mod g on
upper_is : words (registers 0x13b92f15b3078b68d77aa6c59656e8a4cfba9211137981c4b 0x1c79c8e652fd374aa9291cc3e1a0ce66a228eced1f0ead32 8) ≡ words_of UPPER
unfolding words words_of registers both_halves doubled word_of into shifted ◌⊕◌
upper_is = refl

upper_first_of : rem 192 0x13b92f15b3078b68d77aa6c59656e8a4cfba9211137981c4b 208 (2 ^ 200) ≡ 0x1c79c8e652fd374aa9291cc3e1a0ce66a228eced1f0ead32
unfolding rem into shifted ◌⊕◌
upper_first_of = refl

upper_first : times_power 200 1 ≡ 0x1c79c8e652fd374aa9291cc3e1a0ce66a228eced1f0ead32
unfolding times_power
upper_first = ap (λ (g : ℕ). rem 192 g 208 (2 ^ 200)) generator_is ∙ upper_first_of

-- ---- the registers
power_zero : (e : ℕ) → times_power e 0 ≡ 0
unfolding times_power
power_zero e = ap (rem 192 generator (e + 8)) (zero-mul (2 ^ e)) ∙ rem_zero 192 generator (e + 8)

power_add : (e a b : ℕ) → times_power e (a ⊕ b) ≡ times_power e a ⊕ times_power e b
unfolding times_power
power_add e a b = ap (rem 192 generator (e + 8)) (⊕-shift a b e) ∙ rem_add 192 generator (e + 8) (a * 2 ^ e) (b * 2 ^ e)

power_double : (e t : ℕ) → t * 2 < 2 ^ 8 → into 192 generator (times_power e t) 0 ≡ times_power e (t * 2)
unfolding times_power rem
power_double e t h =
    sym (ap₂ (λ (x y : ℕ). into 192 generator (rem 192 generator (e + 8) x) y) (mul-div_cancel (t * 2 ^ e) two_pos) (mul-mod_left (t * 2 ^ e) 2))
    ∙ rem_digits 192 generator (suc (e + 8)) (e + 8) (t * 2 ^ e * 2) (lt_of_lt_of_le fits (pow_mono (omega arith))) fits
    ∙ ap (rem 192 generator (e + 8)) around
  where
    around : t * 2 ^ e * 2 ≡ t * 2 * 2 ^ e
    around = omega arith

    fits : t * 2 ^ e * 2 < 2 ^ (e + 8)
    fits = subst (λ (z : ℕ). z < 2 ^ (e + 8)) (sym around) (subst (λ (n : ℕ). t * 2 * 2 ^ e < 2 ^ n) (add_comm 8 e) (shl_lt 8 e h))

doubled_is : (e i : ℕ) → i < 8 → doubled generator (times_power e 1) i ≡ times_power e (2 ^ i)
unfolding doubled
doubled_is e zero h = refl
doubled_is e (suc i) h =
    ap (λ (r : ℕ). into 192 generator r 0) (doubled_is e i (omega arith)) ∙ power_double e (2 ^ i) fits ∙ ap (times_power e) (sym (pow-suc 2 i))
  where
    fits : 2 ^ i * 2 < 2 ^ 8
    fits = subst (λ (z : ℕ). z < 2 ^ 8) (pow-suc 2 i) (pow-lt h)

registers_length : (g r i : ℕ) → length (registers g r i) ≡ 2 ^ i
unfolding registers both_halves
registers_length g r zero = refl
registers_length g r (suc i) =
    length-append l (map (λ (x : ℕ). doubled g r i ⊕ x) l) ∙ ap (λ (n : ℕ). length l + n) (length-map l (λ (x : ℕ). doubled g r i ⊕ x))
    ∙ ap (λ (n : ℕ). n + n) (registers_length g r i) ∙ sym (two-pow-succ i)
  where
    l : List ℕ
    l = registers g r i

get_d_mapped : (f : ℕ → ℕ) (l : List ℕ) (n : ℕ) → n < length l → get_or (map f l) n 0 ≡ f (get_or l n 0)
get_d_mapped f [] n h = absurd (not-suc-le-zero h)
get_d_mapped f (x ∷ l) zero h = refl
get_d_mapped f (x ∷ l) (suc n) h = get_d_mapped f l n (le_of_suc-le-suc h)

registers_at : (e i : ℕ) → i ≤ 8 → (t : ℕ) → t < 2 ^ i → get_or (registers generator (times_power e 1) i) t 0 ≡ times_power e t
unfolding registers both_halves
registers_at e zero hi t h = subst (λ (t : ℕ). get_or (0 ∷ []) t 0 ≡ times_power e t) (sym (lt-one h)) (sym (power_zero e))
registers_at e (suc i) hi t h = go (registers_at e i (le_of_lt hi)) (dec_le (2 ^ i) t)
  where
    l : List ℕ
    l = registers generator (times_power e 1) i

    added : ℕ → ℕ
    added x = doubled generator (times_power e 1) i ⊕ x

    long : length l ≡ 2 ^ i
    long = registers_length generator (times_power e 1) i

    Below : Type 0
    Below = (t : ℕ) → t < 2 ^ i → get_or l t 0 ≡ times_power e t

    upper : Below → (s : ℕ) → s < 2 ^ i → get_or (l ++ map added l) (2 ^ i + s) 0 ≡ times_power e (2 ^ i + s)
    upper ih s hs =
        ap (λ (n : ℕ). get_or (l ++ map added l) (n + s) 0) (sym long)
        ∙ get_or-append-add l (map added l) s 0
        ∙ get_d_mapped added l s (subst (λ (n : ℕ). s < n) (sym long) hs)
        ∙ ap₂ ◌⊕◌ (doubled_is e i hi) (ih s hs)
        ∙ sym (power_add e (2 ^ i) s)
        ∙ ap (times_power e) (ap (λ (z : ℕ). z ⊕ s) (sym (one-mul (2 ^ i))) ∙ ⊕-join 1 i s hs ∙ ap (λ (z : ℕ). z + s) (one-mul (2 ^ i)))

    go : Below → Dec (2 ^ i ≤ t) → get_or (l ++ map added l) t 0 ≡ times_power e t
    go ih (yes b) =
        let s : 2 ^ i + (t - 2 ^ i) ≡ t = omega arith in
        subst (λ (n : ℕ). get_or (l ++ map added l) n 0 ≡ times_power e n) s (upper ih (t - 2 ^ i) (omega (arith, two-pow-succ i)))
    go ih (no b) =
        let low : t < 2 ^ i = lt_of_not-le b in
        get_or-append l (map added l) 0 t (subst (λ (n : ℕ). t < n) (sym long) low) ∙ ih t low

-- ---- the words
words_from : (e t : ℕ) (rs : List ℕ) → ((i : ℕ) → i < length rs → get_or rs i 0 ≡ times_power e (t + i)) → words rs ≡ table_from e t (length rs)
unfolding words table_from
words_from e t [] h = refl
words_from e t (r ∷ rs) h =
    ap₂ (λ (x : ℕ) (l : List ℕ). word_of 0 x ∷ word_of 1 x ∷ word_of 2 x ∷ l) (h 0 (omega arith) ∙ ap (times_power e) (add-zero t))
    (words_from e (suc t) rs (λ i g. h (suc i) (omega arith) ∙ ap (times_power e) (add-suc t i ∙ sym (suc-add t i))))

-- a table that the test shows to be the words of the registers from r on, where r is x^e mod g
rule : (e r : ℕ) (table : List (List ℕ)) → times_power e 1 ≡ r → words (registers 0x13b92f15b3078b68d77aa6c59656e8a4cfba9211137981c4b r 8) ≡ words_of table → words_of table ≡ table_from e 0 256
rule e r table one is =
    sym is ∙ ap₂ (λ (g r : ℕ). words (registers g r 8)) (sym generator_is) (sym one)
    ∙ words_from e 0 rs (λ i h. registers_at e 8 (le_refl 8) i (subst (λ (n : ℕ). i < n) long h) ∙ ap (times_power e) (sym (zero-add i)))
    ∙ ap (table_from e 0) long
  where
    rs : List ℕ
    rs = registers generator (times_power e 1) 8

    long : length rs ≡ 256
    long = registers_length generator (times_power e 1) 8

pub table_rule : words_of TABLE ≡ byte_table
unfolding byte_table
table_rule = rule 192 _ TABLE first table_is

pub upper_rule : words_of UPPER ≡ upper_table
unfolding upper_table
upper_rule = rule 200 _ UPPER upper_first upper_is

-- ---- the register of a byte
word_in : (l : List (List ℕ)) (t : ℕ) (d : List ℕ) → t < length l
    → (get_or (words_of l) (t * 3 + 0) 0 ≡ get_or (get_or l t d) 0 0) × (get_or (words_of l) (t * 3 + 1) 0 ≡ get_or (get_or l t d) 1 0)
    × (get_or (words_of l) (t * 3 + 2) 0 ≡ get_or (get_or l t d) 2 0)
unfolding words_of
word_in [] t d h = absurd (not-suc-le-zero h)
word_in (r ∷ l) zero d h = (refl, refl, refl)
word_in (r ∷ l) (suc t) d h = let w = word_in l t d (le_of_suc-le-suc h) in (past 0 w.0, past 1 w.1, past 2 w.2)
  where
    past : (k : ℕ) {x : ℕ} → get_or (words_of l) (t * 3 + k) 0 ≡ x → get_or (words_of (r ∷ l)) (suc t * 3 + k) 0 ≡ x
    past k e = let three : suc t * 3 + k ≡ suc (suc (suc (t * 3 + k))) = omega arith in ap (λ (m : ℕ). get_or (words_of (r ∷ l)) m 0) three ∙ e

register_at : (e : ℕ) (table : List (List ℕ)) → words_of table ≡ table_from e 0 256 → (t : ℕ) (d : List ℕ) → t < length table → t < 256
    → joined (get_or (get_or table t d) 0 0) (get_or (get_or table t d) 1 0) (get_or (get_or table t d) 2 0) ≡ times_power e t
register_at e table right t d h small =
    let w = word_in table t d h in
    (λ i. joined (at 0 (lit< tt) w.0 i) (at 1 (lit< tt) w.1 i) (at 2 (lit< tt) w.2 i)) ∙ three.words (times_power e t)
  where
    at : (k : ℕ) {x : ℕ} → k < 3 → get_or (words_of table) (t * 3 + k) 0 ≡ x → x ≡ word_of k (times_power e t)
    at k hk same = sym same ∙ ap (λ (l : List ℕ). get_or l (t * 3 + k) 0) right ∙ entry_at e t k small hk

pub lower_at : (t : ℕ) (d : List ℕ) → t < 256 → joined (get_or (get_or TABLE t d) 0 0) (get_or (get_or TABLE t d) 1 0) (get_or (get_or TABLE t d) 2 0) ≡ times_power 192 t
unfolding byte_table
lower_at t d h = register_at 192 TABLE table_rule t d h h

pub upper_at : (t : ℕ) (d : List ℕ) → t < 256 → joined (get_or (get_or UPPER t d) 0 0) (get_or (get_or UPPER t d) 1 0) (get_or (get_or UPPER t d) 2 0) ≡ times_power 200 t
unfolding upper_table
upper_at t d h = register_at 200 UPPER upper_rule t d h h
