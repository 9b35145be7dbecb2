-- The generator's roots: the powers alpha^1 to alpha^24 and their conjugates, 192 in all. A binary polynomial is a multiple of the
-- generator exactly when it vanishes at alpha, alpha^3, .. alpha^23.
--
-- In order: entry i vanishes, computed (`entry_vanishes`); the 192 roots (`root`); a polynomial that vanishes there is a multiple
-- (`vanishing_multiple`); the same by the remainder.
use Rattle.std.specs.Prelude.{◌≡◌, not, ◌&&◌, List, [], ◌∷◌, ℕ, zero, suc, ◌+◌, ◌*◌, ◌/◌, ◌%◌, ◌^◌, ◌≤◌, ◌<◌, T, ltb, eqb, get_or, length}
use Rattle.std.proofs.Common.{sym, ap, ap₂, ◌∙◌, subst, not-suc-le-zero, le_of_suc-le-suc, mod-lt, pow-suc, mul-one, le_refl, lt_of_lt_of_le, arith, ltb→lt, eqb→eq, T_not, lit<, pow_mono}
use Rattle.std.proofs.Math.Decide.{dec_le}
use Rattle.std.proofs.Math.Dec.{eqb_refl}
use Rattle.std.specs.Float.Ieee.Fits.{and_l, and_r}
use Rattle.laws.specs.Definitions.{◌⊕◌, clmul, rem}
use Rattle.laws.specs.Tests.{below, below_at}
use Rattle.laws.specs.Poly.{quo, division, rem_lt}
use Rattle.bch_table.specs.Generator.{masks, product, generator}
use Rattle.bch_table.specs.Digits.{product_lt}
use Rattle.bch_table.specs.GeneratorLaws.{generator_lt, generator_top}
use Rattle.algebra.specs.Gf.{mul, mul_n, xt, El}
use Rattle.algebra.specs.RingLaws.{⊠-zero, zero-⊠, zero-⊞}
use Rattle.algebra.specs.GfField.{gf_ring, gf_field}
use Rattle.algebra.specs.GfLaws.{el_path}
use Rattle.algebra.specs.Series.{pow, ev, bit}
use Rattle.algebra.specs.SeriesLaws.{pow_add}
use Rattle.algebra.specs.Power.{fast, digit, fast_pow, pow_mod}
use Rattle.algebra.specs.Roots.{Distinct}
use Rattle.algebra.specs.Values.{ev_add, ev_square, ev_clmul, ev_more, multiple}
use Rattle.gf16.specs.Field16.{gf16, R16, α}
use Rattle.gf16.specs.Alpha.{α_full, α_distinct}

-- ---- entry i vanishes at alpha^(2i - 1), computed; here i counts from 0
entries : T (below 12 (λ i. eqb (ev R16 17 (get_or masks i 0) (fast R16 16 α (2 * i + 1))).0 0))
unfolding below masks ev bit fast digit gf16 gf_field gf_ring mul mul_n xt ◌⊕◌
entries = tt

pub entry_vanishes : (i : ℕ) → i < 12 → ev R16 17 (get_or masks i 0) (pow R16 α (2 * i + 1)) ≡ R16.𝟘
unfolding gf16 gf_field gf_ring
entry_vanishes i h = ap (ev R16 17 (get_or masks i 0)) (sym (fast_pow R16 16 α (2 * i + 1) (omega arith))) ∙ el_path (eqb→eq _ _ (below_at 12 _ entries i h))

-- a product of k polynomials of 17 coefficients has at most 17 k + 1
few : (ms : List ℕ) → product ms < 2 ^ (17 * length ms + 1)
few ms = lt_of_lt_of_le (product_lt ms) (pow_mono (omega arith))

-- a product vanishes where one of its factors does
product_vanish : (ms : List ℕ) (i : ℕ) (z : El 15) → i < length ms → ev R16 17 (get_or ms i 0) z ≡ R16.𝟘 → ev R16 (17 * length ms + 1) (product ms) z ≡ R16.𝟘
unfolding product
product_vanish [] i z h e = absurd (not-suc-le-zero h)
product_vanish (m ∷ ms) i z h e =
    let n : 17 * suc (length ms) + 1 ≡ 17 + (17 * length ms + 1) = omega arith in
    ap (λ (k : ℕ). ev R16 k (clmul 17 m (product ms)) z) n
    ∙ ev_clmul R16 17 m (product ms) (17 * length ms + 1) (17 + (17 * length ms + 1)) z (few ms) (le_refl _)
    ∙ factor (λ j. product_vanish ms j z) i h e
  where
    factor : ((j : ℕ) → j < length ms → ev R16 17 (get_or ms j 0) z ≡ R16.𝟘 → ev R16 (17 * length ms + 1) (product ms) z ≡ R16.𝟘)
        → (i : ℕ) → i < suc (length ms) → ev R16 17 (get_or (m ∷ ms) i 0) z ≡ R16.𝟘 → R16.◌⊠◌ (ev R16 17 m z) (ev R16 (17 * length ms + 1) (product ms) z) ≡ R16.𝟘
    factor rest zero h e = ap (λ y. R16.◌⊠◌ y (ev R16 (17 * length ms + 1) (product ms) z)) e ∙ zero-⊠ R16 _
    factor rest (suc i) h e = ap (R16.◌⊠◌ (ev R16 17 m z)) (rest i (le_of_suc-le-suc h) e) ∙ ⊠-zero R16 _

twelve : (i : ℕ) → i < 12 → i < length masks
unfolding masks
twelve i h = h

generator_odd : (i : ℕ) → i < 12 → ev R16 193 generator (pow R16 α (2 * i + 1)) ≡ R16.𝟘
unfolding generator masks
generator_odd i h =
    sym (ev_more R16 193 205 generator _ generator_lt (omega arith)) ∙ product_vanish masks i _ (twelve i h) (entry_vanishes i h)

-- ---- the 192 roots
unfoldable pub ex : ℕ → ℕ
ex p = (2 * (p % 12) + 1) * 2 ^ (p / 12)

unfoldable pub root : ℕ → El 15
root p = pow R16 α (ex p)

apart : T (below 192 (λ j. below j (λ i. not (eqb (ex i % 65535) (ex j % 65535)))))
unfolding below ex
apart = tt

root_distinct : Distinct 192 root
unfolding root
root_distinct i j h h' e = differ (below_at j _ (below_at 192 _ apart j h') i h)
  where
    low : pow R16 α (ex i % 65535) ≡ pow R16 α (ex j % 65535)
    low = sym (pow_mod R16 α 65535 (ex i) α_full) ∙ e ∙ pow_mod R16 α 65535 (ex j) α_full

    pick : Dec (ex i % 65535 ≤ ex j % 65535) → Dec (ex j % 65535 ≤ ex i % 65535) → ex i % 65535 ≡ ex j % 65535
    pick (yes a) (yes b) = omega arith
    pick (no a) b = absurd (α_distinct (ex j % 65535) (ex i % 65535) (omega arith) (mod-lt (ex i) (lit< tt)) (sym low))
    pick (yes a) (no b) = absurd (α_distinct (ex i % 65535) (ex j % 65535) (omega arith) (mod-lt (ex j) (lit< tt)) low)

    differ : T (not (eqb (ex i % 65535) (ex j % 65535))) → ⊥
    differ t = T_not (eqb (ex i % 65535) (ex j % 65535)) t (subst (λ (z : ℕ). T (eqb (ex i % 65535) z)) (pick (dec_le _ _) (dec_le _ _)) (eqb_refl (ex i % 65535)))

-- a binary polynomial that vanishes at a power vanishes at its conjugates
conjugates : (k w a : ℕ) → ev R16 k w (pow R16 α a) ≡ R16.𝟘 → (n : ℕ) → ev R16 k w (pow R16 α (a * 2 ^ n)) ≡ R16.𝟘
conjugates k w a z zero = ap (λ (v : ℕ). ev R16 k w (pow R16 α v)) (mul-one a) ∙ z
conjugates k w a z (suc n) =
    ap (ev R16 k w) (ap (pow R16 α) twice ∙ pow_add R16 α (a * 2 ^ n) (a * 2 ^ n)) ∙ sym (ev_square R16 k w (pow R16 α (a * 2 ^ n)))
    ∙ ap (λ y. R16.◌⊠◌ y y) (conjugates k w a z n) ∙ ⊠-zero R16 _
  where
    twice : a * 2 ^ suc n ≡ a * 2 ^ n + a * 2 ^ n
    twice =
        let e : a * (2 ^ n * 2) ≡ a * 2 ^ n + a * 2 ^ n = omega arith in
        ap (λ (z : ℕ). a * z) (pow-suc 2 n) ∙ e

at_all : (k w : ℕ) → ((i : ℕ) → i < 12 → ev R16 k w (pow R16 α (2 * i + 1)) ≡ R16.𝟘) → (p : ℕ) → ev R16 k w (root p) ≡ R16.𝟘
unfolding root ex
at_all k w z p = conjugates k w (2 * (p % 12) + 1) (z (p % 12) (mod-lt p (lit< tt))) (p / 12)

-- what vanishes at the twelve odd powers is a multiple of the generator
zero_syndromes : (k w : ℕ) → w < 2 ^ k → ((i : ℕ) → i < 12 → ev R16 k w (pow R16 α (2 * i + 1)) ≡ R16.𝟘) → rem 192 generator k w ≡ 0
zero_syndromes k w h z = multiple gf16 192 generator root generator_lt generator_top root_distinct (λ p _. at_all 193 generator generator_odd p) k w h (λ p _. at_all k w z p)

-- each of alpha^1 .. alpha^24 is a root: an odd power, or a conjugate of one
-- (the odd parts, as 2 o + 1, and the exponents of two of 1 to 24)
odds : List ℕ
odds = 0 ∷ 0 ∷ 1 ∷ 0 ∷ 2 ∷ 1 ∷ 3 ∷ 0 ∷ 4 ∷ 2 ∷ 5 ∷ 1 ∷ 6 ∷ 3 ∷ 7 ∷ 0 ∷ 8 ∷ 4 ∷ 9 ∷ 2 ∷ 10 ∷ 5 ∷ 11 ∷ 1 ∷ []

twos : List ℕ
twos = 0 ∷ 1 ∷ 0 ∷ 2 ∷ 0 ∷ 1 ∷ 0 ∷ 3 ∷ 0 ∷ 1 ∷ 0 ∷ 2 ∷ 0 ∷ 1 ∷ 0 ∷ 4 ∷ 0 ∷ 1 ∷ 0 ∷ 2 ∷ 0 ∷ 1 ∷ 0 ∷ 3 ∷ []

parts : T (below 24 (λ i. eqb ((2 * get_or odds i 0 + 1) * 2 ^ get_or twos i 0) (i + 1) && ltb (get_or odds i 0) 12))
unfolding below odds twos
parts = tt

first_24 : (k w : ℕ) → ((i : ℕ) → i < 12 → ev R16 k w (pow R16 α (2 * i + 1)) ≡ R16.𝟘) → (i : ℕ) → i < 24 → ev R16 k w (pow R16 α (i + 1)) ≡ R16.𝟘
first_24 k w z i h =
    let t = below_at 24 _ parts i h in
    let e = eqb→eq ((2 * get_or odds i 0 + 1) * 2 ^ get_or twos i 0) (i + 1) (and_l (eqb ((2 * get_or odds i 0 + 1) * 2 ^ get_or twos i 0) (i + 1)) (ltb (get_or odds i 0) 12) t) in
    let l = ltb→lt (get_or odds i 0) 12 (and_r (eqb ((2 * get_or odds i 0 + 1) * 2 ^ get_or twos i 0) (i + 1)) (ltb (get_or odds i 0) 12) t) in
    ap (λ (m : ℕ). ev R16 k w (pow R16 α m)) (sym e) ∙ conjugates k w (2 * get_or odds i 0 + 1) (z (get_or odds i 0) l) (get_or twos i 0)

-- what vanishes at alpha^1 to alpha^24 is a multiple of the generator
pub vanishing_multiple : (k w : ℕ) → w < 2 ^ k → ((i : ℕ) → i < 24 → ev R16 k w (pow R16 α (i + 1)) ≡ R16.𝟘) → rem 192 generator k w ≡ 0
vanishing_multiple k w h z = zero_syndromes k w h (λ i hi. z (2 * i) (omega arith))

-- values at the roots go by the remainder alone
pub by_remainder : (k w i : ℕ) → w < 2 ^ k → i < 24 → ev R16 k w (pow R16 α (i + 1)) ≡ ev R16 192 (rem 192 generator k w) (pow R16 α (i + 1))
by_remainder k w i h hi =
    sym (ev_more R16 k (k + 193) w z h (omega arith)) ∙ ap (λ (v : ℕ). ev R16 (k + 193) v z) (division 192 generator k w h)
    ∙ ev_add R16 (k + 193) (clmul k q generator) r z
    ∙ ap₂ R16.◌⊞◌
    (ev_clmul R16 k q generator 193 (k + 193) z generator_lt (le_refl _) ∙ ap (R16.◌⊠◌ (ev R16 k q z)) (first_24 193 generator generator_odd i hi) ∙ ⊠-zero R16 _)
    (ev_more R16 192 (k + 193) r z (rem_lt 192 generator k w generator_top) (omega arith))
    ∙ zero-⊞ R16 _
  where
    z : El 15
    z = pow R16 α (i + 1)

    q : ℕ
    q = quo 192 generator k w

    r : ℕ
    r = rem 192 generator k w
