-- The product of two polynomials, by Horner's rule over the digits of the second. Assumes nothing.
use Rattle.std.proofs.Common.{◌≡◌, sym, ap, ap₂, ◌∙◌, subst, ℕ, zero, suc, ◌-◌, ◌*◌, ◌/◌, ◌%◌, ◌^◌, ◌≤◌, ◌<◌, lt_of_lt_of_le, div-one, le_refl, lit<, arith, pow_mono, bit_xor, bit_and}
use Rattle.laws.specs.Xor.{⊕-comm}
use Rattle.bch_table.specs.Digits.{low_bit}
use Rattle.bch_table.proofs.Horner.{horner_next}
use Rattle.laws.specs.Definitions.{◌⊕◌, clmul}
use Rattle.laws.specs.Poly.{clmul_degree}
use Rattle.algebra.specs.Values.{ev_clmul}
use Rattle.algebra.specs.Series.{ev}
use Rattle.gf16.specs.Field16.{R16, α}
use Rattle.bch_locator.specs.Element.{to_el}
use Rattle.bch_locator.proofs.AtAlpha.{ev_itself}

-- ---- the loop of `mul`: x is the product of a and the digits of b from i up
pub product_small : (n q a : ℕ) → n ≤ 16 → a < 65536 → clmul n q a < 2147483648
unfolding clmul
product_small zero q a h ha = lit< tt
product_small (suc n) q a h ha = lt_of_lt_of_le (clmul_degree n q 16 a ha) (pow_mono {j = 31} (omega arith))

pub product_start : (a b x : ℕ) → x ≡ 0 → x ≡ clmul 0 (b / 2 ^ 16) a
unfolding clmul
product_start a b x e = e

pub product_next : (a b x i : ℕ) → a < 65536 → 0 < i → i ≤ 16 → x ≡ clmul (16 - i) (b / 2 ^ i) a
    → bit_xor (x * 2 % 4294967296) (bit_and (b / 2 ^ (i - 1)) 1 * a) ≡ clmul (16 - (i - 1)) (b / 2 ^ (i - 1)) a
unfolding ◌⊕◌
product_next a b x i ha h le e =
    ap₂ (λ (y z : ℕ). bit_xor y (z * a)) whole (low_bit (b / 2 ^ (i - 1))) ∙ ⊕-comm (x * 2) (b / 2 ^ (i - 1) % 2 * a)
    ∙ ap (λ (y : ℕ). bit_xor (b / 2 ^ (i - 1) % 2 * a) (y * 2)) e ∙ horner_next 16 b a i h le
  where
    small : x < 2147483648
    small = subst (λ (z : ℕ). z < 2147483648) (sym e) (product_small (16 - i) (b / 2 ^ i) a (omega arith) ha)

    whole : x * 2 % 4294967296 ≡ x * 2
    whole = omega (arith, small)

pub product_fits : (a b x i : ℕ) → a < 65536 → x ≡ clmul (16 - i) (b / 2 ^ i) a → x < 2147483648
product_fits a b x i ha e = subst (λ (z : ℕ). z < 2147483648) (sym e) (product_small (16 - i) (b / 2 ^ i) a (omega arith) ha)

-- all of them
pub product_end : (a b x i r : ℕ) → a < 65536 → b < 65536 → i ≤ 0 → x ≡ clmul (16 - i) (b / 2 ^ i) a → to_el r ≡ ev R16 32 x α → to_el r ≡ R16.◌⊠◌ (to_el a) (to_el b)
product_end a b x i r ha hb h e f =
    let n : i ≡ 0 = omega arith in
    f
    ∙ ap (λ (z : ℕ). ev R16 32 z α) (e ∙ ap (λ (k : ℕ). clmul (16 - k) (b / 2 ^ k) a) n ∙ ap (λ (z : ℕ). clmul 16 z a) (div-one b))
    ∙ ev_clmul R16 16 b a 16 32 α ha (le_refl 32) ∙ ap₂ R16.◌⊠◌ (ev_itself b hb) (ev_itself a ha) ∙ R16.⊠-comm (to_el b) (to_el a)
