-- The order of alpha is 65,535, from its powers at the cofactors of 3, 5, 17 and 257: so its powers below 65,535 are not zero, and differ.
use Rattle.std.specs.Prelude.{◌≡◌, refl, ◌≢◌, Bool, ℕ, suc, ◌-◌, ◌*◌, ◌/◌, ◌%◌, ◌≤◌, ◌<◌, T, eqb}
use Rattle.std.proofs.Common.{sym, ap, ◌∙◌, subst, arith, lit<}
use Rattle.std.proofs.Math.Dec.{eqb_refl}
use Rattle.laws.specs.Definitions.{◌⊕◌}
use Rattle.algebra.specs.Gf.{mul, mul_n, xt, El}
use Rattle.algebra.specs.Series.{pow}
use Rattle.algebra.specs.Power.{digit, fast, fast_pow, misses, order_part}
use Rattle.algebra.specs.Roots.{Distinct, power_nz, power_distinct}
use Rattle.algebra.specs.GfField.{gf_ring, gf_field}
use Rattle.algebra.specs.GfLaws.{el_path}
use Rattle.gf16.specs.Field16.{gf16, R16, α}

unfoldable is_one : El 15 → Bool
is_one x = eqb x.0 1

one_is : (x : El 15) → x ≡ R16.𝟙 → T (is_one x)
unfolding is_one gf16 gf_field gf_ring
one_is x e = subst (λ (z : El 15). T (eqb x.0 z.0)) e (eqb_refl x.0)

full : (fast R16 16 α 65535).0 ≡ 1
unfolding fast digit gf16 gf_field gf_ring mul mul_n xt ◌⊕◌
full = refl

pub α_full : pow R16 α 65535 ≡ R16.𝟙
unfolding gf16 gf_field gf_ring
α_full = sym (fast_pow R16 16 α 65535 (lit< tt)) ∙ el_path full

miss3 : T (misses R16 is_one 2 (fast R16 16 α 21845) (fast R16 16 α 21845))
unfolding misses is_one fast digit gf16 gf_field gf_ring mul mul_n xt ◌⊕◌
miss3 = tt

miss5 : T (misses R16 is_one 4 (fast R16 16 α 13107) (fast R16 16 α 13107))
unfolding misses is_one fast digit gf16 gf_field gf_ring mul mul_n xt ◌⊕◌
miss5 = tt

miss17 : T (misses R16 is_one 16 (fast R16 16 α 3855) (fast R16 16 α 3855))
unfolding misses is_one fast digit gf16 gf_field gf_ring mul mul_n xt ◌⊕◌
miss17 = tt

miss257 : T (misses R16 is_one 256 (fast R16 16 α 255) (fast R16 16 α 255))
unfolding misses is_one fast digit gf16 gf_field gf_ring mul mul_n xt ◌⊕◌
miss257 = tt

part : (k q : ℕ) → q < 65536 → q * suc k ≡ 65535 → T (misses R16 is_one k (fast R16 16 α q) (fast R16 16 α q)) → (i : ℕ) → pow R16 α i ≡ R16.𝟙 → i % suc k ≡ 0
part k q h e t = order_part R16 is_one one_is α k q (ap (pow R16 α) e ∙ α_full) (fast R16 16 α q) (fast_pow R16 16 α q h) t

coprime : (i : ℕ) → i % 3 ≡ 0 → i % 5 ≡ 0 → i % 17 ≡ 0 → i % 257 ≡ 0 → i % 65535 ≡ 0
coprime i a b c d =
    let e : i ≡ 15 * (2 * (i / 5) - i / 3) = omega arith in
    let f : i ≡ 255 * (8 * (i / 17) - 7 * (2 * (i / 5) - i / 3)) = omega arith in
    let g : i ≡ 65535 * (128 * (i / 257) - 127 * (8 * (i / 17) - 7 * (2 * (i / 5) - i / 3))) = omega arith in
    omega arith

order16 : (i : ℕ) → 0 < i → i < 65535 → pow R16 α i ≢ R16.𝟙
order16 i h h' e =
    let q = coprime i (part 2 21845 (lit< tt) refl miss3 i e) (part 4 13107 (lit< tt) refl miss5 i e) (part 16 3855 (lit< tt) refl miss17 i e) (part 256 255 (lit< tt) refl miss257 i e) in
    omega arith

pub α_nz : (a : ℕ) → pow R16 α a ≢ R16.𝟘
α_nz = power_nz gf16 α 65535 (lit< tt) α_full

pub α_distinct : Distinct 65535 (pow R16 α)
α_distinct = power_distinct gf16 α 65535 α_full order16

-- the powers of a word's positions
pub α_apart : {n : ℕ} → n ≤ 65535 → Distinct n (pow R16 α)
α_apart l i j h h' = α_distinct i j h (omega arith)
