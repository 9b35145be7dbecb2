-- The loop of `inverse`: the product so far, and what is left of the power, are the inverse. Assumes nothing.
use Rattle.std.proofs.Common.{◌≡◌, sym, ap, ap₂, ◌∙◌, ℕ, suc, ◌+◌, ◌-◌, ◌≤◌, ◌<◌, arith}
use Rattle.algebra.specs.RingLaws.{ones_power, one-⊠}
use Rattle.algebra.specs.GfField.{gf_field}
use Rattle.algebra.specs.Gf.{El}
use Rattle.gf16.specs.Field16.{gf16, R16}
use Rattle.bch_locator.specs.Element.{to_el, to_el_one}

pub inverse_start : (a x : ℕ) → to_el x ≡ R16.◌⊠◌ (to_el a) (to_el a) → R16.◌⊠◌ (to_el 1) (ones_power R16 15 (to_el x)) ≡ gf16.inv (to_el a)
unfolding gf16 gf_field
inverse_start a x e = ap (λ z. R16.◌⊠◌ z (ones_power R16 15 (to_el x))) to_el_one ∙ one-⊠ R16 _ ∙ ap (ones_power R16 15) e

pub inverse_again : (r x i r' x' : ℕ) (t : El 15) → i < 15 → R16.◌⊠◌ (to_el r) (ones_power R16 (15 - i) (to_el x)) ≡ t
    → to_el r' ≡ R16.◌⊠◌ (to_el r) (to_el x) → to_el x' ≡ R16.◌⊠◌ (to_el x) (to_el x) → R16.◌⊠◌ (to_el r') (ones_power R16 (15 - (i + 1)) (to_el x')) ≡ t
unfolding ones_power
inverse_again r x i r' x' t h inv er ex =
    let k : 15 - i ≡ suc (15 - (i + 1)) = omega arith in
    ap₂ (λ y z. R16.◌⊠◌ y (ones_power R16 (15 - (i + 1)) z)) er ex ∙ R16.⊠-assoc (to_el r) (to_el x) _
    ∙ ap (λ (z : ℕ). R16.◌⊠◌ (to_el r) (ones_power R16 z (to_el x))) (sym k) ∙ inv

pub inverse_end : (r x i : ℕ) (t : El 15) → 15 ≤ i → R16.◌⊠◌ (to_el r) (ones_power R16 (15 - i) (to_el x)) ≡ t → to_el r ≡ t
unfolding ones_power
inverse_end r x i t h inv =
    let k : 15 - i ≡ 0 = omega arith in
    sym (R16.⊠-one (to_el r)) ∙ ap (λ (z : ℕ). R16.◌⊠◌ (to_el r) (ones_power R16 z (to_el x))) (sym k) ∙ inv
