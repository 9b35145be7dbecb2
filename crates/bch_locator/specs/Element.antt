-- The code's numbers as elements of GF(2^16), and its arrays as sequences of them.
use Rattle.std.specs.Prelude.{◌≡◌, refl, List, ℕ, ◌%◌, ◌<◌, get_or}
use Rattle.std.proofs.Common.{sym, ap, ap₂, ◌∙◌, subst, mod-lt, mod-eq_of_lt, lit<}
use Rattle.laws.specs.Xor.{⊕-mod}
use Rattle.laws.specs.Definitions.{◌⊕◌}
use Rattle.algebra.specs.Gf.{mul, El}
use Rattle.algebra.specs.GfLaws.{mul_lt, el_path}
use Rattle.algebra.specs.GfField.{gf_ring, gf_field}
use Rattle.gf16.specs.Field16.{gf16, R16, α}

-- a u16: digit i is the coefficient of α^i
unfoldable pub to_el : ℕ → El 15
to_el x = (x % 65536, mod-lt x (lit< tt))

-- an array: entry i, and zero past the end
unfoldable pub poly : List ℕ → ℕ → El 15
poly xs i = to_el (get_or xs i 0)

to_el_val : (x : ℕ) → x < 65536 → (to_el x).0 ≡ x
unfolding to_el
to_el_val x h = mod-eq_of_lt h

pub to_el_inj : (x y : ℕ) → x < 65536 → y < 65536 → to_el x ≡ to_el y → x ≡ y
to_el_inj x y hx hy e = sym (to_el_val x hx) ∙ ap (λ (z : El 15). z.0) e ∙ to_el_val y hy

pub to_el_mul : (a b r : ℕ) → a < 65536 → b < 65536 → r ≡ mul 15 0x100B a b → to_el r ≡ R16.◌⊠◌ (to_el a) (to_el b)
unfolding gf16 gf_field gf_ring
to_el_mul a b r ha hb e =
    let hr : r < 65536 = subst (λ (z : ℕ). z < 65536) (sym e) (mul_lt 15 0x100B (lit< tt) a b hb) in
    el_path (to_el_val r hr ∙ e ∙ ap₂ (mul 15 0x100B) (sym (to_el_val a ha)) (sym (to_el_val b hb)))

pub to_el_xor : (a b : ℕ) → to_el (a ⊕ b) ≡ R16.◌⊞◌ (to_el a) (to_el b)
unfolding to_el gf16 gf_field gf_ring
to_el_xor a b = el_path (⊕-mod a b 16)

pub to_el_zero : to_el 0 ≡ R16.𝟘
unfolding to_el gf16 gf_field gf_ring
to_el_zero = el_path refl

pub to_el_one : to_el 1 ≡ R16.𝟙
unfolding to_el gf16 gf_field gf_ring
to_el_one = el_path refl

pub to_el_two : to_el 2 ≡ α
unfolding to_el
to_el_two = el_path refl
