-- Lanes times powers of two are elements times powers of α. Assumes nothing.
use Rattle.std.proofs.Common.{◌≡◌, sym, ap, ap₂, ◌∙◌, List, ℕ, zero, suc, ◌+◌, ◌-◌, ◌*◌, ◌^◌, ◌≤◌, ◌<◌, pow-suc, mul_assoc, arith, T, eqb, eqb→eq, get_or, length}
use Rattle.std.proofs.Math.Decide.{dec_lt}
use Rattle.std.specs.Int.Bits.{xor_shifted}
use Rattle.std.proofs.Math.ListN.{get_or-eq_default}
use Rattle.laws.specs.Definitions.{◌⊕◌}
use Rattle.laws.specs.Tests.{below, below_at}
use Rattle.algebra.specs.Ring.{Ring}
use Rattle.algebra.specs.Series.{pow, ev}
use Rattle.algebra.specs.Values.{ev_add, ev_double, ev_more}
use Rattle.gf16.specs.Field16.{R16, α}
use Rattle.bch_locator.specs.Element.{to_el, to_el_zero, poly}
use Rattle.bch_locator.specs.Lanes.{Lanes, Products, PowersOf}
use Rattle.bch_locator.proofs.AtAlpha.{ev_itself}

pub powers_by : (p : List ℕ) (e : ℕ → ℕ) → length p ≡ 16 → ((i : ℕ) → i < 12 → e i ≤ 12) → T (below 12 (λ i. eqb (get_or p i 0) (2 ^ e i)))
    → T (below 4 (λ i. eqb (get_or p (12 + i) 0) 0)) → PowersOf p e
powers_by p e len low t z = record { at = λ i h. eqb→eq _ _ (below_at 12 _ t i h); low = low; rest = λ i h. pick i h (dec_lt i 16) }
  where
    pick : (i : ℕ) → 12 ≤ i → Dec (i < 16) → get_or p i 0 ≡ 0
    pick i h (yes g) =
        let k : i ≡ 12 + (i - 12) = omega arith in
        ap (λ (m : ℕ). get_or p m 0) k ∙ eqb→eq _ _ (below_at 4 _ z (i - 12) (omega arith))
    pick i h (no g) = get_or-eq_default p 0 {n = i} (omega (arith, len))

ev_up : {F : Type 0} (R : Ring F) (k e w : ℕ) (z : F) → ev R (k + e) (w * 2 ^ e) z ≡ R.◌⊠◌ (pow R z e) (ev R k w z)
unfolding pow
ev_up R k zero w z = same
  where
    same : ev R (k + 0) (w * 1) z ≡ R.◌⊠◌ R.𝟙 (ev R k w z)
    same = let a : k + 0 ≡ k = omega arith in let b : w * 1 ≡ w = omega arith in
        ap₂ (λ (m n : ℕ). ev R m n z) a b ∙ sym (R.⊠-comm R.𝟙 _ ∙ R.⊠-one _)
ev_up R k (suc e) w z =
    let a : k + suc e ≡ suc (k + e) = omega arith in
    ap₂ (λ (m n : ℕ). ev R m n z) a (ap (λ (n : ℕ). w * n) (pow-suc 2 e) ∙ sym (mul_assoc w (2 ^ e) 2)) ∙ ev_double R (k + e) (w * 2 ^ e) z
    ∙ ap (R.◌⊠◌ z) (ev_up R k e w z) ∙ sym (R.⊠-assoc z (pow R z e) _)

pub raised : (t e : ℕ) → t < 65536 → e ≤ 12 → ev R16 32 (t * 2 ^ e) α ≡ R16.◌⊠◌ (pow R16 α e) (to_el t)
raised t e h g =
    let a : 32 ≡ 32 - e + e = omega arith in
    ap (λ (k : ℕ). ev R16 k (t * 2 ^ e) α) a ∙ ev_up R16 (32 - e) e t α ∙ ap (R16.◌⊠◌ (pow R16 α e)) (ev_more R16 16 (32 - e) t α h (omega arith) ∙ ev_itself t h)

pub lanes_raised : (r t p : List ℕ) (e : ℕ → ℕ) → Lanes t → PowersOf p e → Products r t p → (i : ℕ) → i < 12 → poly r i ≡ R16.◌⊠◌ (pow R16 α (e i)) (poly t i)
unfolding poly
lanes_raised r t p e L P Q i h =
    Q.at i (omega arith) ∙ ap (λ (z : ℕ). ev R16 32 (get_or t i 0 * z) α) (P.at i h) ∙ raised (get_or t i 0) (e i) (L.fit i) (P.low i h)

pub lanes_past : (t : List ℕ) (i : ℕ) → Lanes t → 16 ≤ i → poly t i ≡ R16.𝟘
unfolding poly
lanes_past t i L h = ap to_el (get_or-eq_default t 0 {n = i} (omega (arith, L.len))) ∙ to_el_zero

-- a number of k low digits b, with a above
pub ev_join : {F : Type 0} (R : Ring F) (j k a b : ℕ) (z : F) → b < 2 ^ k → ev R (j + k) (a * 2 ^ k + b) z ≡ R.◌⊞◌ (R.◌⊠◌ (pow R z k) (ev R j a z)) (ev R k b z)
unfolding ◌⊕◌
ev_join R j k a b z h =
    ap (λ (n : ℕ). ev R (j + k) n z) (sym (xor_shifted a k b h)) ∙ ev_add R (j + k) (a * 2 ^ k) b z
    ∙ ap₂ R.◌⊞◌ (ev_up R j k a z) (ev_more R k (j + k) b z h (omega arith))
