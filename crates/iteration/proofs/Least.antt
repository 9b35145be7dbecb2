-- min1 and min2 are the two smallest magnitudes, and min1's edge reached it.
use Rattle.std.specs.Prelude.{◌≡◌, refl, Bool, true, false, cond, ℕ, zero, suc, ◌≤◌, ◌<◌, min, max, ltb, ℤ}
use Rattle.std.proofs.Common.{sym, ap, ◌∙◌, arith, ltb-true, ltb-false}
use Rattle.laws.specs.Choice.{by_cond}
use Rattle.iteration.specs.Value.{magnitude}
use Rattle.iteration.specs.Check.{min1, min2, first}
use Rattle.iteration.specs.CheckLaws.{last_or}
use Rattle.iteration.specs.Least.{Least}

step : (t : ℕ → ℤ) (n : ℕ) → Least t n → (b : Bool) → ltb (magnitude (t n)) (min1 t n) ≡ b → Least t (suc n)
unfolding min1 min2 first
step t n v true s =
    let h : magnitude (t n) < min1 t n = ltb-true _ _ s in
    let f : first t (suc n) ≡ n = ap (λ (b : Bool). cond b n (first t n)) s in
    let m : min2 t (suc n) ≡ min1 t n = ap (λ (b : Bool). cond b (min1 t n) (min (min2 t n) (magnitude (t n)))) s in
    record {
      ordered = omega (arith, m);
      bounded = omega (arith, m, v.ordered, v.bounded);
      smallest = last_or {P = λ e. min (min1 t n) (magnitude (t n)) ≤ magnitude (t e)} n (λ e q. omega (arith, v.smallest e q)) (omega arith);
      reached = λ no. absurd (no (ap (λ (e : ℕ). magnitude (t e)) f ∙ (omega arith)));
      second = last_or {P = λ e. (e ≡ first t (suc n) → ⊥) → min2 t (suc n) ≤ magnitude (t e)} n (λ e q no. omega (arith, m, v.smallest e q)) (λ no. absurd (no (sym f)));
    }
step t n v false s =
    let h : min1 t n ≤ magnitude (t n) = ltb-false _ _ s in
    let f : first t (suc n) ≡ first t n = ap (λ (b : Bool). cond b n (first t n)) s in
    let k : min2 t (suc n) ≡ min (min2 t n) (magnitude (t n)) = ap (λ (b : Bool). cond b (min1 t n) (min (min2 t n) (magnitude (t n)))) s in
    let m : min (min1 t n) (magnitude (t n)) ≡ min1 t n = omega arith in
    record {
      ordered = omega (arith, k, v.ordered);
      bounded = omega (arith, k, v.ordered, v.bounded);
      smallest = last_or {P = λ e. min (min1 t n) (magnitude (t n)) ≤ magnitude (t e)} n (λ e q. omega (arith, v.smallest e q)) (omega arith);
      reached = λ no. m ∙ v.reached (λ e. no (ap (λ (e : ℕ). magnitude (t e)) f ∙ e ∙ sym m));
      second = last_or {P = λ e. (e ≡ first t (suc n) → ⊥) → min2 t (suc n) ≤ magnitude (t e)} n (λ e q no. omega (arith, k, v.second e q (λ x. no (x ∙ sym f)))) (λ no. omega (arith, k));
    }

pub least : (t : ℕ → ℤ) (n : ℕ) → Least t n
unfolding min1 min2 first
least t zero =
    record {
      ordered = omega arith;
      bounded = omega arith;
      smallest = λ e q. absurd (omega (arith, q));
      reached = λ no. refl;
      second = λ e q no. absurd (omega (arith, q));
    }
least t (suc n) = step t n (least t n) (ltb (magnitude (t n)) (min1 t n)) refl

pub min1_small : (t : ℕ → ℤ) (n : ℕ) → min1 t n ≤ 127
min1_small t n = omega (arith, (least t n).ordered, (least t n).bounded)

pub min2_small : (t : ℕ → ℤ) (n : ℕ) → min2 t n ≤ 127
min2_small t n = (least t n).bounded

-- min2 without a choice
pub min2_step : (t : ℕ → ℤ) (n : ℕ) → max (min1 t n) (min (min2 t n) (magnitude (t n))) ≡ min2 t (suc n)
unfolding min1 min2
min2_step t n =
    by_cond (λ (m : ℕ). max (min1 t n) (min (min2 t n) (magnitude (t n))) ≡ m) (ltb (magnitude (t n)) (min1 t n)) (min1 t n) (min (min2 t n) (magnitude (t n)))
    (λ s. omega (arith, (least t n).ordered, ltb-true (magnitude (t n)) (min1 t n) s)) (λ s. omega (arith, (least t n).ordered, ltb-false (magnitude (t n)) (min1 t n) s))
