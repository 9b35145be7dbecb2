-- min1 and min2 are the two smallest magnitudes of a check's edges, and are attained.
use Rattle.std.specs.Prelude.{◌≡◌, refl, Bool, true, false, cond, ℕ, zero, suc, ◌≤◌, ◌<◌, min, ltb, ℤ}
use Rattle.std.proofs.Common.{sym, ap, ◌∙◌, arith, ltb-false}
use Rattle.std.proofs.Math.Decide.{ℕ_discrete, dec_le}
use Rattle.laws.specs.Choice.{by_cond}
use Rattle.iteration.specs.Value.{magnitude}
use Rattle.iteration.specs.Check.{min1, min2, first}
use Rattle.iteration.specs.Smallest.{Second, TwoSmallest}
use Rattle.iteration.proofs.Least.{least}

first_below : (t : ℕ → ℤ) (n : ℕ) → first t (suc n) < suc n
unfolding first
first_below t zero = by_cond (λ (x : ℕ). x < 1) (ltb (magnitude (t 0)) (min1 t 0)) 0 0 (λ _. omega arith) (λ _. omega arith)
first_below t (suc n) =
    by_cond (λ (x : ℕ). x < suc (suc n)) (ltb (magnitude (t (suc n))) (min1 t (suc n))) (suc n) (first t (suc n)) (λ _. omega arith)
    (λ _. omega (arith, first_below t n))

first_has : (t : ℕ → ℤ) (n : ℕ) → magnitude (t (first t (suc n))) ≡ min1 t (suc n)
first_has t n = go (ℕ_discrete (magnitude (t (first t (suc n)))) (min1 t (suc n)))
  where
    go : Dec (magnitude (t (first t (suc n))) ≡ min1 t (suc n)) → magnitude (t (first t (suc n))) ≡ min1 t (suc n)
    go (yes e) = e
    go (no e) =
        let w = least t (suc n) in
        omega (arith, w.reached e, w.smallest (first t (suc n)) (first_below t n))

min2_none : (t : ℕ → ℤ) → min2 t 0 ≡ 127
unfolding min2
min2_none t = refl

min1_none : (t : ℕ → ℤ) → min1 t 0 ≡ 127
unfolding min1
min1_none t = refl

min2_single : (t : ℕ → ℤ) → min2 t 1 ≡ 127
unfolding min1 min2
min2_single t =
    by_cond (λ (x : ℕ). x ≡ 127) (ltb (magnitude (t 0)) 127) 127 (min 127 (magnitude (t 0))) (λ _. refl) (λ e. omega (arith, ltb-false (magnitude (t 0)) 127 e))

second_next : (t : ℕ → ℤ) (n : ℕ) → (1 < suc n → (e : ℕ) × Second t (suc n) e) → (b : Bool) → ltb (magnitude (t (suc n))) (min1 t (suc n)) ≡ b → (e : ℕ) × Second t (suc (suc n)) e
unfolding min2 first
second_next t n ih true s =
    let f : first t (suc (suc n)) ≡ suc n = ap (λ (b : Bool). cond b (suc n) (first t (suc n))) s in
    let m : min2 t (suc (suc n)) ≡ min1 t (suc n) = ap (λ (b : Bool). cond b (min1 t (suc n)) (min (min2 t (suc n)) (magnitude (t (suc n))))) s in (
      first t (suc n),
      record { edge = omega (arith, first_below t n); other = λ e. omega (arith, first_below t n, f); has = first_has t n ∙ sym m },
    )
second_next t n ih false s = go (dec_le (magnitude (t (suc n))) (min2 t (suc n)))
  where
    f : first t (suc (suc n)) ≡ first t (suc n)
    f = ap (λ (b : Bool). cond b (suc n) (first t (suc n))) s

    m : min2 t (suc (suc n)) ≡ min (min2 t (suc n)) (magnitude (t (suc n)))
    m = ap (λ (b : Bool). cond b (min1 t (suc n)) (min (min2 t (suc n)) (magnitude (t (suc n))))) s

    more : (min2 t (suc n) < magnitude (t (suc n))) → (k : ℕ) → n ≡ k → 1 < suc n
    more h zero e = absurd (omega (arith, ap (λ (i : ℕ). min2 t (suc i)) e, min2_single t))
    more h (suc k) e = omega arith

    go : Dec (magnitude (t (suc n)) ≤ min2 t (suc n)) → (e : ℕ) × Second t (suc (suc n)) e
    go (yes h) = (suc n, record { edge = omega arith; other = λ e. omega (arith, first_below t n, f); has = omega (arith, m) })
    go (no h) =
        let w = ih (more (omega arith) n refl) in
        (w.0, record { edge = omega (arith, w.1.edge); other = λ e. w.1.other (e ∙ f); has = w.1.has ∙ (omega (arith, m)) })

second_at : (t : ℕ → ℤ) (n : ℕ) → 1 < n → (e : ℕ) × Second t n e
second_at t zero h = absurd (omega arith)
second_at t (suc zero) h = absurd (omega arith)
second_at t (suc (suc n)) h = second_next t n (second_at t (suc n)) (ltb (magnitude (t (suc n))) (min1 t (suc n))) refl

pub two_smallest : (t : ℕ → ℤ) (n : ℕ) → TwoSmallest t n
two_smallest t n =
    record {
      least_of = (least t n).smallest;
      attained = at_least n;
      second_of = (least t n).second;
      second_attained = second_at t n;
      none = λ e. ap (min1 t) e ∙ min1_none t;
      single = one n;
    }
  where
    at_least : (n : ℕ) → 0 < n → (first t n < n) × (magnitude (t (first t n)) ≡ min1 t n)
    at_least zero h = absurd (omega arith)
    at_least (suc n) h = (first_below t n, first_has t n)

    one : (n : ℕ) → n ≤ 1 → min2 t n ≡ 127
    one zero h = min2_none t
    one (suc zero) h = min2_single t
    one (suc (suc n)) h = absurd (omega arith)
