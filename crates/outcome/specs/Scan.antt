-- The checks gone through one after the other: the verdict, the count and the named check.
use Rattle.std.proofs.Common.{◌≡◌, true, false, eqb, sym, ◌∙◌, ℕ, zero, suc, ◌+◌, ◌-◌, ◌≤◌, ◌<◌, arith, eqb-true, eq-eqb, ne_eqb}
use Rattle.std.proofs.Math.Path.{refl, ap}
use borrow.Author.Tests.{eqb-false}
use Rattle.iteration.specs.Check.{Word}
use Rattle.iteration.specs.Iteration.{Code, unsatisfied_count}
use Rattle.iteration.specs.CountLaws.{unmet_le, unmet_step, unmet_few, counted_again, UnmetCounted}
use Rattle.iteration.specs.Count.{unmet_at}
use Rattle.outcome.specs.Outcome.{unmet_of, met_of}

module _ (code : Code) (x : Word) where
  unmet_more : (p d : ℕ) → unmet_of code p x ≤ unmet_of code (p + d) x
  unfolding unmet_of unsatisfied_count
  unmet_more p zero = let e : p ≡ p + 0 = omega arith in omega (arith, ap (λ (z : ℕ). unsatisfied_count code z x.L) e)
  unmet_more p (suc d) =
      let e : p + suc d ≡ suc (p + d) = omega arith in
      omega (arith, unmet_more p d, ap (λ (z : ℕ). unsatisfied_count code z x.L) e)

  step : (c u : ℕ) → unmet_at code x.L c ≡ u → unmet_of code (c + 1) x ≡ unmet_of code c x + u
  unfolding unmet_of
  step c u e = unmet_step code x c u e

  -- ---- the verdict: no check before c is unsatisfied
  pub met_start : unmet_of code 0 x ≡ 0
  unfolding unmet_of unsatisfied_count
  met_start = refl

  clear : (c : ℕ) → eqb (unmet_at code x.L c) 1 ≡ false → unmet_at code x.L c ≡ 0
  clear c e = let n = eqb-false (unmet_at code x.L c) 1 e in omega (arith, n, unmet_le code x c)

  pub met_again : (c : ℕ) → eqb (unmet_at code x.L c) 1 ≡ false → unmet_of code c x ≡ 0 → unmet_of code (c + 1) x ≡ 0
  met_again c e h = let s = step c 0 (clear c e) in omega arith

  pub met_end : (c p : ℕ) → c ≡ p → unmet_of code c x ≡ 0 → met_of code p x ≡ true
  unfolding met_of
  met_end c p e h = eq-eqb (unmet_of code p x) 0 (ap (λ (z : ℕ). unmet_of code z x) (sym e) ∙ h)

  -- check c is unsatisfied
  pub met_not : (c p : ℕ) → c < p → eqb (unmet_at code x.L c) 1 ≡ true → met_of code p x ≡ false
  unfolding met_of
  met_not c p h e =
      ne_eqb (unmet_of code p x) 0
      (λ z. let d : c + 1 + (p - (c + 1)) ≡ p = omega arith in
      omega (arith, z, step c 1 (eqb-true (unmet_at code x.L c) 1 e), unmet_more (c + 1) (p - (c + 1)), ap (λ (z : ℕ). unmet_of code z x) d))

  -- ---- the count and the named check, of the checks before c
  pub counted_more : {c count check : ℕ} (count' check' : ℕ) → eqb (unmet_at code x.L c) 1 ≡ true → UnmetCounted code c x count check
      → count' ≡ count + 1 → check' ≡ c → UnmetCounted code (c + 1) x count' check'
  counted_more {c} {count} {check} count' check' e k f g = counted_again code x 1 count' check' k (sym (eqb-true (unmet_at code x.L c) 1 e)) f g

  pub counted_same : {c count check : ℕ} (count' check' : ℕ) → eqb (unmet_at code x.L c) 1 ≡ false → UnmetCounted code c x count check
      → count' ≡ count → check' ≡ check → UnmetCounted code (c + 1) x count' check'
  counted_same {c} {count} {check} count' check' e k f g =
      let z : count' ≡ count + 0 = omega arith in
      counted_again code x 0 count' check' k (sym (clear c e)) z g

  pub counted_le : {c count check : ℕ} → UnmetCounted code c x count check → count ≤ c
  counted_le {c} {count} {check} k = omega (arith, k.all, unmet_few code x c)
