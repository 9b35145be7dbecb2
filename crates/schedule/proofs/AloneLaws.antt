-- A word alone ends at the first number of iterations at which it is met, or at the limit (`ends_so`); and a word that has not passed its end
-- is at it exactly if it is met or has had the limit (`end_test`), which is what a lane tests.
use Rattle.std.specs.Prelude.{◌≡◌, ◌⊎◌, Bool, ◌||◌}
use Rattle.std.proofs.Math.Path.{refl, sym, ap, subst}
use Rattle.std.proofs.Common.{◌∙◌, not-suc-le-zero, zero-add, ℕ, zero, suc, ◌+◌, ◌≤◌, ◌<◌, arith, eq-eqb, ne_eqb}
use Rattle.std.proofs.Math.Logic.{inl, inr}
use Rattle.std.proofs.Math.Bool.{true, false, cond}
use Rattle.std.proofs.Math.Decide.{ℕ_discrete}
use Rattle.std.proofs.Math.Dec.{eqb}
use Rattle.laws.specs.Choice.{by_cond, by_bool}
use Rattle.schedule.specs.Alone.{after, ends_from, ends}
use Rattle.schedule.specs.AloneLaws.{FirstMetOrLimit}

module _ {X : Type 0} (begin : X) (iterate : X → X) (met : X → Bool) where
  first_le : (i left : ℕ) → i ≤ ends_from begin iterate met i left
  unfolding ends_from
  first_le i zero = omega arith
  first_le i (suc left) = by_cond (λ n. i ≤ n) (met (after begin iterate i)) i _ (λ _. omega arith) (λ _. omega (arith, first_le (suc i) left))

  ends_right : (i left : ℕ) → ((j : ℕ) → j < i → met (after begin iterate j) ≡ false) → FirstMetOrLimit begin iterate met (i + left) (ends_from begin iterate met i left)
  unfolding ends_from
  ends_right i zero h = record { within = omega arith; met_or_limit = let e : i ≡ i + 0 = omega arith in inr e; not_before = h }
  ends_right i (suc left) h = at (met (after begin iterate i)) refl (ends_right (suc i) left)
    where
      at : (b : Bool) → met (after begin iterate i) ≡ b
          → (((j : ℕ) → j < suc i → met (after begin iterate j) ≡ false) → FirstMetOrLimit begin iterate met (suc i + left) (ends_from begin iterate met (suc i) left))
          → FirstMetOrLimit begin iterate met (i + suc left) (cond b i (ends_from begin iterate met (suc i) left))
      at true e r = record { within = omega arith; met_or_limit = inl e; not_before = h }
      at false e r =
          let y = r (λ j l. earlier j l (ℕ_discrete j i)) in
          record { within = omega (arith, y.within); met_or_limit = later y.met_or_limit; not_before = y.not_before }
        where
          earlier : (j : ℕ) → j < suc i → Dec (j ≡ i) → met (after begin iterate j) ≡ false
          earlier j l (yes d) = ap (λ j. met (after begin iterate j)) d ∙ e
          earlier j l (no n) = h j (omega arith)

          later : {n : ℕ} {P : Type 0} → P ⊎ (n ≡ suc i + left) → P ⊎ (n ≡ i + suc left)
          later (inl p) = inl p
          later (inr q) = let s : suc i + left ≡ i + suc left = omega arith in inr (q ∙ s)

  pub ends_so : (limit : ℕ) → FirstMetOrLimit begin iterate met limit (ends begin iterate met limit)
  unfolding ends
  ends_so limit = subst (λ n. FirstMetOrLimit begin iterate met n (ends_from begin iterate met 0 limit)) (zero-add limit) (ends_right 0 limit (λ j l. absurd (not-suc-le-zero l)))

  -- ---- a word that has not passed its end is at it exactly if it is met now or has had the limit
  first_test : (i left j : ℕ) → i ≤ j → j ≤ ends_from begin iterate met i left → (met (after begin iterate j) || eqb j (i + left)) ≡ eqb (ends_from begin iterate met i left) j
  unfolding ends_from
  first_test i zero j h k =
      let e : i ≡ j = omega arith in
      let f : j ≡ i + 0 = omega arith in
      ap (λ b. met (after begin iterate j) || b) (eq-eqb j (i + 0) f) ∙ by_bool (λ b. (b || true) ≡ true) (met (after begin iterate j)) (λ _. refl) (λ _. refl) ∙ sym (eq-eqb i j e)
  first_test i (suc left) j h k = at (met (after begin iterate i)) refl (ℕ_discrete i j) k (first_test (suc i) left j)
    where
      at : (b : Bool) → met (after begin iterate i) ≡ b → Dec (i ≡ j) → j ≤ cond b i (ends_from begin iterate met (suc i) left)
          → (suc i ≤ j → j ≤ ends_from begin iterate met (suc i) left → (met (after begin iterate j) || eqb j (suc i + left)) ≡ eqb (ends_from begin iterate met (suc i) left) j)
          → (met (after begin iterate j) || eqb j (i + suc left)) ≡ eqb (cond b i (ends_from begin iterate met (suc i) left)) j
      at true e (yes d) k f = ap (λ b. b || eqb j (i + suc left)) (sym (ap (λ i. met (after begin iterate i)) d) ∙ e) ∙ sym (eq-eqb i j d)
      at true e (no n) k f = absurd (omega arith)
      at false e (yes d) k f =
          let o : j ≡ i + suc left → ⊥ = λ z. omega arith in
          let l : ends_from begin iterate met (suc i) left ≡ j → ⊥ = λ z. omega (arith, first_le (suc i) left) in
          ap (λ b. b || eqb j (i + suc left)) (sym (ap (λ i. met (after begin iterate i)) d) ∙ e) ∙ ne_eqb j (i + suc left) o ∙ sym (ne_eqb (ends_from begin iterate met (suc i) left) j l)
      at false e (no n) k f =
          let s : suc i + left ≡ i + suc left = omega arith in
          ap (λ m. met (after begin iterate j) || eqb j m) (sym s) ∙ f (omega arith) k

  pub end_test : (limit i : ℕ) → i ≤ ends begin iterate met limit → (met (after begin iterate i) || eqb i limit) ≡ eqb (ends begin iterate met limit) i
  unfolding ends
  end_test limit i h =
      let e : limit ≡ 0 + limit = omega arith in
      ap (λ m. met (after begin iterate i) || eqb i m) e ∙ first_test 0 limit i (omega arith) h
