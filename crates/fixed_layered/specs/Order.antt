-- Where the t and the old messages of a run's checks stand one after the other: within E, and each stays.
use Rattle.std.proofs.Common.{◌≡◌, ℤ, sym, ◌∙◌, ℕ, zero, suc, ◌+◌, ◌-◌, ◌≤◌, ◌<◌, arith}
use Rattle.std.proofs.Math.Path.{ap, subst}
use Rattle.std.proofs.Math.Decide.{ℕ_discrete}
use Rattle.iteration.specs.Check.{wrote}
use Rattle.iteration.specs.Iteration.{Code, degree}
use Rattle.iteration.specs.CheckLaws.{wrote_other, wrote_at}
use Rattle.iteration.specs.Once.{Order}
use Rattle.iteration.specs.Full.{place_of, laid_out}

module _ {code : Code} {c : ℕ → ℕ} {m E n : ℕ} (o : Order code c m E n) where
  -- a check's place is not behind its first edge
  place_start : (x : ℕ) → x < m → place_of code c x ≤ code.row_start (c x)
  unfolding place_of
  place_start zero h = omega arith
  place_start (suc x) h = omega (arith, place_start x (omega arith), o.next x (suc x) (omega arith) h)

  pub place_ends : (x : ℕ) → x < m → place_of code c x + degree code (c x) ≤ E
  place_ends x h = omega (arith, place_start x h, o.last x h)

  places_rise : (x d : ℕ) → place_of code c (suc x) ≤ place_of code c (suc (x + d))
  unfolding place_of
  places_rise x zero = let e : x + 0 ≡ x = omega arith in omega (arith, ap (λ (z : ℕ). place_of code c z + degree code (c z)) e)
  places_rise x (suc d) =
      let e : suc (x + d) ≡ x + suc d = omega arith in
      omega (arith, places_rise x d, ap (λ (z : ℕ). place_of code c z + degree code (c z)) e)

module _ {code : Code} {c : ℕ → ℕ} {m E n : ℕ} (o : Order code c m E n) where
  -- what edge k of check x was laid out with stays
  pub laid_at : (v : ℕ → ℕ → ℤ) (f : ℕ → ℤ) (i : ℕ) → i ≤ m → (x k : ℕ) → x < i → k < degree code (c x) → laid_out code c v f i (place_of code c x + k) ≡ v x k
  unfolding laid_out place_of
  laid_at v f zero h x k q l = absurd (omega (arith, q))
  laid_at v f (suc i) h x k q l = go (ℕ_discrete x i) (λ (g : x < i). laid_at v f i (omega arith) x k g l)
    where
      go : Dec (x ≡ i) → (x < i → laid_out code c v f i (place_of code c x + k) ≡ v x k)
          → wrote (λ k. place_of code c i + k) (v i) (laid_out code c v f i) (degree code (c i)) (place_of code c x + k) ≡ v x k
      go (yes e) ih =
          subst (λ (y : ℕ). wrote (λ k. place_of code c i + k) (v i) (laid_out code c v f i) (degree code (c i)) (place_of code c y + k) ≡ v y k) (sym e)
          (wrote_at (place_of code c i) (v i) (laid_out code c v f i) (degree code (c i)) k (subst (λ (y : ℕ). k < degree code (c y)) e l))
      go (no e) ih =
          let g : x < i = omega arith in
          let z : suc (x + (i - suc x)) ≡ i = omega arith in
          wrote_other (λ k. place_of code c i + k) (v i) (laid_out code c v f i) (degree code (c i)) (place_of code c x + k)
          (λ j r y. omega (arith, places_rise o x (i - suc x), ap (place_of code c) z))
          ∙ ih g
