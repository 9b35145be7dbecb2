-- What says that min1 and min2 are the two smallest magnitudes, and that min1's edge reached it: proved in proofs/Least.
use Rattle.std.specs.Prelude.{◌≡◌, ℕ, ◌≤◌, ◌<◌, ℤ}
use Rattle.iteration.specs.Value.{magnitude}
use Rattle.iteration.specs.Check.{min1, min2, first}

pub record Least (t : ℕ → ℤ) (n : ℕ) : Type 0 where
  pub ordered : min1 t n ≤ min2 t n
  pub bounded : min2 t n ≤ 127
  pub smallest : (e : ℕ) → e < n → min1 t n ≤ magnitude (t e)
  pub reached : (magnitude (t (first t n)) ≡ min1 t n → ⊥) → min1 t n ≡ 127
  pub second : (e : ℕ) → e < n → (e ≡ first t n → ⊥) → min2 t n ≤ magnitude (t e)
