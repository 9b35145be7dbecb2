-- What says that min1 and min2 are the two smallest magnitudes of a check's edges, and are attained: proved in proofs/Smallest.
use Rattle.std.specs.Prelude.{◌≡◌, ℕ, ◌≤◌, ◌<◌, ℤ}
use Rattle.iteration.specs.Value.{magnitude}
use Rattle.iteration.specs.Check.{min1, min2, first}

-- an edge that is not min1's has min2's magnitude
pub record Second (t : ℕ → ℤ) (n e : ℕ) : Type 0 where
  pub edge : e < n
  pub other : e ≡ first t n → ⊥
  pub has : magnitude (t e) ≡ min2 t n

pub record TwoSmallest (t : ℕ → ℤ) (n : ℕ) : Type 0 where
  -- no edge has a smaller magnitude than min1, and min1's edge has it;
  pub least_of : (e : ℕ) → e < n → min1 t n ≤ magnitude (t e)
  pub attained : 0 < n → (first t n < n) × (magnitude (t (first t n)) ≡ min1 t n)
  -- no other edge has a smaller one than min2, and one has it, if there are two.
  pub second_of : (e : ℕ) → e < n → (e ≡ first t n → ⊥) → min2 t n ≤ magnitude (t e)
  pub second_attained : 1 < n → (e : ℕ) × Second t n e
  -- Of fewer they are 127.
  pub none : n ≡ 0 → min1 t n ≡ 127
  pub single : n ≤ 1 → min2 t n ≡ 127
