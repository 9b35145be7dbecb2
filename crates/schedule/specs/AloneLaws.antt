-- A word alone ends at the first number of iterations at which it is met, or at the limit (`ends_so`); and a word that has not passed its end
-- is at it exactly if it is met or has had the limit (`end_test`), which is what a lane tests.
use Rattle.std.specs.Prelude.{◌≡◌, ◌⊎◌, Bool}
use Rattle.std.proofs.Math.Bool.{true, false}
use Rattle.std.proofs.Common.{ℕ, ◌≤◌, ◌<◌}
use Rattle.schedule.specs.Alone.{after}

module _ {X : Type 0} (begin : X) (iterate : X → X) (met : X → Bool) where
  -- n is the first number of iterations at which the word is met, or the limit if that comes first
  pub record FirstMetOrLimit (limit n : ℕ) : Type 0 where
    pub within : n ≤ limit
    pub met_or_limit : (met (after begin iterate n) ≡ true) ⊎ (n ≡ limit)
    pub not_before : (i : ℕ) → i < n → met (after begin iterate i) ≡ false
