-- A word alone (the scope, "A word alone"): made from the values that it starts with, the iteration and the iteration limit. Lanes, rounds and
-- other words cannot occur here.
use Rattle.std.specs.Prelude.{Bool, cond, ℕ, zero, suc}

-- "A word alone starts with its soft values as L, every message 0 and 0 iterations": its values after i iterations
unfoldable pub after : {X : Type 0} → X → (X → X) → ℕ → X
after begin iterate zero = begin
after begin iterate (suc i) = iterate (after begin iterate i)

module _ {X : Type 0} (begin : X) (iterate : X → X) (met : X → Bool) where
  -- the iterations at its end, of a word that has had i and may have `left` more: "It ends as soon as its hard decisions meet every check
  -- or the iteration limit is reached; until then it gets one iteration more"
  unfoldable pub ends_from : ℕ → ℕ → ℕ
  ends_from i zero = i
  ends_from i (suc left) = cond (met (after begin iterate i)) i (ends_from (suc i) left)

  unfoldable pub ends : ℕ → ℕ
  ends iteration_limit = ends_from 0 iteration_limit
