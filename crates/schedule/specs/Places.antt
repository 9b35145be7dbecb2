-- Each word of a run is in one place. In order: sums and the largest over an order; sums over words with their status (`weigh`); in a list with the
-- words of an order, each once, a word's status is what stands beside it (`only_found`, `sum_status`); the three parts of a state; facts of every
-- word from facts of lanes and log (`by_status`); where a word is, by its status (`case_at`, `in_one_place`).
use Rattle.std.proofs.Common.{List, [], ◌∷◌, ℕ, ◌+◌}
use Rattle.schedule.specs.Status.{Status, waiting, holding, done, spent}

module _ {X : Type 0} where
  -- ---- sums over words with their status
  unfoldable pub weigh : (ℕ → Status X → ℕ) → List (ℕ × Status X) → ℕ
  weigh f [] = 0
  weigh f (e ∷ es) = f e.0 e.1 + weigh f es

  abbrev pub All : (ℕ → Status X → Type 0) → List (ℕ × Status X) → Type 0
  All P [] = Unit {0}
  All P (e ∷ es) = P e.0 e.1 × All P es

  -- ---- the three parts of a state
  abbrev pub by_iterations : (ℕ → ℕ → ℕ) → ℕ → Status X → ℕ
  by_iterations f w st = f w (spent st)

  -- ---- facts of every word, from facts of the lanes and of the log
  abbrev pub ByStatus : (ℕ → X → ℕ → Type 0) → (ℕ → X → ℕ → Type 0) → ℕ → Status X → Type 0
  ByStatus H D w waiting = Unit {0}
  ByStatus H D w (holding x i) = H w x i
  ByStatus H D w (done x i) = D w x i
