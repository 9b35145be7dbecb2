-- A round as code does it: an iteration in every column, then lane by lane one iteration more and the test. What the arrays stand for
-- changes as `round` says. In order: lanes of which some have had their turn (`mixed`); what a round leaves (`Advanced`) and its second half
-- (`Retired`); the second half lane by lane (`Leaving`): an empty lane, a word that stays, a word that leaves, the end.
use Rattle.std.specs.Prelude.{◌≡◌, ltb}
use Rattle.std.proofs.Math.Bool.{cond}
use Rattle.std.proofs.Common.{List, map, ℕ, suc, ◌≤◌}
use Rattle.std.proofs.Math.ListN.{get_or}
use Rattle.schedule.specs.Run.{Lane, Left, Stock, Turn, each, iterated, leave}
use Rattle.schedule.specs.Lanes.{Setup, lane_of, table, row, rows, from, Kept, Sized}

module _ {X : Type 0} where
  -- lanes below l have had their turn, the others still have their iteration to count
  abbrev pub mixed : ℕ → List ℕ → List ℕ → (ℕ → X) → ℕ → Lane X
  mixed l held iters col k = cond (ltb k l) (row held iters col k) (lane_of (get_or held k 0) (col k) (suc (get_or iters k 0)))

module _ {X M : Type 0} (R : Setup X M) where
  abbrev A : Lane X → Stock X → Turn X
  A = leave R.words

  -- what a round leaves, from columns col₀ before it to columns col
  pub record Advanced (held₀ iters₀ : List ℕ) (col₀ : ℕ → X) (memory₀ : ℕ → M) (held iters : List ℕ) (col : ℕ → X) (memory : ℕ → M) : Type 0 where
    pub sized : Sized held iters
    pub after_round : (queue : List ℕ) (log : List (Left X)) → Kept R log memory₀
        → (log' : List (Left X)) × Kept R log' memory
        × (each A (map (iterated R.words) (rows R.lanes held₀ iters₀ col₀)) (record { queue = queue; log = log }) ≡ (rows R.lanes held iters col, record { queue = queue; log = log' }))

  -- the second half of it, over columns that have had their iteration
  pub record Retired (held₀ iters₀ : List ℕ) (memory₀ : ℕ → M) (held iters : List ℕ) (col : ℕ → X) (memory : ℕ → M) : Type 0 where
    pub sized : Sized held iters
    pub after_turns : (queue : List ℕ) (log : List (Left X)) → Kept R log memory₀
        → (log' : List (Left X)) × Kept R log' memory
        × (each A (table (mixed 0 held₀ iters₀ col) 0 R.lanes) (record { queue = queue; log = log }) ≡ (rows R.lanes held iters col, record { queue = queue; log = log' }))

  -- lanes below l have had their turn
  pub record Leaving (held₀ iters₀ : List ℕ) (memory₀ : ℕ → M) (l : ℕ) (held iters : List ℕ) (col : ℕ → X) (memory : ℕ → M) : Type 0 where
    pub sized : Sized held iters
    pub untouched : (k : ℕ) → l ≤ k → (get_or held k 0 ≡ get_or held₀ k 0) × (get_or iters k 0 ≡ get_or iters₀ k 0)
    pub same : (queue : List ℕ) (log₀ : List (Left X)) → Kept R log₀ memory₀
        → (log : List (Left X)) × Kept R log memory
        × (each A (table (mixed 0 held₀ iters₀ col) 0 R.lanes) (record { queue = queue; log = log₀ })
        ≡ from A l (table (mixed l held iters col) 0 R.lanes) (record { queue = queue; log = log }))
