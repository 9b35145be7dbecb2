-- Refilling as code does it: one word at a time, into the lowest empty lane. What the arrays stand for changes as `refill` says. In order: one
-- word into a list of lanes; the same of arrays and memory, from a start (`Filling`) to an end (`Refilled`); the same with columns that are loaded
-- later, in one pass (`Assigning`, `Assigned`).
use Rattle.std.specs.Prelude.{◌≡◌, Bool, eqb, length, get_or}
use Rattle.std.proofs.Math.Bool.{cond}
use Rattle.std.proofs.Common.{List, ℕ, ◌-◌, ◌≤◌}
use Rattle.schedule.specs.Run.{Lane, Left, Stock, Turn, each, fill}
use Rattle.schedule.specs.Lanes.{Setup, rows, any_held, Kept, stock, Stands, Sized}

-- ---- arrays, columns and memory on the way
module _ {X M : Type 0} (R : Setup X M) where
  abbrev F : Lane X → Stock X → Turn X
  F = fill R.words

  -- what refilling leaves
  pub record Refilled (held₀ iters₀ : List ℕ) (col₀ : ℕ → X) (next₀ : ℕ) (memory₀ : ℕ → M) (held' iters : List ℕ) (col : ℕ → X) (next : ℕ) (busy : Bool) (memory : ℕ → M) : Type 0 where
    pub in_order : next ≤ length R.order
    pub sized : Sized held₀ iters₀ → Sized held' iters
    pub after_refill : (log : List (Left X)) → Kept R log memory₀ → Stands R (each F (rows R.lanes held₀ iters₀ col₀) (stock R next₀ log)) held' iters col next memory
    pub busy_is : busy ≡ any_held held' R.lanes

  -- refilling from here leaves what it leaves from there
  pub record Filling (held₀ iters₀ : List ℕ) (col₀ : ℕ → X) (next₀ : ℕ) (memory₀ : ℕ → M) (held' iters : List ℕ) (col : ℕ → X) (next : ℕ) (memory : ℕ → M) : Type 0 where
    pub later : next₀ ≤ next
    pub in_order : next ≤ length R.order
    pub held_fit : length held' ≡ length held₀
    pub iters_fit : length iters ≡ length iters₀
    pub same : (log₀ : List (Left X)) → Kept R log₀ memory₀
        → (log : List (Left X)) × Kept R log memory × (each F (rows R.lanes held' iters col) (stock R next log) ≡ each F (rows R.lanes held₀ iters₀ col₀) (stock R next₀ log₀))

  -- ---- columns loaded later, all in one pass: a held lane with 0 iterations has just been filled
  unfoldable pub fresh : List ℕ → List ℕ → (ℕ → X) → ℕ → X
  fresh held' iters col l = cond (eqb (get_or iters l 0) 0) (R.words.begin (get_or held' l 0 - 1)) (col l)

  -- what refilling leaves while columns wait
  pub record Assigned (held₀ iters₀ : List ℕ) (next₀ : ℕ) (memory₀ : ℕ → M) (held' iters : List ℕ) (next : ℕ) (busy : Bool) (memory : ℕ → M) : Type 0 where
    pub refilled : (col : ℕ → X) → Refilled held₀ iters₀ (fresh held₀ iters₀ col) next₀ memory₀ held' iters (fresh held' iters col) next busy memory

  pub record Assigning (held₀ iters₀ : List ℕ) (next₀ : ℕ) (memory₀ : ℕ → M) (held' iters : List ℕ) (next : ℕ) (memory : ℕ → M) : Type 0 where
    pub later : next₀ ≤ next
    pub in_order : next ≤ length R.order
    pub held_fit : length held' ≡ length held₀
    pub iters_fit : length iters ≡ length iters₀
    pub filling : (col : ℕ → X) → Filling held₀ iters₀ (fresh held₀ iters₀ col) next₀ memory₀ held' iters (fresh held' iters col) next memory
