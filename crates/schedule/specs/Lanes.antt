-- How arrays and columns of memory stand for the run's lanes, queue and log, and how code that goes from lane to lane meets `each`. In order: the
-- parts of such a run (`Setup`); lanes as rows of arrays; the turns from lane l on (`from`); how many lanes are held, and whether any is; memory
-- that keeps the log (`Kept`); all of them together (`Stands`).
use Rattle.std.specs.Prelude.{◌≡◌, Bool, not, ◌||◌, length, get_or, take, drop}
use Rattle.std.proofs.Math.Bool.{false}
use Rattle.std.proofs.Common.{List, [], ◌∷◌, ◌++◌, ℕ, zero, suc}
use Rattle.std.proofs.Math.Dec.{eqb}
use Rattle.schedule.specs.Run.{Words, Lane, empty, holds, Left, Stock, Turn, each, held}
use Rattle.schedule.specs.Status.{Status, waiting, holding, done, log_words, seek}

-- a run over real memory: the words, their order of loading, the lanes; and what memory of some kind M says of word w:
-- before the run touches it, if it is held at the end with values x after i iterations, and once it has left with values x after i iterations
pub record Setup (X M : Type 0) : Type 0 where
  pub words : Words X
  pub order : List ℕ
  pub lanes : ℕ
  pub before : ℕ → M
  pub during : ℕ → X → ℕ → M
  pub after : ℕ → X → ℕ → M

module _ {X : Type 0} where
  -- a lane is a number, a column and a number: the word held and one, or 0 for none; its values; its iterations
  unfoldable pub lane_of : ℕ → X → ℕ → Lane X
  lane_of zero x i = empty
  lane_of (suc w) x i = holds w x i

  unfoldable pub table : (ℕ → Lane X) → ℕ → ℕ → List (Lane X)
  table f a zero = []
  table f a (suc k) = f a ∷ table f (suc a) k

  abbrev pub row : List ℕ → List ℕ → (ℕ → X) → ℕ → Lane X
  row held iters col l = lane_of (get_or held l 0) (col l) (get_or iters l 0)

  -- the lanes that arrays `held` and `iters` and columns `col` stand for
  unfoldable pub rows : ℕ → List ℕ → List ℕ → (ℕ → X) → List (Lane X)
  rows lanes held iters col = table (row held iters col) 0 lanes

  -- ---- the turns from lane l on
  unfoldable pub from : (Lane X → Stock X → Turn X) → ℕ → List (Lane X) → Stock X → List (Lane X) × Stock X
  from turn l ls s = let (ls', s') = each turn (drop l ls) s in (take l ls ++ ls', s')

-- whether f holds of one of the first k
unfoldable pub any_of : (ℕ → Bool) → ℕ → Bool
any_of f zero = false
any_of f (suc k) = any_of f k || f k

-- whether lane l is held, and whether one below l is
abbrev pub held_at : List ℕ → ℕ → Bool
held_at held l = not (eqb (get_or held l 0) 0)

abbrev pub any_held : List ℕ → ℕ → Bool
any_held held l = any_of (held_at held) l

-- ---- memory that keeps the log
module _ {X M : Type 0} (R : Setup X M) where
  unfoldable pub kept : ℕ → Status X → M
  kept v waiting = R.before v
  kept v (holding x i) = R.before v
  kept v (done x i) = R.after v x i

  -- memory says of each word whether and how it has left
  abbrev pub Kept : List (Left X) → (ℕ → M) → Type 0
  Kept log memory = (v : ℕ) → memory v ≡ kept v (seek v (log_words log))

  abbrev pub stock : ℕ → List (Left X) → Stock X
  stock next log = record { queue = drop next R.order; log = log }

  -- arrays, columns and memory that stand for lanes and stock
  pub record Stands (t : List (Lane X) × Stock X) (held iters : List ℕ) (col : ℕ → X) (next : ℕ) (memory : ℕ → M) : Type 0 where
    pub lanes_are : rows R.lanes held iters col ≡ t.0
    pub queue_is : drop next R.order ≡ t.1.queue
    pub log_is : Kept t.1.log memory

pub record Sized (held iters : List ℕ) : Type 0 where
  pub held_fit : length held ≡ 64
  pub iters_fit : length iters ≡ 64
