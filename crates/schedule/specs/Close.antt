-- After the last round: the words still held are written, lane by lane. Then memory says of each word what its status says (`memory_of`), and
-- demand 3 speaks of memory. In order: finding a word among others; `Closing` from the first lane to the last; the run's own lanes and log.
use Rattle.std.specs.Prelude.{◌≡◌, take}
use Rattle.std.proofs.Common.{List, ◌++◌, ℕ, ◌≤◌}
use Rattle.schedule.specs.Run.{Lane, Left}
use Rattle.schedule.specs.Status.{Status, waiting, holding, done, lane_words, log_words, seek}
use Rattle.schedule.specs.WholeRun.{times}
use Rattle.schedule.specs.Lanes.{Setup, rows}

module _ {X M : Type 0} (R : Setup X M) where
  -- what memory says of word v at the end, by its status
  unfoldable pub memory_of : ℕ → Status X → M
  memory_of v waiting = R.before v
  memory_of v (holding x i) = R.during v x i
  memory_of v (done x i) = R.after v x i

  module _ (held' iters : List ℕ) (col : ℕ → X) (log : List (Left X)) where
    abbrev ls : List (Lane X)
    ls = rows R.lanes held' iters col

    abbrev seen : ℕ → List (ℕ × Status X)
    seen l = lane_words (take l ls) ++ log_words log

    -- the words of the lanes below l have been written
    pub record Closing (l : ℕ) (memory : ℕ → M) : Type 0 where
      pub each_once : (w : ℕ) → times w (lane_words ls) ≤ 1
      pub memory_so : (v : ℕ) → memory v ≡ memory_of v (seek v (seen l))
