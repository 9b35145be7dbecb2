-- The figures of a window, worked out afresh from its records: "the number lost, the sums of iterations and of corrected bits, over the last w records or
-- all if there are fewer". "The window counts doubtful words as well."
use Rattle.std.specs.Prelude.{◌≡◌, ℕ, ◌-◌, cond, List, [], ◌∷◌, length, drop}
use Rattle.schedule.specs.Status.{sum}
use Rattle.outcome.specs.Outcome.{is_finished, is_lost, lost_of, doubtful_of}
use Rattle.window.specs.declared.Record.{Record}
use Rattle.window.specs.declared.Window.{Window}

-- "An unfinished record is passed over": the finished ones of a series, in its order
unfoldable pub finished_in : List Record → List Record
finished_in [] = []
finished_in (r ∷ rs) = cond (is_finished r.state) (r ∷ finished_in rs) (finished_in rs)

-- "the last w records or all if there are fewer"
unfoldable pub last_of : ℕ → List Record → List Record
last_of w rs = drop (length rs - w) rs

-- ---- what a record adds to each figure
unfoldable pub lost_by : Record → ℕ
lost_by r = lost_of r.state r.bch

unfoldable pub iterations_by : Record → ℕ
iterations_by r = r.iterations

-- "A lost word adds 0 corrected bits."
unfoldable pub corrected_by : Record → ℕ
corrected_by r = cond (is_lost r.bch) 0 r.bch

unfoldable pub doubtful_by : Record → ℕ
doubtful_by r = doubtful_of r.state r.bch

-- "each figure equals one worked out afresh from those records": of a window of width w over the finished records rs
pub record Shows (w : ℕ) (rs : List Record) (W : Window) : Type 0 where
  pub words : W.words ≡ length (last_of w rs)
  pub lost : W.lost ≡ sum lost_by (last_of w rs)
  pub iterations : W.iterations ≡ sum iterations_by (last_of w rs)
  pub corrected : W.corrected ≡ sum corrected_by (last_of w rs)
  pub doubtful : W.doubtful ≡ sum doubtful_by (last_of w rs)
