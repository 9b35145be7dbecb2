-- Lane i's word: its values are rows 0 to n − 1 of column i, its messages the E rows behind them. What a check makes of the lanes' words.
use Rattle.std.specs.Prelude.{◌≡◌, List, ℕ, ◌+◌, ◌≤◌, ◌<◌, get_or, length, ℤ}
use Rattle.iteration.specs.Check.{Word, check, within}
use Rattle.iteration.specs.Iteration.{unsatisfied}
use Rattle.lane16.specs.Column.{column}
use Rattle.iteration.specs.Lists.{var}

unfoldable pub word_of : ℕ → ℕ → (ℕ → ℤ) → Word
word_of n E f = record { L = within n f; r = within E (λ e. f (n + e)) }

abbrev pub word : ℕ → ℕ → ℕ → List ℤ → ℕ → Word
word n E lanes a i = word_of n E (column lanes a i)

-- THE COLUMN LAW of a check: every lane's word is checked as that word alone; t, old messages and all behind them are as they were.
pub record CheckNode (rows : List ℕ) (s d n lanes : ℕ) (o : ℤ) (a a' : List ℤ) : Type 0 where
  pub words : (i : ℕ) → i < lanes → word n (length rows) lanes a' i ≡ check o (var rows) s d (word n (length rows) lanes a i)
  pub rest : (i : ℕ) → i < lanes → (u : ℕ) → n + length rows ≤ u → column lanes a' i u ≡ column lanes a i u

-- Which of the sixteen lanes from at have the check unsatisfied.
pub record SignParity (rows : List ℕ) (s d lanes at : ℕ) (a : List ℤ) (b : List ℕ) : Type 0 where
  pub is : (k : ℕ) → k < 16 → get_or b k 0 ≡ unsatisfied (var rows) s d (column lanes a (at + k))
