-- A column's word and scratch rows.
use Rattle.std.specs.Prelude.{ℕ, ◌+◌, ◌*◌, ℤ, List}
use Rattle.iteration.specs.Check.{within}
use Rattle.simd.specs.Words.{word_of}
use Rattle.lane16.specs.Column.{column}
use Rattle.iteration.specs.Full.{Full}

abbrev pub full_of : ℕ → ℕ → (ℕ → ℤ) → Full
full_of n E f = record { word = word_of n E f; t = within E (λ e. f (n + E + e)); old = within E (λ e. f (n + 2 * E + e)) }

abbrev pub full : ℕ → ℕ → ℕ → List ℤ → ℕ → Full
full n E lanes a i = full_of n E (column lanes a i)
