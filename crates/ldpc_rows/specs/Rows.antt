-- The rows of a table, each with its first information bit: what is left of `Rows`, and what a caller sees of a `Row`.
use Rattle.std.specs.Prelude.{List, [], ◌∷◌, ℕ, ◌+◌, ◌≤◌}
use Rattle.ldpc_shape.specs.Shape.{rows_of}
use Rattle.ldpc_rows.specs.declared.Row.{Row}
use Rattle.ldpc_rows.specs.declared.Rows.{Rows}

-- "Information bit 374g + j" is the j-th of row g: the rows with their first bits, from bit m
unfoldable pub numbered : ℕ → List (List ℕ) → List (ℕ × List ℕ)
numbered m [] = []
numbered m (row ∷ rows) = (m, row) ∷ numbered (m + 374) rows

-- a row's first bit and its addresses
abbrev pub seen : Row → ℕ × List ℕ
seen r = (r.first, r.addrs.now)

-- the rows that are left
abbrev pub left : Rows → List (ℕ × List ℕ)
left s = numbered s.first (rows_of s.lens.now s.addrs.now)

-- each row's bits lie below n
abbrev pub BitsBelow : ℕ → List (ℕ × List ℕ) → Type 0
BitsBelow n [] = Unit {0}
BitsBelow n (r ∷ rs) = (r.0 + 374 ≤ n) × BitsBelow n rs
