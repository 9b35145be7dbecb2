-- One slice of lists: row_start (p + 1 numbers), then rows. The code that they say.
use Rattle.std.specs.Prelude.{List, ℕ, ◌+◌, ◌≤◌, ◌<◌, get_or, length, take, drop}
use Rattle.iteration.specs.Iteration.{Code}

-- the variable of edge e
abbrev pub var : List ℕ → ℕ → ℕ
var rows e = get_or rows e 0

abbrev pub rows_in : ℕ → List ℕ → List ℕ
rows_in p lists = drop (p + 1) lists

abbrev pub edges_in : ℕ → List ℕ → ℕ
edges_in p lists = length (rows_in p lists)

abbrev pub code_in : ℕ → List ℕ → Code
code_in p lists = record { rows = var (rows_in p lists); row_start = λ c. get_or (take (p + 1) lists) c 0 }

-- What a call may count on: p starts that ascend and a last one, degrees of at most 128, variables below n. A code has 747 edges or more.
pub record Lists (n p : ℕ) (lists : List ℕ) : Type 0 where
  pub long : p < length lists
  pub ascend : (c : ℕ) → c < p → get_or lists c 0 ≤ get_or lists (c + 1) 0
  pub short : (c : ℕ) → c < p → get_or lists (c + 1) 0 ≤ get_or lists c 0 + 128
  pub within : (c : ℕ) → c ≤ p → get_or lists c 0 ≤ edges_in p lists
  pub variables : (e : ℕ) → e < edges_in p lists → var (rows_in p lists) e < n
  pub many : 16 ≤ edges_in p lists
