-- The checks of a run: which they are, that their edges stand in order, and whether a variable has several among them.
use Rattle.std.specs.Prelude.{◌≡◌, Bool, false, List, ℕ, ◌+◌, ◌*◌, ◌/◌, ◌≤◌, ◌<◌, get_or}
use Rattle.iteration.specs.Iteration.{Code, degree}

-- check x of those that begin at check `first`, q apart
abbrev pub stepped : ℕ → ℕ → ℕ → ℕ
stepped first q x = first + x * q

-- The checks in ascending order: their edges do not overlap, and all lie among the code's E; their variables are below n.
pub record Order (code : Code) (c : ℕ → ℕ) (m E n : ℕ) : Type 0 where
  pub next : (j x : ℕ) → j < x → x < m → code.row_start (c j) + degree code (c j) ≤ code.row_start (c x)
  pub last : (x : ℕ) → x < m → code.row_start (c x) + degree code (c x) ≤ E
  pub below : (x k : ℕ) → x < m → k < degree code (c x) → code.rows (code.row_start (c x) + k) < n

-- variable u has one edge at most among the run's m checks
pub record Once (code : Code) (c : ℕ → ℕ) (m u : ℕ) : Type 0 where
  pub one : (x k y l : ℕ) → x < m → y < m → k < degree code (c x) → l < degree code (c y)
      → code.rows (code.row_start (c x) + k) ≡ u → code.rows (code.row_start (c y) + l) ≡ u → (x ≡ y) × (k ≡ l)

-- whether variable v's row of 374 is flagged: its variables can have several edges in a run of checks
abbrev pub shared_in : List Bool → ℕ → Bool
shared_in flags v = get_or flags (v / 374) false
