-- Whether a word leaves a check unsatisfied, and what holds of the check that a record names.
use Rattle.std.specs.Prelude.{◌≡◌, ℕ, ◌<◌, ℤ}
use Rattle.iteration.specs.Check.{Word}
use Rattle.iteration.specs.Iteration.{Code, degree, unsatisfied, unsatisfied_count}

-- whether the values L leave check c unsatisfied: 1, else 0
abbrev pub unmet_at : Code → (ℕ → ℤ) → ℕ → ℕ
unmet_at code L c = unsatisfied code.rows (code.row_start c) (degree code c) L

-- "one unsatisfied check (any; 0 if none)": what holds of the check that a record names, of p checks and the values x that were counted
pub record Names (code : Code) (p : ℕ) (x : Word) (check : ℕ) : Type 0 where
  pub some : 0 < unsatisfied_count code p x.L → (check < p) × (unmet_at code x.L check ≡ 1)
  pub none : unsatisfied_count code p x.L ≡ 0 → check ≡ 0
