-- Interleaved memory: row u of lane i is at u * lanes + i. Column i is one word's rows.
use Rattle.std.specs.Prelude.{◌≡◌, List, ℕ, ◌+◌, ◌*◌, ◌<◌, get_or, ℤ, pos}
use Rattle.laws.specs.Definitions.{put}
use Rattle.lane16.specs.Lanes.{int_at}

unfoldable pub column : ℕ → List ℤ → ℕ → ℕ → ℤ
column lanes xs i u = get_or xs (u * lanes + i) (pos 0)

-- lane i is none of the w lanes from at
abbrev pub Off : ℕ → ℕ → ℕ → Type 0
Off at w i = (k : ℕ) → k < w → i ≡ at + k → ⊥

-- the w lanes from at of row u were written, and nothing else
pub record Stored (w lanes u at : ℕ) (x old new : List ℤ) : Type 0 where
  pub inside : (k : ℕ) → k < w → column lanes new (at + k) ≡ put (column lanes old (at + k)) u (int_at x k)
  pub outside : (i : ℕ) → i < lanes → Off at w i → column lanes new i ≡ column lanes old i

-- the columns of the w lanes from at are mapped by F, and the others are as they were
pub record Part (F : (ℕ → ℤ) → ℕ → ℤ) (w lanes at : ℕ) (old new : List ℤ) : Type 0 where
  pub inside : (k : ℕ) → k < w → column lanes new (at + k) ≡ F (column lanes old (at + k))
  pub outside : (i : ℕ) → i < lanes → Off at w i → column lanes new i ≡ column lanes old i
