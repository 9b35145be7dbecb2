-- The layered iteration over lists and table.
use Rattle.std.specs.Prelude.{◌≡◌, List, ℕ, ◌+◌, ◌*◌, ◌≤◌, ◌<◌, ℤ}
use Rattle.iteration.specs.Iteration.{layered}
use Rattle.lane16.specs.Column.{column}
use Rattle.simd.specs.Words.{word}
use Rattle.iteration.specs.Lists.{edges_in, code_in}

-- THE COLUMN LAW: every lane's word is iterated as that word alone, over the code that the lists say. What the rows of t and of old messages hold is left to
-- the program; all behind the n + 3E rows is as it was.
pub record Layered (n p q lanes : ℕ) (o : ℤ) (s : ℕ) (lists : List ℕ) (a a' : List ℤ) : Type 0 where
  pub words : (i : ℕ) → i < lanes → word n (edges_in p lists) lanes a' i ≡ layered o (code_in p lists) q s (word n (edges_in p lists) lanes a i)
  pub rest : (i : ℕ) → i < lanes → (u : ℕ) → n + 3 * edges_in p lists ≤ u → column lanes a' i u ≡ column lanes a i u
