-- What the search for the shortest register gives: none of length at most 12, or it.
use Rattle.std.specs.Prelude.{List, ℕ, ◌≤◌, Option, Some, None, replicate}
use Rattle.bch_locator.specs.declared.Register.{Register}
use Rattle.bch_locator.specs.Register.{RegisterOf}

-- "Length over 12" has no register
abbrev pub ShortestOf : List ℕ → Option Register → Type 0
ShortestOf s None = RegisterOf s (replicate 13 0) 13
ShortestOf s (Some r) = RegisterOf s r.c r.len × (r.len ≤ 12)
