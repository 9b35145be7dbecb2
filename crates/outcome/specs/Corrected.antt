-- The BCH part of a word: of which part it is said what its correction inside the word gives (proofs/Corrected.antt).
use Rattle.std.specs.Prelude.{List, ℕ, ◌+◌, ◌≤◌, length}
use Rattle.decoder_plan.specs.declared.Part.{Part}

-- a part of an accepted length, inside the word
pub record PartInside (part : Part) (b : List ℕ) : Type 0 where
  pub inside : part.first + part.length ≤ length b
  pub least : 193 ≤ part.length
  pub most : part.length ≤ 65535
