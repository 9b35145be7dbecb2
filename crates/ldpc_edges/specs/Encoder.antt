-- Lists of bits. That encoding meets every check, and no other parity does: proofs/Encoder.
use Rattle.std.specs.Prelude.{List, ℕ, ◌<◌, get_or}

-- ---- every number is a bit
abbrev pub Bits : List ℕ → Type 0
Bits x = (c : ℕ) → get_or x c 0 < 2
