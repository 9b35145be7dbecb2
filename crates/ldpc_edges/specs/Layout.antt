-- The layout of the lists in one slice, for its readers: check c's bits are `rows` from row_start[c] to row_start[c + 1]. That a slice whose front is
-- the code's lists has it: proofs/Lists.
use Rattle.std.specs.Prelude.{◌≡◌, List, ℕ, suc, ◌+◌, ◌-◌, ◌≤◌, ◌<◌, length, take, drop, get_or}
use Rattle.ldpc_shape.specs.Shape.{p_of, e_of}
use Rattle.ldpc_edges.specs.Code.{check, start_of}

-- what a slice holds whose front is the code's lists
pub record Laid (n : ℕ) (lens addrs xs : List ℕ) : Type 0 where
  -- row_start[c], for c up to P
  pub start : (c : ℕ) → c ≤ p_of n lens → get_or xs c 0 ≡ start_of n lens addrs c
  -- row_start[P] is E
  pub last : get_or xs (p_of n lens) 0 ≡ e_of n lens addrs
  -- row_start[c + 1] is row_start[c] and the list's length
  pub next : (c : ℕ) → c < p_of n lens → get_or xs (c + 1) 0 ≡ get_or xs c 0 + length (check n lens addrs c)
  -- the list of check c, in `rows`
  pub part : (c : ℕ) → c < p_of n lens → take (get_or xs (c + 1) 0 - get_or xs c 0) (drop (get_or xs c 0) (drop (suc (p_of n lens)) xs)) ≡ check n lens addrs c
  pub within : (c : ℕ) → c ≤ p_of n lens → get_or xs c 0 ≤ e_of n lens addrs
  -- every degree is at most 128, every bit below n
  pub short : (c : ℕ) → c < p_of n lens → length (check n lens addrs c) ≤ 128
  pub below : (c i : ℕ) → c < p_of n lens → i < length (check n lens addrs c) → get_or (check n lens addrs c) i 0 < n
