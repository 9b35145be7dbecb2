-- The counts of the addresses modulo q, as the code keeps them.
use Rattle.std.specs.Prelude.{◌≡◌, List, ℕ, ◌≤◌, ◌<◌, get_or}
use Rattle.ldpc_shape.specs.Shape.{count_mod}

-- r has, for each l below q, how many of the addresses are l modulo q
abbrev pub CountsBelow : List ℕ → ℕ → List ℕ → Type 0
CountsBelow r q addrs = (l : ℕ) → l < q → get_or r l 0 ≡ count_mod q l addrs

-- and zeros from q on
pub record CountsOf (r : List ℕ) (q : ℕ) (addrs : List ℕ) : Type 0 where
  pub below : CountsBelow r q addrs
  pub behind : (l : ℕ) → q ≤ l → get_or r l 0 ≡ 0
