-- The sums that the code keeps: for each residue l modulo q, whether each of the checks l + iq has an odd number of ones.
use Rattle.std.specs.Prelude.{◌≡◌, cond, List, [], ◌∷◌, ℕ, zero, suc, ◌+◌, ◌-◌, ◌*◌, ◌/◌, ◌%◌, ◌<◌, eqb, length, get_or}
use Rattle.std.specs.Int.Bits.{bit_xor}
use Rattle.ldpc_shape.specs.Shape.{rows_of}
use Rattle.ldpc_edges.specs.Code.{of_rows, only, ones}

unfoldable pub xors : List ℕ → List ℕ → List ℕ
xors [] ws = []
xors (x ∷ xs) [] = x ∷ xs
xors (x ∷ xs) (w ∷ ws) = bit_xor x w ∷ xors xs ws

-- what a row's bits w, turned by s, add at place i
unfoldable pub turned_bit : List ℕ → ℕ → ℕ → ℕ
turned_bit w s i = get_or w ((i + 374 - s) % 374) 0 % 2

-- what those addresses of a row that are l modulo q add
unfoldable pub row_bit : ℕ → ℕ → List ℕ → List ℕ → ℕ → ℕ
row_bit q l w [] i = 0
row_bit q l w (a ∷ row) i = cond (eqb (a % q) l) (turned_bit w (a / q % 374) i + row_bit q l w row i) (row_bit q l w row i)

-- how many of the information bits of check l + iq are 1
unfoldable pub info_bit : ℕ → ℕ → List ℕ → List ℕ → List ℕ → ℕ → ℕ
info_bit q l w lens addrs i = ones w (only (l + i * q) (of_rows (374 * q) q 0 (rows_of lens addrs)))

-- f i is added to each of 374 sums, modulo 2
pub record AddedToSums (x y : List ℕ) (f : ℕ → ℕ) : Type 0 where
  pub long : length y ≡ 374
  pub sum : (i : ℕ) → i < 374 → get_or y i 0 % 2 ≡ (get_or x i 0 + f i) % 2

-- the low bits of the first m sums x stand at l, l + q, and so on, and the rest is as it was
pub record Scattered (m q l : ℕ) (x out out' : List ℕ) : Type 0 where
  pub long : length out' ≡ length out
  pub put : (i : ℕ) → i < m → get_or out' (l + i * q) 0 ≡ get_or x i 0 % 2
  pub kept : (c : ℕ) → (c % q ≡ l → ⊥) → get_or out' c 0 ≡ get_or out c 0

-- how many of check c's parity bits are 1
unfoldable pub stair_bit : List ℕ → ℕ → ℕ
stair_bit p zero = get_or p 0 0 % 2
stair_bit p (suc c) = get_or p c 0 % 2 + get_or p (suc c) 0 % 2

-- 1 if check l + iq is odd
unfoldable pub unmet_at : ℕ → ℕ → List ℕ → List ℕ → ℕ → ℕ
unmet_at q l x p i = (get_or x i 0 + stair_bit p (l + i * q)) % 2
