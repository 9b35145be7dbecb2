-- The edges of a code, the lists of its checks, parity, encoded word and syndrome weight.
use Rattle.std.specs.Prelude.{cond, List, [], ◌∷◌, ◌++◌, ℕ, zero, suc, ◌+◌, ◌*◌, ◌%◌, eqb, length, get_or, set, replicate}
use Rattle.std.specs.Int.Bits.{bit_xor}
use Rattle.ldpc_shape.specs.Shape.{k_of, p_of, q_of, rows_of}

-- ---- the edges of the information bits, in the order of the bits
pub data Edge : Type 0 where
  -- a check and a bit that it covers
  edge : ℕ → ℕ → Edge

-- "Information bit 374g + j meets check (a + jq) mod P for each address a of row g": the edges of bit m, the j-th of its row
unfoldable pub met : ℕ → ℕ → ℕ → ℕ → List ℕ → List Edge
met P q m j [] = []
met P q m j (a ∷ row) = edge ((a + j * q) % P) m ∷ met P q m j row

-- those of d bits of a row, from bit m, the j-th
unfoldable pub of_bits : ℕ → ℕ → ℕ → ℕ → ℕ → List ℕ → List Edge
of_bits P q zero m j row = []
of_bits P q (suc d) m j row = met P q m j row ++ of_bits P q d (suc m) (suc j) row

-- those of whole rows, from bit m
unfoldable pub of_rows : ℕ → ℕ → ℕ → List (List ℕ) → List Edge
of_rows P q m [] = []
of_rows P q m (row ∷ rows) = of_bits P q 374 m 0 row ++ of_rows P q (m + 374) rows

unfoldable pub meets : ℕ → List ℕ → List ℕ → List Edge
meets n lens addrs = of_rows (p_of n lens) (q_of n lens) 0 (rows_of lens addrs)

-- ---- the checks
-- the bits of check c, in the order of the edges
unfoldable pub only : ℕ → List Edge → List ℕ
only c [] = []
only c (edge p m ∷ es) = cond (eqb p c) (m ∷ only c es) (only c es)

-- "then k + c - 1 (absent for c = 0), then k + c"
unfoldable pub stairs : ℕ → ℕ → List ℕ
stairs k zero = k ∷ []
stairs k (suc c) = (k + c) ∷ (k + suc c) ∷ []

-- "Check c lists its information bits ascending", then its parity bits
unfoldable pub check : ℕ → List ℕ → List ℕ → ℕ → List ℕ
check n lens addrs c = only c (meets n lens addrs) ++ stairs (k_of lens) c

-- ---- the lists of all checks
-- where the list of check c begins
unfoldable pub start_of : ℕ → List ℕ → List ℕ → ℕ → ℕ
start_of n lens addrs zero = 0
start_of n lens addrs (suc c) = start_of n lens addrs c + length (check n lens addrs c)

-- where those of d checks begin, from check c
unfoldable pub starts : ℕ → List ℕ → List ℕ → ℕ → ℕ → List ℕ
starts n lens addrs c zero = []
starts n lens addrs c (suc d) = start_of n lens addrs c ∷ starts n lens addrs (suc c) d

-- the lists of d checks one after the other, from check c
unfoldable pub joined : ℕ → List ℕ → List ℕ → ℕ → ℕ → List ℕ
joined n lens addrs c zero = []
joined n lens addrs c (suc d) = check n lens addrs c ++ joined n lens addrs (suc c) d

-- `row_start`: P + 1 numbers, the last one E
unfoldable pub row_start : ℕ → List ℕ → List ℕ → List ℕ
row_start n lens addrs = starts n lens addrs 0 (suc (p_of n lens))

-- `rows`: the E bits
unfoldable pub rows : ℕ → List ℕ → List ℕ → List ℕ
rows n lens addrs = joined n lens addrs 0 (p_of n lens)

-- what is laid out in one lent slice
unfoldable pub edge_lists : ℕ → List ℕ → List ℕ → List ℕ
edge_lists n lens addrs = row_start n lens addrs ++ rows n lens addrs

-- ---- parity
unfoldable pub flip : List ℕ → ℕ → List ℕ
flip x c = set x c (bit_xor (get_or x c 0) 1)

-- "flip each met check for every information byte whose low bit is 1"
unfoldable pub flips : List ℕ → List Edge → List ℕ → List ℕ
flips w [] x = x
flips w (edge p m ∷ es) x = flips w es (cond (eqb (get_or w m 0 % 2) 1) (flip x p) x)

-- "then xor each parity bit with the one before"; b is the one before
unfoldable pub sums : ℕ → List ℕ → List ℕ
sums b [] = []
sums b (x ∷ xs) = bit_xor b x ∷ sums (bit_xor b x) xs

unfoldable pub parity : ℕ → List ℕ → List ℕ → List ℕ → List ℕ
parity n lens addrs w = sums 0 (flips w (meets n lens addrs) (replicate (p_of n lens) 0))

-- "`encode` copies the information bytes whole"
unfoldable pub encode : ℕ → List ℕ → List ℕ → List ℕ → List ℕ
encode n lens addrs w = w ++ parity n lens addrs w

-- ---- syndrome
-- how many of the bits vs of the word w are 1; "only the low bit of a byte counts as its bit"
unfoldable pub ones : List ℕ → List ℕ → ℕ
ones w [] = 0
ones w (v ∷ vs) = get_or w v 0 % 2 + ones w vs

-- 1 if the word w leaves check c unsatisfied, else 0
unfoldable pub unmet : ℕ → List ℕ → List ℕ → List ℕ → ℕ → ℕ
unmet n lens addrs w c = ones w (check n lens addrs c) % 2

-- how many of the first m checks the word w leaves unsatisfied
unfoldable pub unmets : ℕ → List ℕ → List ℕ → List ℕ → ℕ → ℕ
unmets n lens addrs w zero = 0
unmets n lens addrs w (suc c) = unmet n lens addrs w c + unmets n lens addrs w c

-- the number of unsatisfied checks
unfoldable pub weight : ℕ → List ℕ → List ℕ → List ℕ → ℕ
weight n lens addrs w = unmets n lens addrs w (p_of n lens)
