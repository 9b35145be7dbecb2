-- All edges of a code: those of the information bits, then the stairs; and where a check's list begins among them (`start`). That they are E, and
-- that each lies at one check: proofs/Count.
use Rattle.std.specs.Prelude.{List, [], ◌∷◌, ◌++◌, ℕ, zero, suc, ◌+◌, length}
use Rattle.ldpc_shape.specs.Shape.{k_of, p_of}
use Rattle.ldpc_edges.specs.Code.{Edge, edge, meets, only, stairs}

-- how many of the edges lie at checks below c
unfoldable pub start : List Edge → ℕ → ℕ
start es zero = 0
start es (suc c) = start es c + length (only c es)

-- check c's edges to the bits vs
unfoldable pub to_bits : ℕ → List ℕ → List Edge
to_bits c [] = []
to_bits c (v ∷ vs) = edge c v ∷ to_bits c vs

-- the stairs of d checks from check c
unfoldable pub to_stairs : ℕ → ℕ → ℕ → List Edge
to_stairs k c zero = []
to_stairs k c (suc d) = to_bits c (stairs k c) ++ to_stairs k (suc c) d

unfoldable pub all_edges : ℕ → List ℕ → List ℕ → List Edge
all_edges n lens addrs = meets n lens addrs ++ to_stairs (k_of lens) 0 (p_of n lens)
