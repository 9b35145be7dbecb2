-- Where the checks and bits of a list of edges lie. What follows of it: proofs/Inside.
use Rattle.std.specs.Prelude.{List, [], ◌∷◌, ℕ, ◌<◌}
use Rattle.ldpc_edges.specs.Code.{Edge, edge}

-- every check is below P and every bit below k
abbrev pub Inside : ℕ → ℕ → List Edge → Type 0
Inside P k [] = Unit {0}
Inside P k (edge p m ∷ es) = (p < P) × (m < k) × Inside P k es
