-- Lists of edges: their parts, and where their checks and bits lie.
use Rattle.std.specs.Prelude.{◌≡◌, refl, Bool, true, false, cond, List, [], ◌∷◌, ◌++◌, ℕ, zero, suc, ◌+◌, ◌*◌, ◌≤◌, ◌<◌, eqb, length, drop}
use Rattle.std.proofs.Common.{ap, ◌∙◌, arith, mod-lt, eq-eqb, ne_eqb, length-append}
use Rattle.ldpc_shape.specs.Shape.{k_of, p_of, q_of, rows_of}
use Rattle.ldpc_edges.specs.Code.{Edge, edge, met, of_bits, of_rows, meets, only}
use Rattle.ldpc_edges.specs.Inside.{Inside}

pub inside_append : (P k : ℕ) (xs ys : List Edge) → Inside P k xs → Inside P k ys → Inside P k (xs ++ ys)
inside_append P k [] ys I J = J
inside_append P k (edge p m ∷ xs) ys I J = (I.0, I.1, inside_append P k xs ys I.2 J)

pub met_inside : (P q k m j : ℕ) (row : List ℕ) → 0 < P → m < k → Inside P k (met P q m j row)
unfolding met
met_inside P q k m j [] pos h = tt
met_inside P q k m j (a ∷ row) pos h = (mod-lt (a + j * q) pos, h, met_inside P q k m j row pos h)

pub bits_inside : (P q k d m j : ℕ) (row : List ℕ) → 0 < P → m + d ≤ k → Inside P k (of_bits P q d m j row)
unfolding of_bits
bits_inside P q k zero m j row pos h = tt
bits_inside P q k (suc d) m j row pos h =
    inside_append P k (met P q m j row) _ (met_inside P q k m j row pos (omega arith)) (bits_inside P q k d (suc m) (suc j) row pos (omega arith))

pub rows_inside : (P q k m : ℕ) (rows : List (List ℕ)) → 0 < P → m + 374 * length rows ≤ k → Inside P k (of_rows P q m rows)
unfolding of_rows
rows_inside P q k m [] pos h = tt
rows_inside P q k m (row ∷ rows) pos h =
    inside_append P k (of_bits P q 374 m 0 row) _ (bits_inside P q k 374 m 0 row pos (omega arith)) (rows_inside P q k (m + 374) rows pos (omega arith))

rows_count : (lens addrs : List ℕ) → length (rows_of lens addrs) ≡ length lens
unfolding rows_of
rows_count [] addrs = refl
rows_count (l ∷ lens) addrs = ap suc (rows_count lens (drop l addrs))

pub meets_inside : (n : ℕ) (lens addrs : List ℕ) → 0 < p_of n lens → Inside (p_of n lens) (k_of lens) (meets n lens addrs)
unfolding meets k_of
meets_inside n lens addrs pos = rows_inside (p_of n lens) (q_of n lens) _ 0 (rows_of lens addrs) pos (omega (arith, rows_count lens addrs))

pub only_append : (c : ℕ) (xs ys : List Edge) → only c (xs ++ ys) ≡ only c xs ++ only c ys
unfolding only
only_append c [] ys = refl
only_append c (edge p m ∷ xs) ys = go (eqb p c) (only_append c xs ys)
  where
    go : (b : Bool) → only c (xs ++ ys) ≡ only c xs ++ only c ys → cond b (m ∷ only c (xs ++ ys)) (only c (xs ++ ys)) ≡ cond b (m ∷ only c xs) (only c xs) ++ only c ys
    go true ih = ap (λ (z : List ℕ). m ∷ z) ih
    go false ih = ih

pub only_length : (c : ℕ) (xs ys : List Edge) → length (only c (xs ++ ys)) ≡ length (only c xs) + length (only c ys)
only_length c xs ys = ap length (only_append c xs ys) ∙ length-append (only c xs) (only c ys)

-- ---- one edge more: it is check c's, or it is not
pub only_hit : (p m c : ℕ) (es : List Edge) → p ≡ c → only c (edge p m ∷ es) ≡ m ∷ only c es
unfolding only
only_hit p m c es e = ap (λ b. cond b (m ∷ only c es) (only c es)) (eq-eqb p c e)

pub only_miss : (p m c : ℕ) (es : List Edge) → (p ≡ c → ⊥) → only c (edge p m ∷ es) ≡ only c es
unfolding only
only_miss p m c es e = ap (λ b. cond b (m ∷ only c es) (only c es)) (ne_eqb p c e)
