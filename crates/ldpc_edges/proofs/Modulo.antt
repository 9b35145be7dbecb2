-- Addresses count modulo P only.
use Rattle.std.specs.Prelude.{◌≡◌, refl, List, [], ◌∷◌, ◌++◌, ℕ, zero, suc, ◌+◌, ◌*◌, ◌%◌, take, drop, replicate}
use Rattle.std.proofs.Common.{ap, ap₂, ◌∙◌}
use Rattle.std.proofs.Math.Nat.{mod-add-mod}
use Rattle.ldpc_shape.specs.Shape.{k_of, p_of, q_of, rows_of}
use Rattle.ldpc_edges.specs.Code.{Edge, edge, met, of_bits, of_rows, meets, only, stairs, check, flips, sums, parity}
use Rattle.ldpc_edges.specs.Modulo.{mods}

take_mods : (P l : ℕ) (addrs : List ℕ) → take l (mods P addrs) ≡ mods P (take l addrs)
unfolding mods
take_mods P zero addrs = refl
take_mods P (suc l) [] = refl
take_mods P (suc l) (a ∷ addrs) = ap (λ (z : List ℕ). a % P ∷ z) (take_mods P l addrs)

drop_mods : (P l : ℕ) (addrs : List ℕ) → drop l (mods P addrs) ≡ mods P (drop l addrs)
unfolding mods
drop_mods P zero addrs = refl
drop_mods P (suc l) [] = refl
drop_mods P (suc l) (a ∷ addrs) = drop_mods P l addrs

met_mods : (P q m j : ℕ) (row : List ℕ) → met P q m j (mods P row) ≡ met P q m j row
unfolding met mods
met_mods P q m j [] = refl
met_mods P q m j (a ∷ row) = ap₂ (λ (z : ℕ) (es : List Edge). edge z m ∷ es) (mod-add-mod a P (j * q)) (met_mods P q m j row)

bits_mods : (P q d m j : ℕ) (row : List ℕ) → of_bits P q d m j (mods P row) ≡ of_bits P q d m j row
unfolding of_bits
bits_mods P q zero m j row = refl
bits_mods P q (suc d) m j row = ap₂ (λ (xs ys : List Edge). xs ++ ys) (met_mods P q m j row) (bits_mods P q d (suc m) (suc j) row)

rows_mods : (P q m : ℕ) (lens addrs : List ℕ) → of_rows P q m (rows_of lens (mods P addrs)) ≡ of_rows P q m (rows_of lens addrs)
unfolding of_rows rows_of
rows_mods P q m [] addrs = refl
rows_mods P q m (l ∷ lens) addrs =
    ap₂ (λ (r s : List ℕ). of_bits P q 374 m 0 r ++ of_rows P q (m + 374) (rows_of lens s)) (take_mods P l addrs) (drop_mods P l addrs)
    ∙ ap₂ (λ (xs ys : List Edge). xs ++ ys) (bits_mods P q 374 m 0 (take l addrs)) (rows_mods P q (m + 374) lens (drop l addrs))

pub check_mods : (n : ℕ) (lens addrs : List ℕ) (c : ℕ) → check n lens (mods (p_of n lens) addrs) c ≡ check n lens addrs c
unfolding check meets
check_mods n lens addrs c = ap (λ (es : List Edge). only c es ++ stairs (k_of lens) c) (rows_mods (p_of n lens) (q_of n lens) 0 lens addrs)

pub parity_mods : (n : ℕ) (lens addrs w : List ℕ) → parity n lens (mods (p_of n lens) addrs) w ≡ parity n lens addrs w
unfolding parity meets
parity_mods n lens addrs w = ap (λ (es : List Edge). sums 0 (flips w es (replicate (p_of n lens) 0))) (rows_mods (p_of n lens) (q_of n lens) 0 lens addrs)
