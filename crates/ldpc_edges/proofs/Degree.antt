-- The order and the degree law: check c lists its information bits ascending, and has one edge for each address equal to c modulo q, plus 2 (plus 1 for c = 0). It has at most 128.
use Rattle.std.specs.Prelude.{◌≡◌, refl, Bool, true, false, cond, List, [], ◌∷◌, ℕ, zero, suc, ◌+◌, ◌*◌, ◌%◌, ◌≤◌, ◌<◌, eqb, take, drop}
use Rattle.std.proofs.Common.{sym, ◌∙◌, subst, arith, mod-lt, ne_eqb, length-drop}
use Rattle.std.proofs.Math.Path.{ap, ap₂}
use Rattle.std.proofs.Math.ListN.{length, length-append}
use Rattle.ldpc_shape.specs.Shape.{k_of, p_of, q_of, rows_of, total, count_mod}
use Rattle.ldpc_shape.specs.Accepted.{Accepted, p_is, q_pos, few}
use Rattle.ldpc_edges.specs.Code.{of_bits, of_rows, meets, only, stairs, check, met}
use Rattle.ldpc_edges.proofs.Inside.{only_append, only_length}
use Rattle.ldpc_edges.specs.Insert.{insert, place, Rising}
use Rattle.ldpc_edges.proofs.Insert.{insert_length, row_cons, bits_rising}

pub bits_none : (P q c d m j : ℕ) → only c (of_bits P q d m j []) ≡ []
unfolding only of_bits met
bits_none P q c zero m j = refl
bits_none P q c (suc d) m j = bits_none P q c d (suc m) (suc j)

pub bits_count : (q c : ℕ) → 0 < q → c < 374 * q → (m : ℕ) (row : List ℕ) → length (only c (of_bits (374 * q) q 374 m 0 row)) ≡ count_mod q (c % q) row
unfolding count_mod
bits_count q c pos h m [] = ap length (bits_none (374 * q) q c 374 m 0)
bits_count q c pos h m (a ∷ row) = ap length (row_cons q c a pos h m row) ∙ go (eqb (a % q) (c % q)) (bits_count q c pos h m row)
  where
    go : (t : Bool) → length (only c (of_bits (374 * q) q 374 m 0 row)) ≡ count_mod q (c % q) row
        → length (cond t (insert (m + place q c a) (only c (of_bits (374 * q) q 374 m 0 row))) (only c (of_bits (374 * q) q 374 m 0 row)))
        ≡ cond t (suc (count_mod q (c % q) row)) (count_mod q (c % q) row)
    go true ih = insert_length (m + place q c a) (only c (of_bits (374 * q) q 374 m 0 row)) ∙ ap suc ih
    go false ih = ih

pub count_split : (q l k : ℕ) (addrs : List ℕ) → count_mod q l addrs ≡ count_mod q l (take k addrs) + count_mod q l (drop k addrs)
unfolding count_mod
count_split q l zero addrs = omega arith
count_split q l (suc k) [] = refl
count_split q l (suc k) (a ∷ addrs) = go (eqb (a % q) l) (count_split q l k addrs)
  where
    go : (b : Bool) → count_mod q l addrs ≡ count_mod q l (take k addrs) + count_mod q l (drop k addrs)
        → cond b (suc (count_mod q l addrs)) (count_mod q l addrs) ≡ cond b (suc (count_mod q l (take k addrs))) (count_mod q l (take k addrs)) + count_mod q l (drop k addrs)
    go true ih = omega arith
    go false ih = ih

rows_met : (q c : ℕ) → 0 < q → c < 374 * q → (m : ℕ) (lens addrs : List ℕ) → total lens ≡ length addrs
    → length (only c (of_rows (374 * q) q m (rows_of lens addrs))) ≡ count_mod q (c % q) addrs
unfolding of_rows rows_of total count_mod only
rows_met q c pos h m [] [] e = refl
rows_met q c pos h m [] (a ∷ addrs) e = absurd (omega arith)
rows_met q c pos h m (l ∷ lens) addrs e =
    let ih = rows_met q c pos h (m + 374) lens (drop l addrs) (omega (arith, length-drop l addrs)) in
    let b = bits_count q c pos h m (take l addrs) in
    let s = count_split q (c % q) l addrs in
    only_length c (of_bits (374 * q) q 374 m 0 (take l addrs)) (of_rows (374 * q) q (m + 374) (rows_of lens (drop l addrs))) ∙ omega arith

-- ---- a check lists its information bits ascending
pub rows_rising : (P q c m : ℕ) (rows : List (List ℕ)) → Rising m (only c (of_rows P q m rows))
unfolding of_rows only
rows_rising P q c m [] = tt
rows_rising P q c m (row ∷ rows) =
    subst (Rising m) (sym (only_append c (of_bits P q 374 m 0 row) (of_rows P q (m + 374) rows)))
    (bits_rising P q c 374 m 0 row (only c (of_rows P q (m + 374) rows)) (rows_rising P q c (m + 374) rows))

pub check_rising : (n : ℕ) (lens addrs : List ℕ) (c : ℕ) → Rising 0 (only c (meets n lens addrs))
unfolding meets
check_rising n lens addrs c = rows_rising (p_of n lens) (q_of n lens) c 0 (rows_of lens addrs)

stairs_length : (k c : ℕ) → length (stairs k c) ≡ cond (eqb c 0) 1 2
unfolding stairs
stairs_length k zero = refl
stairs_length k (suc c) = ap (λ b. cond b 1 2) (sym (ne_eqb (suc c) 0 (λ e. omega arith)))

pub stairs_le : (first : Bool) → cond first 1 2 ≤ 2
stairs_le true = omega arith
stairs_le false = omega arith

module _ (n : ℕ) (lens addrs : List ℕ) (A : Accepted n lens addrs) where
  pub met_by : (c : ℕ) → c < p_of n lens → length (only c (meets n lens addrs)) ≡ count_mod (q_of n lens) (c % q_of n lens) addrs
  unfolding meets
  met_by c h =
      let e = p_is n lens addrs A in
      ap (λ (P : ℕ). length (only c (of_rows P (q_of n lens) 0 (rows_of lens addrs)))) e
      ∙ rows_met (q_of n lens) c (q_pos n lens addrs A) (subst (λ (z : ℕ). c < z) e h) 0 lens addrs A.adds

  pub degree : (c : ℕ) → c < p_of n lens → length (check n lens addrs c) ≡ count_mod (q_of n lens) (c % q_of n lens) addrs + cond (eqb c 0) 1 2
  unfolding check
  degree c h =
      length-append (only c (meets n lens addrs)) (stairs (k_of lens) c) ∙ ap₂ (λ (x y : ℕ). x + y) (met_by c h) (stairs_length (k_of lens) c)

  pub degree_le : (c : ℕ) → c < p_of n lens → length (check n lens addrs c) ≤ 128
  degree_le c h = omega (arith, degree c h, few n lens addrs A (c % q_of n lens) (mod-lt c (q_pos n lens addrs A)), stairs_le (eqb c 0))
