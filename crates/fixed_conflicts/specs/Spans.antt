-- A row's edges stand together in a check's list, at the same place in every check of a layer: as many as the row has addresses equal to l modulo q.
use Rattle.std.proofs.Common.{◌≡◌, refl, take, drop, sym, ◌∙◌, length-drop, List, [], ◌∷◌, ◌++◌, ℕ, zero, suc, ◌+◌, ◌*◌, ◌-◌, ◌%◌, ◌≤◌, ◌<◌, arith}
use Rattle.std.proofs.Math.Path.{ap, subst}
use Rattle.std.proofs.Math.Decide.{dec_lt}
use Rattle.std.proofs.Math.ListN.{length, get_or, length-append, get_or-append}
use Rattle.std.proofs.Math.Seq.{get_or-append-add}
use Rattle.ldpc_shape.specs.Shape.{rows_of, total, count_mod}
use Rattle.ldpc_edges.specs.Code.{of_bits, of_rows, only}
use Rattle.ldpc_edges.proofs.Inside.{bits_inside, only_append}
use Rattle.ldpc_edges.proofs.Count.{only_inside}
use Rattle.ldpc_edges.specs.Insert.{Rising}
use Rattle.ldpc_edges.proofs.Degree.{bits_count, count_split, rows_rising}
use Rattle.fixed_conflicts.specs.Edges.{row_of, row_next}

-- how many addresses equal to l modulo q the first g rows have
unfoldable pub span_of : ℕ → ℕ → List ℕ → List ℕ → ℕ → ℕ
span_of q l lens addrs zero = 0
span_of q l [] addrs (suc g) = 0
span_of q l (n ∷ lens) addrs (suc g) = count_mod q l (take n addrs) + span_of q l lens (drop n addrs) g

pub span_next : (q l : ℕ) (lens addrs : List ℕ) (g : ℕ) → g < length lens → span_of q l lens addrs (suc g) ≡ span_of q l lens addrs g + count_mod q l (row_of lens addrs g)
unfolding span_of total
span_next q l [] addrs g h = absurd (omega (arith, h))
span_next q l (n ∷ lens) addrs zero h = omega arith
span_next q l (n ∷ lens) addrs (suc g) h =
    let z = span_next q l lens (drop n addrs) g (omega arith) in
    let y = ap (count_mod q l) (row_next n lens addrs g) in
    omega arith

pub span_within : (q l : ℕ) (lens addrs : List ℕ) (g : ℕ) → span_of q l lens addrs g ≤ count_mod q l addrs
unfolding span_of
span_within q l lens addrs zero = omega arith
span_within q l [] addrs (suc g) = omega arith
span_within q l (n ∷ lens) addrs (suc g) = omega (arith, span_within q l lens (drop n addrs) g, count_split q l n addrs)

pub span_all : (q l : ℕ) (lens addrs : List ℕ) → total lens ≡ length addrs → span_of q l lens addrs (length lens) ≡ count_mod q l addrs
unfolding span_of total count_mod
span_all q l [] [] e = refl
span_all q l [] (a ∷ addrs) e = absurd (omega arith)
span_all q l (n ∷ lens) addrs e = let z = span_all q l lens (drop n addrs) (omega (arith, length-drop n addrs)) in omega (arith, count_split q l n addrs)

-- ---- where the bits of a list lie
pub rising_at : (v : ℕ) (bs : List ℕ) → Rising v bs → (k : ℕ) → k < length bs → v ≤ get_or bs k 0
rising_at v [] R k h = absurd (omega (arith, h))
rising_at v (b ∷ bs) R zero h = R.0
rising_at v (b ∷ bs) R (suc k) h = omega (arith, R.0, rising_at b bs R.1 k (omega arith))

module _ (q c : ℕ) (pos : 0 < q) (h : c < 374 * q) where
  abbrev list : ℕ → List ℕ → List ℕ → List ℕ
  list m lens addrs = only c (of_rows (374 * q) q m (rows_of lens addrs))

  abbrev first : ℕ → List ℕ → List ℕ
  first m row = only c (of_bits (374 * q) q 374 m 0 row)

  parts : (m n : ℕ) (lens addrs : List ℕ) → list m (n ∷ lens) addrs ≡ first m (take n addrs) ++ list (m + 374) lens (drop n addrs)
  unfolding of_rows rows_of
  parts m n lens addrs = only_append c (of_bits (374 * q) q 374 m 0 (take n addrs)) (of_rows (374 * q) q (m + 374) (rows_of lens (drop n addrs)))

  first_below : (m : ℕ) (row : List ℕ) (k : ℕ) → k < length (first m row) → get_or (first m row) k 0 < m + 374
  first_below m row k r = only_inside (374 * q) (m + 374) c (of_bits (374 * q) q 374 m 0 row) (bits_inside (374 * q) q (m + 374) 374 m 0 row (omega arith) (omega arith)) k r

  pub groups_below : (m : ℕ) (lens addrs : List ℕ) (g k : ℕ) → k < span_of q (c % q) lens addrs g → k < length (list m lens addrs) → get_or (list m lens addrs) k 0 < m + 374 * g
  unfolding span_of
  groups_below m lens addrs zero k a b = absurd (omega (arith, a))
  groups_below m [] addrs (suc g) k a b = absurd (omega (arith, a))
  groups_below m (n ∷ lens) addrs (suc g) k a b =
      subst (λ (l : List ℕ). get_or l k 0 < m + 374 * suc g) (sym (parts m n lens addrs))
      (go (dec_lt k (length (first m (take n addrs)))) (λ (i : ℕ) (x : i < span_of q (c % q) lens (drop n addrs) g) (y : i < length (list (m + 374) lens (drop n addrs))). groups_below (m + 374) lens (drop n addrs) g i x y))
    where
      go : Dec (k < length (first m (take n addrs)))
          → ((i : ℕ) → i < span_of q (c % q) lens (drop n addrs) g → i < length (list (m + 374) lens (drop n addrs)) → get_or (list (m + 374) lens (drop n addrs)) i 0 < m + 374 + 374 * g)
          → get_or (first m (take n addrs) ++ list (m + 374) lens (drop n addrs)) k 0 < m + 374 * suc g
      go (yes r) ih = omega (arith, get_or-append (first m (take n addrs)) (list (m + 374) lens (drop n addrs)) 0 k r, first_below m (take n addrs) k r)
      go (no r) ih =
          let j = length (first m (take n addrs)) in
          let e : j + (k - j) ≡ k = omega arith in
          let f = bits_count q c pos h m (take n addrs) in
          let t = ap length (parts m n lens addrs) ∙ length-append (first m (take n addrs)) (list (m + 374) lens (drop n addrs)) in
          omega (
            arith,
            get_or-append-add (first m (take n addrs)) (list (m + 374) lens (drop n addrs)) (k - j) 0,
            ap (λ (i : ℕ). get_or (first m (take n addrs) ++ list (m + 374) lens (drop n addrs)) i 0) e,
            ih (k - j) (omega arith) (omega arith),
          )

  pub groups_from : (m : ℕ) (lens addrs : List ℕ) (g k : ℕ) → g ≤ length lens → span_of q (c % q) lens addrs g ≤ k → k < length (list m lens addrs) → m + 374 * g ≤ get_or (list m lens addrs) k 0
  unfolding span_of
  groups_from m lens addrs zero k i a b = omega (arith, rising_at m (list m lens addrs) (rows_rising (374 * q) q c m (rows_of lens addrs)) k b)
  groups_from m [] addrs (suc g) k i a b = absurd (omega (arith, i))
  groups_from m (n ∷ lens) addrs (suc g) k i a b =
      let j = length (first m (take n addrs)) in
      let f = bits_count q c pos h m (take n addrs) in
      let e : j + (k - j) ≡ k = omega arith in
      let t = ap length (parts m n lens addrs) ∙ length-append (first m (take n addrs)) (list (m + 374) lens (drop n addrs)) in
      subst (λ (l : List ℕ). m + 374 * suc g ≤ get_or l k 0) (sym (parts m n lens addrs))
      (omega (
        arith,
        get_or-append-add (first m (take n addrs)) (list (m + 374) lens (drop n addrs)) (k - j) 0,
        ap (λ (i : ℕ). get_or (first m (take n addrs) ++ list (m + 374) lens (drop n addrs)) i 0) e,
        groups_from (m + 374) lens (drop n addrs) g (k - j) (omega arith) (omega arith) (omega arith),
      ))
