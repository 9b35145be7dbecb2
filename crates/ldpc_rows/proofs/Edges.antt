-- The edges of the rows that are left: those of the first row, or of the last one, and of the others.
use Rattle.std.proofs.Common.{◌≡◌, refl, sym, ap, ap₂, ◌∙◌, List, [], ◌∷◌, ◌++◌, ℕ, ◌+◌, ◌*◌, ◌≤◌, length, append_assoc, append-nil, arith, drop, subst}
use Rattle.ldpc_shape.specs.Shape.{rows_of}
use Rattle.ldpc_edges.specs.Code.{Edge, of_bits, of_rows}
use Rattle.ldpc_rows.specs.declared.Row.{Row}
use Rattle.ldpc_rows.specs.declared.Rows.{Rows}
use Rattle.ldpc_rows.specs.Rows.{numbered, seen, left, BitsBelow}

-- the edges of the rows that are left
unfoldable pub left_edges : ℕ → ℕ → Rows → List Edge
left_edges P q s = of_rows P q s.first (rows_of s.lens.now s.addrs.now)

of_numbered : ℕ → ℕ → List (ℕ × List ℕ) → List Edge
of_numbered P q [] = []
of_numbered P q (r ∷ rs) = of_bits P q 374 r.0 0 r.1 ++ of_numbered P q rs

numbered_rows : (P q m : ℕ) (rows : List (List ℕ)) → of_rows P q m rows ≡ of_numbered P q (numbered m rows)
unfolding of_rows of_numbered numbered
numbered_rows P q m [] = refl
numbered_rows P q m (row ∷ rows) = ap (λ (es : List Edge). of_bits P q 374 m 0 row ++ es) (numbered_rows P q (m + 374) rows)

numbered_last : (P q : ℕ) (xs : List (ℕ × List ℕ)) (r : ℕ × List ℕ) → of_numbered P q (xs ++ (r ∷ [])) ≡ of_numbered P q xs ++ of_bits P q 374 r.0 0 r.1
unfolding of_numbered
numbered_last P q [] r = append-nil _
numbered_last P q (x ∷ xs) r =
    ap (λ (es : List Edge). of_bits P q 374 x.0 0 x.1 ++ es) (numbered_last P q xs r) ∙ sym (append_assoc (of_bits P q 374 x.0 0 x.1) _ _)

module _ (P q : ℕ) (s : Rows) where
  as_numbered : (t : Rows) → left_edges P q t ≡ of_numbered P q (left t)
  unfolding left_edges
  as_numbered t = numbered_rows P q t.first (rows_of t.lens.now t.addrs.now)

  -- n is what `Rows::from` gave
  pub edges_start : (n : Rows) (lens addrs : List ℕ) → s ≡ n → n.first ≡ 0 → n.lens.now ≡ lens → n.addrs.now ≡ addrs → left_edges P q s ≡ of_rows P q 0 (rows_of lens addrs)
  unfolding left_edges
  edges_start n lens addrs k e f g =
      ap (left_edges P q) k ∙ ap (λ (m : ℕ). of_rows P q m (rows_of n.lens.now n.addrs.now)) e
      ∙ ap₂ (λ (ls as' : List ℕ). of_rows P q 0 (rows_of ls as')) f g

  pub edges_first : (t : Rows) (r : Row) → left s ≡ seen r ∷ left t → left_edges P q s ≡ of_bits P q 374 r.first 0 r.addrs.now ++ left_edges P q t
  unfolding of_numbered
  edges_first t r e =
      as_numbered s ∙ ap (of_numbered P q) e ∙ ap (λ (es : List Edge). of_bits P q 374 r.first 0 r.addrs.now ++ es) (sym (as_numbered t))

  pub edges_last : (t : Rows) (r : Row) → left s ≡ left t ++ (seen r ∷ []) → left_edges P q s ≡ left_edges P q t ++ of_bits P q 374 r.first 0 r.addrs.now
  edges_last t r e =
      as_numbered s ∙ ap (of_numbered P q) e ∙ numbered_last P q (left t) (seen r)
      ∙ ap (λ (es : List Edge). es ++ of_bits P q 374 r.first 0 r.addrs.now) (sym (as_numbered t))

  pub edges_none : left s ≡ [] → left_edges P q s ≡ []
  unfolding of_numbered
  edges_none e = as_numbered s ∙ ap (of_numbered P q) e

numbered_below : (n m : ℕ) (lens addrs : List ℕ) → m + 374 * length lens ≤ n → BitsBelow n (numbered m (rows_of lens addrs))
unfolding numbered rows_of
numbered_below n m [] addrs h = tt
numbered_below n m (l ∷ lens) addrs h = (omega arith, numbered_below n (m + 374) lens (drop l addrs) (omega arith))

pub below_start : (k : ℕ) (s n : Rows) → s ≡ n → n.first ≡ 0 → 374 * length n.lens.now ≤ k → BitsBelow k (left s)
below_start k s n i e h = subst (λ (z : Rows). BitsBelow k (left z)) (sym i) (numbered_below k n.first n.lens.now n.addrs.now (omega arith))

pub below_first : (k : ℕ) (s t : Rows) (r : Row) → left s ≡ seen r ∷ left t → BitsBelow k (left s) → (r.first + 374 ≤ k) × BitsBelow k (left t)
below_first k s t r e b = subst (BitsBelow k) e b
