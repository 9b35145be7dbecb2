-- The rows that are left of a table are those from row g on.
use Rattle.std.proofs.Common.{◌≡◌, refl, sym, ap, ◌∙◌, arith, add-one, length-drop, List, [], ◌∷◌, ℕ, zero, suc, ◌+◌, ◌-◌, ◌<◌, length, get_or, drop}
use Rattle.ldpc_shape.specs.Shape.{rows_of, total}
use Rattle.ldpc_rows.specs.declared.Row.{Row}
use Rattle.ldpc_rows.specs.declared.Rows.{Rows}
use Rattle.ldpc_rows.specs.Rows.{numbered, seen, left}
use Rattle.fixed_conflicts.specs.Edges.{row_of, row_next}

-- the rows of the table, each with its first bit
abbrev pub all_rows : List ℕ → List ℕ → List (ℕ × List ℕ)
all_rows lens addrs = numbered 0 (rows_of lens addrs)

numbered_length : (m : ℕ) (lens addrs : List ℕ) → length (numbered m (rows_of lens addrs)) ≡ length lens
unfolding numbered rows_of
numbered_length m [] addrs = refl
numbered_length m (l ∷ lens) addrs = ap suc (numbered_length (m + 374) lens (drop l addrs))

numbered_at : (m : ℕ) (lens addrs : List ℕ) (g : ℕ) → g < length lens → (get_or (numbered m (rows_of lens addrs)) g (0, [])).1 ≡ row_of lens addrs g
unfolding numbered rows_of total
numbered_at m [] addrs g h = absurd (omega (arith, h))
numbered_at m (l ∷ lens) addrs zero h = refl
numbered_at m (l ∷ lens) addrs (suc g) h = numbered_at (m + 374) lens (drop l addrs) g (omega arith) ∙ sym (row_next l lens addrs g)

-- what a list that is left begins with
drop_head : {A : Type 0} (xs : List A) (g : ℕ) (x : A) (rest : List A) (d : A) → drop g xs ≡ x ∷ rest → (g < length xs) × (get_or xs g d ≡ x) × (drop (suc g) xs ≡ rest)
drop_head [] zero x rest d e = absurd cc
drop_head [] (suc g) x rest d e = absurd cc
drop_head (y ∷ xs) zero x rest d e = (omega arith, cc, cc)
drop_head (y ∷ xs) (suc g) x rest d e = let z = drop_head xs g x rest d e in (omega arith, z.1, z.2)

module _ (lens addrs : List ℕ) where
  -- before the first row; n is what `Rows::from` gave
  pub rows_start : (s n : Rows) → s ≡ n → n.first ≡ 0 → n.lens.now ≡ lens → n.addrs.now ≡ addrs → left s ≡ all_rows lens addrs
  rows_start s n i e f g = ap left i ∙ (λ j. numbered (e j) (rows_of (f j) (g j)))

  -- row g is the next one
  pub rows_next : (s t : Rows) (r : Row) (g : ℕ) → left s ≡ drop g (all_rows lens addrs) → left s ≡ seen r ∷ left t
      → (g < length lens) × (r.addrs.now ≡ row_of lens addrs g) × (left t ≡ drop (g + 1) (all_rows lens addrs))
  rows_next s t r g h e =
      let z = drop_head (all_rows lens addrs) g (seen r) (left t) (0, []) (sym h ∙ e) in
      let q : g < length lens = omega (arith, numbered_length 0 lens addrs) in (
        q,
        ap (λ (x : ℕ × List ℕ). x.1) (sym z.1) ∙ numbered_at 0 lens addrs g q,
        sym z.2 ∙ ap (λ (k : ℕ). drop k (all_rows lens addrs)) (sym (add-one g)),
      )

  -- how many are left
  pub rows_left : (s : Rows) (g : ℕ) → left s ≡ drop g (all_rows lens addrs) → length (left s) ≡ length lens - g
  rows_left s g h = ap length h ∙ length-drop g (all_rows lens addrs) ∙ ap (λ (k : ℕ). k - g) (numbered_length 0 lens addrs)
