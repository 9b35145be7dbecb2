-- The layout of the lists in one slice, for its readers: check c's bits are `rows` from row_start[c] to row_start[c + 1].
--
-- In order: how long both parts are; where a check's list begins; the layout (`laid`).
use Rattle.std.specs.Prelude.{◌≡◌, refl, ℕ, zero, suc, ◌+◌, ◌-◌, ◌≤◌, ◌<◌, drop}
use Rattle.std.proofs.Common.{sym, ◌∙◌, add-one, drop_at, List, ◌++◌, append_assoc, arith}
use Rattle.std.proofs.Math.Path.{ap, ap₂, subst}
use Rattle.std.proofs.Math.ListN.{length, take, get_or, length-append, length-drop, get_or-append}
use Rattle.std.proofs.Math.Seq.{drop-append-add, take-append_seam, take-append-le}
use Rattle.std.proofs.lemmas.List.{drop-append-le}
use Rattle.ldpc_shape.specs.Shape.{p_of, e_of}
use Rattle.ldpc_shape.specs.Accepted.{Accepted}
use Rattle.ldpc_edges.specs.Code.{check, start_of, starts, joined, row_start, rows, edge_lists}
use Rattle.ldpc_edges.proofs.Degree.{degree_le}
use Rattle.ldpc_edges.proofs.Count.{start_last, check_below}
use Rattle.ldpc_edges.specs.Layout.{Laid}

starts_length : (n : ℕ) (lens addrs : List ℕ) (c d : ℕ) → length (starts n lens addrs c d) ≡ d
unfolding starts
starts_length n lens addrs c zero = refl
starts_length n lens addrs c (suc d) = ap suc (starts_length n lens addrs (suc c) d)

starts_at : (n : ℕ) (lens addrs : List ℕ) (c d i : ℕ) → i < d → get_or (starts n lens addrs c d) i 0 ≡ start_of n lens addrs (c + i)
unfolding starts
starts_at n lens addrs c zero i h = absurd (omega arith)
starts_at n lens addrs c (suc d) zero h = let e : c ≡ c + 0 = omega arith in ap (start_of n lens addrs) e
starts_at n lens addrs c (suc d) (suc i) h =
    let e : suc c + i ≡ c + suc i = omega arith in
    starts_at n lens addrs (suc c) d i (omega arith) ∙ ap (start_of n lens addrs) e

joined_length : (n : ℕ) (lens addrs : List ℕ) (c d : ℕ) → start_of n lens addrs c + length (joined n lens addrs c d) ≡ start_of n lens addrs (c + d)
unfolding joined start_of
joined_length n lens addrs c zero = let e : c ≡ c + 0 = omega arith in let f = ap (start_of n lens addrs) e in omega arith
joined_length n lens addrs c (suc d) =
    let e : suc c + d ≡ c + suc d = omega arith in
    let f = ap (start_of n lens addrs) e in
    omega (arith, joined_length n lens addrs (suc c) d, length-append (check n lens addrs c) (joined n lens addrs (suc c) d))

-- the part of the lists from check b on that check b + i has
joined_part : (n : ℕ) (lens addrs : List ℕ) (b d i : ℕ) → i < d
    → take (length (check n lens addrs (b + i))) (drop (start_of n lens addrs (b + i) - start_of n lens addrs b) (joined n lens addrs b d)) ≡ check n lens addrs (b + i)
unfolding joined start_of
joined_part n lens addrs b zero i h = absurd (omega arith)
joined_part n lens addrs b (suc d) zero h =
    let e : b + 0 ≡ b = omega arith in
    let z : start_of n lens addrs b - start_of n lens addrs b ≡ 0 = omega arith in
    subst (λ (y : ℕ). take (length (check n lens addrs y)) (drop (start_of n lens addrs y - start_of n lens addrs b) (check n lens addrs b ++ joined n lens addrs (suc b) d)) ≡ check n lens addrs y)
    (sym e)
    (ap (λ (y : ℕ). take (length (check n lens addrs b)) (drop y (check n lens addrs b ++ joined n lens addrs (suc b) d))) z
    ∙ take-append_seam (check n lens addrs b) (joined n lens addrs (suc b) d))
joined_part n lens addrs b (suc d) (suc i) h =
    let e : suc b + i ≡ b + suc i = omega arith in
    subst (λ (y : ℕ). take (length (check n lens addrs y)) (drop (start_of n lens addrs y - start_of n lens addrs b) (check n lens addrs b ++ joined n lens addrs (suc b) d)) ≡ check n lens addrs y)
    e
    (ap (λ (l : List ℕ). take (length (check n lens addrs (suc b + i))) l)
    (ap (λ (y : ℕ). drop y (check n lens addrs b ++ joined n lens addrs (suc b) d)) far ∙ drop-append-add (check n lens addrs b) (joined n lens addrs (suc b) d) _)
    ∙ joined_part n lens addrs (suc b) d i (omega arith))
  where
    far : start_of n lens addrs (suc b + i) - start_of n lens addrs b
        ≡ length (check n lens addrs b) + (start_of n lens addrs (suc b + i) - (start_of n lens addrs b + length (check n lens addrs b)))
    far = let g = joined_length n lens addrs (suc b) i in omega arith

pub start_length : (n : ℕ) (lens addrs : List ℕ) → length (row_start n lens addrs) ≡ suc (p_of n lens)
unfolding row_start
start_length n lens addrs = starts_length n lens addrs 0 (suc (p_of n lens))

module _ (n : ℕ) (lens addrs : List ℕ) (A : Accepted n lens addrs) where
  pub rows_length : length (rows n lens addrs) ≡ e_of n lens addrs
  unfolding rows start_of
  rows_length =
      let e : 0 + p_of n lens ≡ p_of n lens = omega arith in
      omega (arith, joined_length n lens addrs 0 (p_of n lens), ap (start_of n lens addrs) e, start_last n lens addrs A)

  pub lists_length : length (edge_lists n lens addrs) ≡ suc (p_of n lens) + e_of n lens addrs
  unfolding edge_lists
  lists_length = length-append (row_start n lens addrs) (rows n lens addrs) ∙ ap₂ (λ (x y : ℕ). x + y) (start_length n lens addrs) rows_length

  start_le : (c d : ℕ) → start_of n lens addrs c ≤ start_of n lens addrs (c + d)
  start_le c d = omega (arith, joined_length n lens addrs c d)

  within_e : (c : ℕ) → c ≤ p_of n lens → start_of n lens addrs c ≤ e_of n lens addrs
  within_e c h =
      let e : c + (p_of n lens - c) ≡ p_of n lens = omega arith in
      omega (arith, start_le c (p_of n lens - c), ap (start_of n lens addrs) e, start_last n lens addrs A)

  pub start_at : (c : ℕ) → c ≤ p_of n lens → get_or (row_start n lens addrs) c 0 ≡ start_of n lens addrs c
  unfolding row_start
  start_at c h =
      let e : 0 + c ≡ c = omega arith in
      starts_at n lens addrs 0 (suc (p_of n lens)) c (omega arith) ∙ ap (start_of n lens addrs) e

  rows_part : (c : ℕ) → c < p_of n lens → take (length (check n lens addrs c)) (drop (start_of n lens addrs c) (rows n lens addrs)) ≡ check n lens addrs c
  unfolding rows start_of
  rows_part c h =
      let e : 0 + c ≡ c = omega arith in
      let z : start_of n lens addrs c - 0 ≡ start_of n lens addrs c = omega arith in
      ap (λ (y : ℕ). take (length (check n lens addrs c)) (drop y (joined n lens addrs 0 (p_of n lens)))) (sym z)
      ∙ subst (λ (y : ℕ). take (length (check n lens addrs y)) (drop (start_of n lens addrs y - 0) (joined n lens addrs 0 (p_of n lens))) ≡ check n lens addrs y) e
      (joined_part n lens addrs 0 (p_of n lens) c h)

  -- a slice whose front is the code's lists, whatever comes after them
  module _ (xs tail : List ℕ) (front : xs ≡ edge_lists n lens addrs ++ tail) where
    split : xs ≡ row_start n lens addrs ++ (rows n lens addrs ++ tail)
    unfolding edge_lists
    split = front ∙ append_assoc (row_start n lens addrs) (rows n lens addrs) tail

    at : (c : ℕ) → c ≤ p_of n lens → get_or xs c 0 ≡ start_of n lens addrs c
    at c h =
        ap (λ (l : List ℕ). get_or l c 0) split
        ∙ get_or-append (row_start n lens addrs) (rows n lens addrs ++ tail) 0 c (omega (arith, start_length n lens addrs))
        ∙ start_at c h

    next_at_lem : (c : ℕ) → c < p_of n lens → get_or xs (c + 1) 0 ≡ get_or xs c 0 + length (check n lens addrs c)
    unfolding start_of
    next_at_lem c h =
        ap (λ (z : ℕ). get_or xs z 0) (add-one c) ∙ at (suc c) h ∙ ap (λ (z : ℕ). z + length (check n lens addrs c)) (sym (at c (omega arith)))

    rows_at : drop (suc (p_of n lens)) xs ≡ rows n lens addrs ++ tail
    rows_at = ap (drop (suc (p_of n lens))) split ∙ drop_at (row_start n lens addrs) (rows n lens addrs ++ tail) (suc (p_of n lens)) (start_length n lens addrs)

    part_at : (c : ℕ) → c < p_of n lens → take (get_or xs (c + 1) 0 - get_or xs c 0) (drop (get_or xs c 0) (drop (suc (p_of n lens)) xs)) ≡ check n lens addrs c
    unfolding start_of
    part_at c h =
        let w : get_or xs (c + 1) 0 - get_or xs c 0 ≡ length (check n lens addrs c) = omega (arith, next_at_lem c h) in
        let i = within_e (suc c) h in
        ap₂ (λ (z y : ℕ). take z (drop y (drop (suc (p_of n lens)) xs))) w (at c (omega arith))
        ∙ ap (λ (l : List ℕ). take (length (check n lens addrs c)) (drop (start_of n lens addrs c) l)) rows_at
        ∙ ap (take (length (check n lens addrs c))) (drop-append-le (start_of n lens addrs c) (rows n lens addrs) tail (omega (arith, rows_length)))
        ∙ take-append-le (length (check n lens addrs c)) (drop (start_of n lens addrs c) (rows n lens addrs)) tail (omega (arith, length-drop (start_of n lens addrs c) (rows n lens addrs), rows_length))
        ∙ rows_part c h

    pub laid : Laid n lens addrs xs
    laid =
        record {
          start = at;
          last = at (p_of n lens) (omega arith) ∙ start_last n lens addrs A;
          next = next_at_lem;
          part = part_at;
          within = λ c h. omega (arith, at c h, within_e c h);
          short = degree_le n lens addrs A;
          below = λ c i h g. check_below n lens addrs A c h i g;
        }
