-- The lists of an accepted code are lists, and the code that they say is the code of n, row lengths and addresses.
use Rattle.std.specs.Prelude.{◌≡◌, refl, Bool, true, false, List, [], ◌++◌, ℕ, zero, suc, ◌+◌, ◌-◌, ◌≤◌, ◌<◌, ltb, get_or, length, take, drop}
use Rattle.std.proofs.Common.{sym, ap, ◌∙◌, subst, arith, add-one, append-nil, ltb-true, ltb-false, length-append, get_or-append-add, take_at, drop_at}
use Rattle.std.proofs.Math.ListN.{get_or-append}
use Rattle.ldpc_shape.specs.Shape.{p_of, e_of}
use Rattle.ldpc_shape.specs.Accepted.{Accepted, p_is, q_pos}
use Rattle.ldpc_edges.specs.Code.{check, joined, row_start, rows, edge_lists}
use Rattle.ldpc_edges.proofs.Count.{check_below}
use Rattle.ldpc_edges.specs.Layout.{Laid}
use Rattle.ldpc_edges.proofs.Lists.{laid, start_length, rows_length, lists_length}
use Rattle.iteration.specs.Lists.{Lists, rows_in, edges_in, code_in}
use Rattle.iteration.specs.Code.{code_of}

module _ (n : ℕ) (lens addrs lists : List ℕ) (is : lists ≡ edge_lists n lens addrs) where
  starts_are : take (p_of n lens + 1) lists ≡ row_start n lens addrs
  unfolding edge_lists
  starts_are =
      ap (take (p_of n lens + 1)) is
      ∙ take_at (row_start n lens addrs) (rows n lens addrs) (p_of n lens + 1) (start_length n lens addrs ∙ sym (add-one (p_of n lens)))

  rows_are : rows_in (p_of n lens) lists ≡ rows n lens addrs
  unfolding edge_lists
  rows_are =
      ap (drop (p_of n lens + 1)) is
      ∙ drop_at (row_start n lens addrs) (rows n lens addrs) (p_of n lens + 1) (start_length n lens addrs ∙ sym (add-one (p_of n lens)))

  pub code_in_is : code_in (p_of n lens) lists ≡ code_of n lens addrs
  unfolding code_of
  code_in_is = λ i. record { rows = λ e. get_or (rows_are i) e 0; row_start = λ c. get_or (starts_are i) c 0 }

big : (n : ℕ) (lens addrs : List ℕ) → Accepted n lens addrs → 747 ≤ e_of n lens addrs
unfolding e_of
big n lens addrs A = omega (arith, p_is n lens addrs A, q_pos n lens addrs A)

module _ (n : ℕ) (lens addrs : List ℕ) (A : Accepted n lens addrs) where
  joined_below : (c d : ℕ) → c + d ≤ p_of n lens → (e : ℕ) → e < length (joined n lens addrs c d) → get_or (joined n lens addrs c d) e 0 < n
  unfolding joined
  joined_below c zero h e q = absurd (omega (arith, q))
  joined_below c (suc d) h e q = go (ltb e (length (check n lens addrs c))) refl (joined_below (suc c) d (omega arith))
    where
      go : (b : Bool) → ltb e (length (check n lens addrs c)) ≡ b
          → ((e : ℕ) → e < length (joined n lens addrs (suc c) d) → get_or (joined n lens addrs (suc c) d) e 0 < n)
          → get_or (check n lens addrs c ++ joined n lens addrs (suc c) d) e 0 < n
      go true s ih =
          let l = ltb-true e (length (check n lens addrs c)) s in
          subst (λ (z : ℕ). z < n) (sym (get_or-append (check n lens addrs c) (joined n lens addrs (suc c) d) 0 e l))
          (check_below n lens addrs A c (omega arith) e l)
      go false s ih =
          let k : length (check n lens addrs c) + (e - length (check n lens addrs c)) ≡ e = omega (arith, ltb-false e (length (check n lens addrs c)) s) in
          subst (λ (z : ℕ). get_or (check n lens addrs c ++ joined n lens addrs (suc c) d) z 0 < n) k
          (subst (λ (z : ℕ). z < n) (sym (get_or-append-add (check n lens addrs c) (joined n lens addrs (suc c) d) (e - length (check n lens addrs c)) 0))
          (ih (e - length (check n lens addrs c)) (omega (arith, length-append (check n lens addrs c) (joined n lens addrs (suc c) d)))))

  rows_below : (e : ℕ) → e < length (rows n lens addrs) → get_or (rows n lens addrs) e 0 < n
  unfolding rows
  rows_below e q = joined_below 0 (p_of n lens) (omega arith) e q

  -- the lists of an accepted code are lists
  module _ (lists : List ℕ) (is : lists ≡ edge_lists n lens addrs) where
    pub laid_in : Laid n lens addrs lists
    laid_in = laid n lens addrs A lists [] (is ∙ sym (append-nil (edge_lists n lens addrs)))

    pub edges_are : edges_in (p_of n lens) lists ≡ e_of n lens addrs
    edges_are = ap length (rows_are n lens addrs lists is) ∙ rows_length n lens addrs A

    pub lists_in : Lists n (p_of n lens) lists
    unfolding e_of
    lists_in =
        record {
          long = omega (arith, ap length is, lists_length n lens addrs A);
          ascend = λ c h. omega (arith, laid_in.next c h);
          short = λ c h. omega (arith, laid_in.next c h, laid_in.short c h);
          within = λ c h. omega (arith, laid_in.within c h, edges_are);
          variables = subst (λ (l : List ℕ). (e : ℕ) → e < length l → get_or l e 0 < n) (sym (rows_are n lens addrs lists is)) rows_below;
          many = omega (arith, edges_are, big n lens addrs A);
        }
