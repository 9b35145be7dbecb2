-- What the layers of an iteration go by: the code's numbers, its lists and the table of its rows' edges. They speak of the addresses no more.
use Rattle.std.specs.Prelude.{◌≡◌, Bool, List, ℕ, ◌*◌, ◌/◌, ◌<◌, length}
use Rattle.std.proofs.Common.{sym, subst, arith}
use Rattle.ldpc_shape.specs.declared.Sizes.{Sizes}
use Rattle.ldpc_shape.specs.Shape.{k_of, q_of, code_refusal, sizes_of}
use Rattle.ldpc_shape.specs.Accepted.{Bounded}
use Rattle.ldpc_shape.proofs.Accepted.{accepted, bounded}
use Rattle.ldpc_edges.specs.Code.{edge_lists}
use Rattle.iteration.specs.Lists.{edges_in, code_in}
use Rattle.iteration.specs.CodeLaws.{edges_are}
use Rattle.fixed_conflicts.specs.Table.{spans_length, Flagged, Shares}
use Rattle.fixed_conflicts.specs.Conflicts.{Spanned}
use Rattle.fixed_conflicts.specs.Conflicts as conflicts

-- how many rows of addresses there are
abbrev pub row_count : Sizes → ℕ
row_count of = of.k / 374

pub record Prepared (of : Sizes) (lists table : List ℕ) : Type 0 where
  pub bounds : Bounded of
  pub edges : edges_in of.p lists ≡ of.e
  pub long : length table ≡ spans_length
  pub shares : (l : ℕ) → l < of.q → (flags : List Bool) (any : Bool) → Flagged table (row_count of) of.q l (row_count of) flags any
      → Shares of.n of.q (code_in of.p lists) l 374 l table flags

-- the lists and the table of an accepted code
pub prepared : (n : ℕ) (lens addrs lists table : List ℕ) (of : Sizes) → code_refusal n lens addrs ≡ 0 → of ≡ sizes_of n lens addrs → lists ≡ edge_lists n lens addrs → Spanned n lens addrs table
    → Prepared of lists table
unfolding k_of
prepared n lens addrs lists table of accept sizes is w =
    let A = accepted n lens addrs accept in
    let few : 374 * length lens / 374 ≡ length lens = omega arith in
    subst (λ (s : Sizes). Prepared s lists table) (sym sizes)
    (record {
      bounds = bounded n lens addrs accept;
      edges = edges_are n lens addrs A lists is;
      long = w.long;
      shares = λ l h flags any f. conflicts.shares n lens addrs A lists is w l h (subst (λ (r : ℕ). Flagged table r (q_of n lens) l r flags any) few f);
    })
