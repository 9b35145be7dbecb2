-- The table of the rows' edges in the checks, as it is made.
use Rattle.std.specs.Prelude.{◌≡◌, refl, List, ℕ, suc, ◌+◌, ◌*◌, ◌-◌, ◌≤◌, ◌<◌, get_or, length, take, drop}
use Rattle.std.proofs.Common.{sym, ap, ap₂, ◌∙◌, subst, arith, mul-le-mul_right, add-one}
use Rattle.std.proofs.Math.Decide.{ℕ_discrete}
use Rattle.ldpc_shape.specs.Shape.{q_of, total, count_mod}
use Rattle.ldpc_shape.specs.Counts.{CountsBelow}
use Rattle.ldpc_shape.specs.Accepted.{Accepted, few}
use Rattle.fixed_conflicts.specs.Table.{spans_length, span_at}
use Rattle.fixed_conflicts.specs.Edges.{row_of}
use Rattle.fixed_conflicts.specs.Spans.{span_of, span_next, span_within}
use Rattle.fixed_conflicts.specs.Conflicts.{Spanned, total_next}

-- ---- row g + 1 of the table from row g, the first k layers
pub record NextRow (table counts : List ℕ) (g k : ℕ) (table' : List ℕ) : Type 0 where
  pub long : length table' ≡ length table
  pub done : (l : ℕ) → l < k → span_at table' l (g + 1) ≡ span_at table l g + get_or counts l 0
  pub still : (i : ℕ) → i < (g + 1) * 120 → get_or table' i 0 ≡ get_or table i 0

-- ---- the first g rows
pub record Begun (q : ℕ) (lens addrs : List ℕ) (g at : ℕ) (table : List ℕ) : Type 0 where
  pub long : length table ≡ spans_length
  pub at_is : at ≡ total (take g lens)
  pub rows : (h l : ℕ) → h ≤ g → l < q → span_at table l h ≡ span_of q l lens addrs h

pub begun_start : (q : ℕ) (lens addrs table : List ℕ) → length table ≡ spans_length → q ≤ 120 → ((l : ℕ) → l < 120 → get_or table l 0 ≡ 0) → Begun q lens addrs 0 0 table
unfolding total span_of
begun_start q lens addrs table a few zeros =
    record {
      long = a;
      at_is = refl;
      rows = λ h l k r.
          let z : h ≡ 0 = omega arith in
          let y : h * 120 + l ≡ l = omega arith in
          ap (λ (j : ℕ). get_or table j 0) y ∙ zeros l (omega arith) ∙ ap (span_of q l lens addrs) (sym z);
    }

-- rows before are as they were
kept : {table counts : List ℕ} {g q : ℕ} {table' : List ℕ} → NextRow table counts g q table' → (h l : ℕ) → h ≤ g → l < 120 → span_at table' l h ≡ span_at table l h
kept {table} {counts} {g} v h l a b = let z : h * 120 ≤ g * 120 = mul-le-mul_right 120 a in v.still (h * 120 + l) (omega arith)

pub begun_again : {q : ℕ} {lens addrs : List ℕ} {g at : ℕ} {table table' : List ℕ} (to : ℕ) (counts : List ℕ) → Begun q lens addrs g at table → q ≤ 120
    → g < length lens → to ≡ at + get_or lens g 0
    → CountsBelow counts q (take (to - at) (drop at addrs)) → NextRow table counts g q table' → Begun q lens addrs (g + 1) to table'
begun_again {q} {lens} {addrs} {g} {at} {table} {table'} to counts w few h e count v =
    record {
      long = v.long ∙ w.long;
      at_is = let z = ap (λ (j : ℕ). total (take j lens)) (add-one g) in omega (arith, w.at_is, total_next lens g h);
      rows = λ j l k r. row j l k r (ℕ_discrete j (g + 1));
    }
  where
    here : take (to - at) (drop at addrs) ≡ row_of lens addrs g
    here = let z : to - at ≡ get_or lens g 0 = omega arith in ap₂ (λ (x y : ℕ). take x (drop y addrs)) z w.at_is

    row : (j l : ℕ) → j ≤ g + 1 → l < q → Dec (j ≡ g + 1) → span_at table' l j ≡ span_of q l lens addrs j
    row j l k i (yes r) =
        ap (span_at table' l) r
        ∙ v.done l i
        ∙ (λ y. w.rows g l (omega arith) i y + (count l i ∙ ap (count_mod q l) here) y)
        ∙ sym (span_next q l lens addrs g h)
        ∙ ap (span_of q l lens addrs) (sym (add-one g) ∙ sym r)
    row j l k i (no r) = kept v j l (omega arith) (omega arith) ∙ w.rows j l (omega arith) i

-- every number fits a byte
module _ {n : ℕ} {lens addrs : List ℕ} (A : Accepted n lens addrs) {q g at : ℕ} {table : List ℕ} (is : q ≡ q_of n lens) (w : Begun q lens addrs g at table) where
  few_of : (l : ℕ) → l < q → count_mod q l addrs ≤ 126
  few_of l h = subst (λ (z : ℕ). count_mod z l addrs ≤ 126) (sym is) (few n lens addrs A l (omega arith))

  pub begun_few : (l : ℕ) → l < q → span_at table l g ≤ 126
  begun_few l h = omega (arith, w.rows g l (omega arith) h, span_within q l lens addrs g, few_of l h)

  pub begun_small : (to : ℕ) (counts : List ℕ) → g < length lens → to ≡ at + get_or lens g 0 → CountsBelow counts q (take (to - at) (drop at addrs)) → (l : ℕ) → l < q
      → span_at table l g + get_or counts l 0 ≤ 255
  begun_small to counts h e count l i =
      let z : to - at ≡ get_or lens g 0 = omega arith in
      let here : take (to - at) (drop at addrs) ≡ row_of lens addrs g = ap₂ (λ (x y : ℕ). take x (drop y addrs)) z w.at_is in
      omega (
        arith,
        w.rows g l (omega arith) i,
        count l i,
        ap (count_mod q l) here,
        span_next q l lens addrs g h,
        span_within q l lens addrs (suc g),
        few_of l i,
      )

pub begun_end : {n q : ℕ} {lens addrs : List ℕ} {g at : ℕ} {table table' two : List ℕ} → g ≡ length lens → q ≡ q_of n lens → q ≤ 120 → Begun q lens addrs g at table
    → ((l : ℕ) → l < q → get_or two l 0 ≡ 2)
    → NextRow table two g q table' → Spanned n lens addrs table'
begun_end {n} {q} {lens} {addrs} {g} {at} {table} {table'} e same few w is v =
    record {
      long = v.long ∙ w.long;
      rows = λ h l k i. kept v h l (omega arith) (omega arith) ∙ w.rows h l (omega arith) (omega arith) ∙ ap (λ (z : ℕ). span_of z l lens addrs h) same;
      parity = λ l i.
          ap (λ (j : ℕ). span_at table' l (j + 1)) (sym e)
          ∙ v.done l (omega arith)
          ∙ (λ y. w.rows g l (omega arith) (omega arith) y + is l (omega arith) y)
          ∙ (λ y. span_of (same y) l lens addrs (e y) + 2);
    }
