use Rattle.std.proofs.Common.{◌≡◌, ℕ, ◌+◌, ◌-◌, ◌<◌, ◌≤◌, List, ◌∷◌, length, get_or, take, drop, ap, refl, sym, ◌∙◌, subst, arith, inl}
use Rattle.std.proofs.lemmas.List.{length-take, length-drop, get_or-replicate}
use Rattle.std.specs.Iterator.Adapters.{enumerate_source, enumerate_count}
use Rattle.ldpc_shape.specs.declared.Sizes.{Sizes}
use Rattle.ldpc_shape.specs.declared.Table.{Table}
use Rattle.ldpc_shape.specs.Shape.{q_of, total}
use Rattle.ldpc_shape.specs.Counts.{CountsBelow}
use Rattle.ldpc_shape.proofs.Accepted.{accepted}
use Rattle.ldpc_shape.specs.Accepted.{Accepted, rows_le, addrs_le, q_pos, q_le}
use Rattle.ldpc_rows.specs.declared.Row.{Row}
use Rattle.ldpc_rows.specs.declared.Rows.{Rows}
use Rattle.ldpc_rows.specs.Rows.{left, seen}
use Rattle.fixed_conflicts.specs.Marks.{Begun, NextRow, begun_start, begun_again, begun_few, begun_small, begun_end}
use Rattle.fixed_conflicts.proofs.Rows.{all_rows, rows_start, rows_next, rows_left}
use Rattle.fixed_conflicts.proofs.spans.Goals as goal

-- what is known of an accepted code
record Known (of : Table) : Type 0 where
  accept : Accepted of.sizes.n of.lens.now of.addrs.now
  layers : of.sizes.q ≡ q_of of.sizes.n of.lens.now
  some : 0 < of.sizes.q
  few : of.sizes.q ≤ 120
  rows : length of.lens.now ≤ 119
  addresses : length of.addrs.now ≤ 15360

known : (of : Table) → Known of
known of =
    let A = accepted of.sizes.n of.lens.now of.addrs.now of.accepted in
    let e : of.sizes.q ≡ q_of of.sizes.n of.lens.now = ap (λ (z : Sizes). z.q) of.numbers in
    record {
      accept = A;
      layers = e;
      some = omega (arith, q_pos of.sizes.n of.lens.now of.addrs.now A);
      few = omega (arith, q_le of.sizes.n of.lens.now of.addrs.now A);
      rows = rows_le of.sizes.n of.lens.now of.addrs.now A;
      addresses = addrs_le of.sizes.n of.lens.now of.addrs.now A;
    }

-- the addresses of the rows before row g end where its own begin
abbrev from : List ℕ → ℕ → ℕ
from lens g = total (take g lens)

begun_at : {q : ℕ} {lens addrs : List ℕ} {g at : ℕ} {table : List ℕ} → Begun q lens addrs g at table → Begun q lens addrs g (from lens g) table
begun_at {q} {lens} {addrs} {g} {at} {table} b = subst (λ (a : ℕ). Begun q lens addrs g a table) b.at_is b

-- row g and its counts
record Turn (q : ℕ) (lens addrs : List ℕ) (t : Rows) (g : ℕ) (counts : List ℕ) : Type 0 where
  here : g < length lens
  rest : left t ≡ drop (g + 1) (all_rows lens addrs)
  below : CountsBelow counts q (take (from lens g + get_or lens g 0 - from lens g) (drop (from lens g) addrs))

turn : (q : ℕ) (lens addrs : List ℕ) (s t : Rows) (r : Row) (g : ℕ) (counts : List ℕ) → left s ≡ drop g (all_rows lens addrs) → left s ≡ seen r ∷ left t → CountsBelow counts q r.addrs.now
    → Turn q lens addrs t g counts
turn q lens addrs s t r g counts h e f =
    let z = rows_next lens addrs s t r g h e in
    let y : get_or lens g 0 ≡ from lens g + get_or lens g 0 - from lens g = omega arith in
    record {
      here = z.0;
      rest = z.2;
      below = subst (CountsBelow counts q) (z.1 ∙ ap (λ (k : ℕ). take k (drop (from lens g) addrs)) y) f;
    }

pub overflow_cast-q : goal.overflow_cast-q
overflow_cast-q c = let k = known c.args.of in record { fits = omega (arith, k.few) }

pub loop-g-init : goal.loop-g-init
loop-g-init c =
    let k = known c.args.of in
    let n = c.from.ensures in
    let s = enumerate_source c.into_iter-g-iterator.result in
    let source : s ≡ c.from.result = ap enumerate_source c.into_iter-g-iterator.ensures.into_iter_gives ∙ c.enumerate-g-items.ensures.source in
    let count : enumerate_count c.into_iter-g-iterator.result ≡ 0 = ap enumerate_count c.into_iter-g-iterator.ensures.into_iter_gives ∙ c.enumerate-g-items.ensures.count in
    let some : left s ≡ drop (enumerate_count c.into_iter-g-iterator.result) (all_rows c.args.of.lens.now c.args.of.addrs.now) =
    rows_start c.args.of.lens.now c.args.of.addrs.now s c.from.result source n.0 n.1 n.2
    ∙ ap (λ (j : ℕ). drop j (all_rows c.args.of.lens.now c.args.of.addrs.now)) (sym count) in (
      (tt, tt, inl (omega (arith, count, k.rows, rows_left c.args.of.lens.now c.args.of.addrs.now s _ some))),
      tt,
      (
        some,
        subst (λ (j : ℕ). Begun c.args.of.sizes.q c.args.of.lens.now c.args.of.addrs.now j (from c.args.of.lens.now j) c.args.table.now) (sym count)
            (begun_at (begun_start c.args.of.sizes.q c.args.of.lens.now c.args.of.addrs.now c.args.table.now c.requires.0 k.few c.requires.1)),
      ),
    )

pub counts-counts-requires : goal.counts-counts-requires
counts-counts-requires c =
    let k = known c.args.of in
    let z = rows_next c.args.of.lens.now c.args.of.addrs.now (enumerate_source c.loop-g.g-iterator) (enumerate_source c.next.new.self) c.in-Some.row
    (enumerate_count c.loop-g.g-iterator) c.loop-g.invariant.2.0 c.in-Some.ensures.steps.0 in (
      k.some,
      k.few,
      omega (arith, k.addresses, ap length z.1, length-take {A = ℕ}, length-drop {A = ℕ}),
    )

pub advance-requires : goal.advance-requires
advance-requires c =
    let k = known c.args.of in
    let t = turn c.args.of.sizes.q c.args.of.lens.now c.args.of.addrs.now (enumerate_source c.loop-g.g-iterator) (enumerate_source c.next.new.self) c.in-Some.row
    (enumerate_count c.loop-g.g-iterator) c.counts-counts.result c.loop-g.invariant.2.0 c.in-Some.ensures.steps.0 c.counts-counts.ensures.below in
    let b = c.loop-g.invariant.2.1 in
    rw c.in-Some.ensures.steps.1
    (record {
      sizes = (omega (arith, k.rows, b.long, t.here), k.few);
      fits = begun_small k.accept k.layers b _ c.counts-counts.result t.here refl t.below;
    })

pub loop-g-preserved : goal.loop-g-preserved
loop-g-preserved c =
    let k = known c.args.of in
    let g = enumerate_count c.loop-g.g-iterator in
    let t = turn c.args.of.sizes.q c.args.of.lens.now c.args.of.addrs.now (enumerate_source c.loop-g.g-iterator) (enumerate_source c.next.new.self) c.in-Some.row
    g c.counts-counts.result c.loop-g.invariant.2.0 c.in-Some.ensures.steps.0 c.counts-counts.ensures.below in
    let made : NextRow c.loop-g.table c.counts-counts.result g c.args.of.sizes.q c.advance.new.table =
    rw c.in-Some.ensures.steps.1 at c.advance.ensures in
    let next : Begun c.args.of.sizes.q c.args.of.lens.now c.args.of.addrs.now (g + 1) (from c.args.of.lens.now (g + 1)) c.advance.new.table =
    begun_at (begun_again _ c.counts-counts.result c.loop-g.invariant.2.1 k.few t.here refl t.below made) in
    rw c.in-Some.ensures.steps.2 (
      (tt, tt, inl (omega (arith, k.rows, t.here, rows_left c.args.of.lens.now c.args.of.addrs.now (enumerate_source c.next.new.self) _ t.rest))),
      tt,
      (t.rest, next),
    )

-- all rows
whole : {q : ℕ} {lens addrs table : List ℕ} {g at : ℕ} → length lens ≤ g → Begun q lens addrs g at table → Begun q lens addrs (length lens) (from lens (length lens)) table
whole h b = record { long = b.long; at_is = refl; rows = λ j l q r. b.rows j l (omega arith) r }

pub advance-requires-2 : goal.advance-requires-2
advance-requires-2 c =
    let k = known c.args.of in
    let none : length c.args.of.lens.now ≤ enumerate_count c.loop-g.g-iterator =
    omega (arith, ap length c.in-None.ensures.steps.0.0, rows_left c.args.of.lens.now c.args.of.addrs.now (enumerate_source c.loop-g.g-iterator) _ c.loop-g.invariant.2.0) in
    let b = whole none c.loop-g.invariant.2.1 in
    record {
      sizes = (omega (arith, b.long, k.rows), k.few);
      fits = λ l i. omega (arith, begun_few k.accept k.layers b l i, get_or-replicate {A = ℕ} 120 l 2 0 (omega (arith, k.few)));
    }

pub returns : goal.returns
returns c =
    let k = known c.args.of in
    let none : length c.args.of.lens.now ≤ enumerate_count c.loop-g.g-iterator =
    omega (arith, ap length c.in-None.ensures.steps.0.0, rows_left c.args.of.lens.now c.args.of.addrs.now (enumerate_source c.loop-g.g-iterator) _ c.loop-g.invariant.2.0) in
    begun_end refl k.layers k.few (whole none c.loop-g.invariant.2.1) (λ l i. get_or-replicate 120 l 2 0 (omega (arith, k.few))) c.advance-2.ensures
