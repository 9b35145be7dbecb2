use Rattle.std.proofs.Common.{rules, arith, ap, ◌∙◌, ℕ, ℤ, List, ◌+◌, ◌*◌, ◌-◌, ◌<◌, ◌≤◌, ◌≡◌, length, take, drop, slice_index_or, length-take, length-drop}
use Rattle.std.proofs.lemmas.List.{get_or-take, get_or-drop}
use Rattle.lane16.specs.ColumnLaws.{row_ends}
use Rattle.iteration.specs.Lists.{var, rows_in, edges_in}
use Rattle.fixed_layered.specs.Sums.{row_settled}
use Rattle.fixed_layered.specs.Rows.{sums_room, settled_check_again}
use Rattle.fixed_layered.proofs.RunRow.settle_check.Goals as goal

-- number k of those lent, from s on
lent : (s m : ℕ) {k : ℕ} (rows all : List ℕ) → k < length (take m (drop s rows)) → rows ≡ all → slice_index_or (take m (drop s rows)) k 0 ≡ var all (s + k)
lent s m {k} rows all h e = get_or-take m (drop s rows) k 0 (omega (arith, length-take {A = ℕ})) ∙ get_or-drop s rows k 0 ∙ ap (λ (l : List ℕ). var l (s + k)) e

pub slice_bounds-settle-end-in-loop-v : goal.slice_bounds-settle-end-in-loop-v
slice_bounds-settle-end-in-loop-v c =
    let t = c.args.self.run.turns in
    let v = slice_index_or (take (c.args.s + c.args.d - c.args.s) (drop c.args.s t.code.rows.now)) c.loop-v.v-index 0 in
    let w = c.requires.edges.1 c.loop-v.v-index (omega (arith, c.loop-v-test.true, length-take {A = ℕ})) in
    let h : (v - c.args.self.base) * t.lanes + t.lanes ≤ length c.args.sums.now =
    sums_room _ _ _ _ _ (lent _ _ _ _ c.loop-v-test.true t.code.second) w.0 w.1 c.requires.room.1 in search rules

pub loop-v-preserved : goal.loop-v-preserved
loop-v-preserved c =
    let t = c.args.self.run.turns in
    let k = c.loop-v.v-index in
    let v = slice_index_or (take (c.args.s + c.args.d - c.args.s) (drop c.args.s t.code.rows.now)) k 0 in
    let below : k < c.args.d = omega (arith, c.loop-v-test.true, length-take {A = ℕ}) in
    let w = c.requires.edges.1 k below in
    let is : v ≡ var (rows_in t.code.p t.code.lists.now) (c.args.s + k) = lent _ _ _ _ c.loop-v-test.true t.code.second in
    let there : v * t.lanes + t.lanes ≤ (t.code.n + 3 * edges_in t.code.p t.code.lists.now) * t.lanes =
    row_ends v (t.code.n + 3 * edges_in t.code.p t.code.lists.now) t.lanes (omega (arith, is, t.code.right.variables (c.args.s + k) (omega (arith, c.requires.edges.0, below)))) in
    settled_check_again is c.loop-v.invariant
    (row_settled _ _ (omega (arith, there, c.requires.room.0)) (sums_room _ _ _ _ _ is w.0 w.1 c.requires.room.1) (omega arith) (omega arith)
    (omega (arith, c.settle.auto.values, length-take {A = ℤ}, length-drop {A = ℤ}, there, c.requires.room.0)) c.settle.ensures)
