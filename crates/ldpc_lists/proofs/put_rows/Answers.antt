use Rattle.std.proofs.Common.{ap, ◌∙◌, arith, ◌+◌}
use Rattle.std.specs.Iterator.Adapters.{rev_source}
use Rattle.ldpc_shape.proofs.Accepted.{table_bounded}
use Rattle.ldpc_edges.proofs.Inside.{bits_inside}
use Rattle.ldpc_rows.proofs.Edges.{edges_start, edges_last, edges_none}
use Rattle.ldpc_lists.specs.Build.{as_lists}
use Rattle.ldpc_lists.proofs.Loops.{fill_start, fill_end, fill_room, fill_next}
use Rattle.ldpc_lists.proofs.put_rows.Goals as goal

pub overflow_cast-checks : goal.overflow_cast-checks
overflow_cast-checks c = omega (arith, table_bounded c.args.of)

pub overflow_cast-checks-2 : goal.overflow_cast-checks-2
overflow_cast-checks-2 c = omega (arith, table_bounded c.args.of)

pub invariant_of-checks : goal.invariant_of-checks
invariant_of-checks c = let b = table_bounded c.args.of in record { some = b.p_pos; within = omega (arith, b); turns = b.q_pos; few = b.q_le }

pub loop-row-init : goal.loop-row-init
loop-row-init c =
    let n = c.from.ensures in
    fill_start c.args.of.sizes.p _ _ (as_lists c.args.starts.now c.args.rows.now)
    (edges_start c.args.of.sizes.p c.args.of.sizes.q (rev_source c.into_iter-row-iterator.result) c.from.result c.args.of.lens.now c.args.of.addrs.now
    (ap rev_source c.into_iter-row-iterator.ensures.into_iter_gives ∙ c.rev-row-items.ensures.source) n.0 n.1 n.2)
    c.requires

pub put_row-requires : goal.put_row-requires
put_row-requires c =
    fill_room c.args.of.sizes.p _ _ (as_lists c.args.starts.now c.args.rows.now) (as_lists c.loop-row.starts c.loop-row.rows) c.loop-row.invariant _ _
    (edges_last c.args.of.sizes.p c.args.of.sizes.q (rev_source c.loop-row.row-iterator) (rev_source c.next.new.self) c.in-Some.row c.in-Some.ensures.steps)

pub loop-row-preserved : goal.loop-row-preserved
loop-row-preserved c =
    fill_next c.args.of.sizes.p _ _ (as_lists c.args.starts.now c.args.rows.now) (as_lists c.loop-row.starts c.loop-row.rows) c.loop-row.invariant _ _
    (edges_last c.args.of.sizes.p c.args.of.sizes.q (rev_source c.loop-row.row-iterator) (rev_source c.next.new.self) c.in-Some.row c.in-Some.ensures.steps)
    (c.in-Some.row.first + 374) (as_lists c.put_row.new.starts c.put_row.new.rows)
    (bits_inside c.args.of.sizes.p c.args.of.sizes.q (c.in-Some.row.first + 374) 374 c.in-Some.row.first 0 c.in-Some.row.addrs.now (table_bounded c.args.of).p_pos (omega arith)) c.put_row.ensures

pub returns : goal.returns
returns c =
    fill_end c.args.of.sizes.p _ _ (as_lists c.args.starts.now c.args.rows.now) (as_lists c.loop-row.starts c.loop-row.rows)
    (edges_none c.args.of.sizes.p c.args.of.sizes.q (rev_source c.loop-row.row-iterator) c.in-None.ensures.steps.0) c.loop-row.invariant
