-- `ldpc_lists::put_rows` meets its contract. Assumes nothing.
use Rattle.std.specs.Iterator.Adapters.{rev_source}
use Rattle.ldpc_shape.specs.Shape.{rows_of}
use Rattle.ldpc_edges.specs.Code.{of_rows}
use Rattle.ldpc_rows.proofs.Edges.{left_edges}
use Rattle.ldpc_lists.specs.Build.{as_lists}
use Rattle.ldpc_lists.proofs.Loops.{Filling}
use Rattle.ldpc_lists.proofs.put_rows.Given as goal

abbrev pub invariant-loop-row : goal.invariant-loop-row
invariant-loop-row l =
    Filling l.of.sizes.p (left_edges l.of.sizes.p l.of.sizes.q (rev_source l.row-iterator)) (of_rows l.of.sizes.p l.of.sizes.q 0 (rows_of l.of.lens.now l.of.addrs.now))
    (as_lists l.initial.starts l.initial.rows) (as_lists l.starts l.rows)
