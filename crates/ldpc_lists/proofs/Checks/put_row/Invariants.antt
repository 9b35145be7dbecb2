-- `ldpc_lists::Checks::put_row` meets its contract. Assumes nothing.
use Rattle.ldpc_edges.specs.Code.{of_bits}
use Rattle.ldpc_lists.specs.Build.{as_lists}
use Rattle.ldpc_lists.proofs.Loops.{Filling}
use Rattle.ldpc_lists.proofs.Checks.put_row.Given as goal

abbrev pub invariant-loop-j : goal.invariant-loop-j
invariant-loop-j l =
    Filling l.self.count (of_bits l.self.count l.self.q l.j l.row.first 0 l.row.addrs.now) (of_bits l.self.count l.self.q 374 l.row.first 0 l.row.addrs.now)
    (as_lists l.initial.starts l.initial.rows) (as_lists l.starts l.rows)
