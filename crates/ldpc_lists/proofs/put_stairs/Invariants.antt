-- `ldpc_lists::put_stairs` meets its contract. Assumes nothing.
use Rattle.ldpc_edges.specs.Count.{to_stairs}
use Rattle.ldpc_lists.specs.Build.{as_lists}
use Rattle.ldpc_lists.proofs.Loops.{Filling}
use Rattle.ldpc_lists.proofs.put_stairs.Given as goal

abbrev pub invariant-loop-c : goal.invariant-loop-c
invariant-loop-c l = Filling l.checks (to_stairs l.k 0 l.c) (to_stairs l.k 0 l.checks) (as_lists l.initial.starts l.initial.rows) (as_lists l.starts l.rows)
