-- `ldpc_lists::Checks::put_met` meets its contract. Assumes nothing.
use Rattle.std.specs.Slice.Iter.{iter_rest}
use Rattle.std.specs.Iterator.Adapters.{rev_source}
use Rattle.ldpc_edges.specs.Code.{met}
use Rattle.ldpc_lists.specs.Build.{as_lists}
use Rattle.ldpc_lists.proofs.Loops.{Filling}
use Rattle.ldpc_lists.proofs.Checks.put_met.Given as goal

abbrev pub invariant-loop-a : goal.invariant-loop-a
invariant-loop-a l =
    Filling l.self.count (met l.self.count l.self.q l.m l.j (iter_rest (rev_source l.a-iterator))) (met l.self.count l.self.q l.m l.j l.row)
    (as_lists l.initial.starts l.initial.rows) (as_lists l.starts l.rows)
