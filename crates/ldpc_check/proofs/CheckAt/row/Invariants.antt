-- `ldpc_check::CheckAt::row` meets its contract. Assumes nothing.
use Rattle.std.specs.Slice.Iter.{iter_rest}
use Rattle.std.specs.Iterator.Adapters.{rev_source}
use Rattle.ldpc_check.proofs.Loops.{Gathered}
use Rattle.ldpc_check.proofs.CheckAt.row.Given as goal

abbrev pub invariant-loop-a : goal.invariant-loop-a
invariant-loop-a l = Gathered l.self.q l.self.c l.row.first l.row.addrs.now (iter_rest (rev_source l.a-iterator)) l.initial.out l.out l.n
