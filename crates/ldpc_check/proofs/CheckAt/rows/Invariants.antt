-- `ldpc_check::CheckAt::rows` meets its contract. Assumes nothing.
use Rattle.std.proofs.Common.{◌≡◌, ◌≤◌, ◌++◌, length, take, drop}
use Rattle.ldpc_check.specs.Found.{all_of}
use Rattle.ldpc_check.proofs.Loops.{rest_of}
use Rattle.ldpc_check.proofs.CheckAt.rows.Given as goal

abbrev pub invariant-loop-row : goal.invariant-loop-row
invariant-loop-row l = record {
  below : l.n ≤ length l.out;
  all : all_of l.self.q l.self.c l.of.lens.now l.of.addrs.now ≡ take l.n l.out ++ rest_of l.self.q l.self.c l.row-iterator;
  kept : drop l.n l.out ≡ drop l.n l.initial.out;
}
