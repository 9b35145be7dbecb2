-- `ldpc_check::insert_bit` meets its contract. Assumes nothing.
use Rattle.std.proofs.Common.{◌-◌, length}
use Rattle.ldpc_check.proofs.Loops.{Inserting}
use Rattle.ldpc_check.proofs.insert_bit.Given as goal

abbrev pub invariant-loop-i : goal.invariant-loop-i
invariant-loop-i l = Inserting l.m (length l.initial.out - 1) l.initial.out l.out l.v l.i
