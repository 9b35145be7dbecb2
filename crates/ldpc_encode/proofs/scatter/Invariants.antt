-- `ldpc_encode::scatter` meets its contract. Assumes nothing.
use Rattle.std.proofs.Common.{◌/◌, length}
use Rattle.ldpc_encode.specs.Sums.{Scattered}
use Rattle.ldpc_encode.proofs.scatter.Given as goal

abbrev pub invariant-loop-i : goal.invariant-loop-i
invariant-loop-i l = Scattered l.i (length l.initial.out / 374) l.l l.x l.initial.out l.out
