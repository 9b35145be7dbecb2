-- `ldpc_encode::sum_up` meets its contract. Assumes nothing.
use Rattle.std.proofs.Common.{◌≡◌, ◌++◌, take, drop}
use Rattle.ldpc_edges.specs.Code.{sums}
use Rattle.ldpc_encode.proofs.sum_up.Given as goal

abbrev pub invariant-loop-c : goal.invariant-loop-c
invariant-loop-c l = take l.c l.p ++ sums l.b (drop l.c l.p) ≡ sums 0 l.initial.p
