-- `ldpc_encode::xor_into` meets its contract. Assumes nothing.
use Rattle.std.proofs.Common.{◌≡◌, ◌++◌, take, drop}
use Rattle.ldpc_encode.specs.Sums.{xors}
use Rattle.ldpc_encode.proofs.xor_into.Given as goal

abbrev pub invariant-loop-i : goal.invariant-loop-i
invariant-loop-i l = take l.i l.x ++ xors (drop l.i l.x) (drop l.i l.w) ≡ xors l.initial.x l.w
