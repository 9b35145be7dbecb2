-- The loop's invariant: the bytes so far are copied, and those behind stand as they were.
use Rattle.std.proofs.Common.{◌≡◌, take, drop}
use Rattle.ldpc_encode.proofs.copy.Given as goal

abbrev pub invariant-loop-i : goal.invariant-loop-i
invariant-loop-i l = (take l.i l.out ≡ take l.i l.w) × (drop l.i l.out ≡ drop l.i l.initial.out)
