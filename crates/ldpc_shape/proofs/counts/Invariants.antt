use Rattle.std.proofs.Common.{◌≡◌, length, take}
use Rattle.ldpc_shape.specs.Counts.{CountsOf}
use Rattle.ldpc_shape.proofs.counts.Given as goal

abbrev pub invariant-loop-a : goal.invariant-loop-a
invariant-loop-a l = (length l.r ≡ 120) × CountsOf l.r l.q (take l.a-index l.addrs)
