-- `simd::reply` meets its contract. Assumes nothing.
use Rattle.std.proofs.Common.{◌≡◌, length}
use Rattle.simd.specs.Memory.{Answering}
use Rattle.simd.proofs.reply.Given as goal

abbrev pub invariant-loop-k : goal.invariant-loop-k
invariant-loop-k l = (length l.work ≡ length l.initial.work) × Answering l.w l.check l.at l.t l.ready l.initial.work l.k l.work
