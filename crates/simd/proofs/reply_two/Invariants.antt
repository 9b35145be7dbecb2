-- `simd::reply_two` meets its contract. Assumes nothing.
use Rattle.std.proofs.Common.{◌≡◌, length}
use Rattle.simd.specs.Memory.{AnsweringTwo}
use Rattle.simd.proofs.reply_two.Given as goal

abbrev pub invariant-loop-k : goal.invariant-loop-k
invariant-loop-k l =
    (length l.work ≡ length l.initial.work) × AnsweringTwo l.check l.at l.t l.one l.u l.two l.initial.work l.k l.work
