-- `simd_layered::Shared::answer` meets its contract. Assumes nothing.
use Rattle.std.proofs.Common.{◌≡◌, length}
use Rattle.iteration.specs.Once.{shared_in}
use Rattle.iteration.specs.Lists.{var}
use Rattle.simd_layered.specs.Checked.{Sent}
use Rattle.simd_layered.proofs.Shared.answer.Given as goal

abbrev pub invariant-loop-k : goal.invariant-loop-k
invariant-loop-k l =
    (length l.work ≡ length l.initial.work)
    × Sent (shared_in l.self.flags.now) l.w (var l.rows) l.s l.n (length l.rows) l.self.place l.lanes l.at l.t l.ready.least l.ready.m1
    l.ready.m2 l.initial.work l.k l.work
