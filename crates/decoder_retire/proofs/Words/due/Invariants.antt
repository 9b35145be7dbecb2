-- `decoder_retire::Words::due` meets its contract. The loop's invariant: none below l is due. Assumes nothing.
use Rattle.std.proofs.Common.{◌≡◌, false, get_or}
use Rattle.schedule.specs.Lanes.{any_of}
use Rattle.decoder_assign.specs.Taken.{held_in, iters_in}
use Rattle.decoder_retire.specs.Counts.{due_at}
use Rattle.decoder_retire.proofs.Words.due.Given as goal

abbrev pub invariant-loop-l : goal.invariant-loop-l
invariant-loop-l l = any_of (due_at (held_in l.self.taken) (iters_in l.self.taken) (λ k. get_or l.verdict k false) l.self.plan.limits.iterations) l.l ≡ false
