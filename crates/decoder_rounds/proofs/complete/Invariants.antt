-- `decoder_rounds::complete` meets its contract. The loop's invariant: memory and columns stand for the schedule's state, and what is left to do of it
-- is the run's.
-- Assumes nothing.
use Rattle.std.proofs.Common.{◌≡◌, ◌-◌, length}
use Rattle.decoder_words.specs.Book.{book}
use Rattle.decoder_words.specs.Given.{code_by}
use Rattle.decoder_words.specs.Run.{iterate_of}
use Rattle.decoder_assign.specs.Taken.{held_in, iters_in}
use Rattle.decoder_lanes.specs.Lane.{lane_word}
use Rattle.decoder_rounds.specs.Rounds.{Goes}
use Rattle.decoder_rounds.proofs.complete.Given as goal

abbrev pub invariant-loop-round : goal.invariant-loop-round
invariant-loop-round l =
    (length l.work ≡ length l.initial.work)
    × Goes (code_by l.run.plan l.run.lists.now) (iterate_of l.run.plan (code_by l.run.plan l.run.lists.now)) l.run.plan l.run.soft.now l.order (book l.initial.records l.initial.out)
    (held_in l.at.taken) (iters_in l.at.taken) (lane_word l.run.plan l.work) l.at.next l.rounds (book l.records l.out)

abbrev pub decreases-loop-round : goal.decreases-loop-round
decreases-loop-round l = l.run.plan.limits.rounds - l.rounds
