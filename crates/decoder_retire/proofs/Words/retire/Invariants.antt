-- `decoder_retire::Words::retire` meets its contract. The loop's invariant: lanes below l have had their turn, as the schedule says.
-- Assumes nothing.
use Rattle.decoder_words.specs.Book.{book}
use Rattle.decoder_words.specs.Given.{code_by}
use Rattle.decoder_assign.specs.Taken.{held_in, iters_in}
use Rattle.decoder_lanes.specs.Lane.{lane_word}
use Rattle.decoder_retire.specs.Retire.{Leaves}
use Rattle.decoder_retire.proofs.Words.retire.Given as goal

abbrev pub invariant-loop-l : goal.invariant-loop-l
invariant-loop-l l =
    Leaves (code_by l.self.plan l.self.lists.now) l.self.plan (lane_word l.self.plan l.self.work.now) (held_in l.self.taken) (iters_in l.self.taken)
    (book l.initial.records l.initial.out) l.l (held_in l.taken) (iters_in l.taken) (book l.records l.out)
