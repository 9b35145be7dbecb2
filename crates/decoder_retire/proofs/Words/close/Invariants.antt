-- `decoder_retire::Words::close` meets its contract. The loop's invariant: the words of the lanes below l are written.
-- Assumes nothing.
use Rattle.decoder_words.specs.Book.{book}
use Rattle.decoder_words.specs.Given.{code_by}
use Rattle.decoder_assign.specs.Taken.{held_in, iters_in}
use Rattle.decoder_lanes.specs.Lane.{lane_word}
use Rattle.decoder_retire.specs.Close.{Closes}
use Rattle.decoder_retire.proofs.Words.close.Given as goal

abbrev pub invariant-loop-l : goal.invariant-loop-l
invariant-loop-l l =
    Closes (code_by l.self.plan l.self.lists.now) l.self.plan (held_in l.self.taken) (iters_in l.self.taken) (lane_word l.self.plan l.self.work.now)
    (book l.initial.records l.initial.out) l.l (book l.records l.out)
