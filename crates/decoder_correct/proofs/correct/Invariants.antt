-- `decoder_correct::correct` meets its contract. The loop's invariant: the words below w are settled, the others as they were.
-- Assumes nothing.
use Rattle.decoder_words.specs.Book.{book}
use Rattle.decoder_correct.specs.Settle.{Settling}
use Rattle.decoder_correct.proofs.correct.Given as goal

abbrev pub invariant-loop-w : goal.invariant-loop-w
invariant-loop-w l = Settling l.plan l.soft (book l.initial.records l.initial.out) l.w (book l.records l.out)
