-- `decoder_words::tally` meets its contract. The loop's invariant: the sums over the first w words.
-- Assumes nothing.
use Rattle.decoder_words.specs.Tallying.{Tallying}
use Rattle.decoder_words.proofs.tally.Given as goal

abbrev pub invariant-loop-w : goal.invariant-loop-w
invariant-loop-w l = Tallying l.records l.w l.given l.kept l.lost l.doubtful
