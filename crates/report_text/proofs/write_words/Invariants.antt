-- The loop's invariant: the first words' lines are written.
use Rattle.decoder_words.specs.Fields.{first_records}
use Rattle.report_text.specs.Lines.{Writing}
use Rattle.report_text.proofs.write_words.Given as goal

abbrev pub invariant-loop-w : goal.invariant-loop-w
invariant-loop-w l = Writing (first_records l.words l.records) l.initial.out.bytes l.out.bytes l.w
