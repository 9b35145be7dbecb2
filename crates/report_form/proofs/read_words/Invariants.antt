-- The loop's invariant: the words so far and their soft values.
use Rattle.report_form.proofs.Words.{WordsSoFar}
use Rattle.report_form.proofs.read_words.Given as goal

abbrev pub invariant-loop-count : goal.invariant-loop-count
invariant-loop-count l = WordsSoFar l.n l.initial.soft l.count l.soft l.text l.rest
