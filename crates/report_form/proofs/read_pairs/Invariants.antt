-- The loop's invariant: the pairs so far, and the least position that may come.
use Rattle.std.proofs.Common.{length}
use Rattle.report_form.proofs.Pairs.{PairsSoFar}
use Rattle.report_form.proofs.read_pairs.Given as goal

abbrev pub invariant-loop : goal.invariant-loop
invariant-loop l = PairsSoFar (length l.initial.word) l.initial.word l.least l.counter l.word l.text l.rest
