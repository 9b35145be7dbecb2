-- The loop's invariant: the digits so far spell the value.
use Rattle.std.proofs.Common.{◌++◌, length}
use Rattle.laws.specs.Definitions.{decimal}
use Rattle.report_form.proofs.Spell.{Spelled}
use Rattle.report_form.proofs.read_digits.Given as goal

abbrev pub invariant-loop-digit : goal.invariant-loop-digit
invariant-loop-digit l = Spelled (decimal l.first ++ l.text) l.value l.rest

abbrev pub decreases-loop-digit : goal.decreases-loop-digit
decreases-loop-digit l = length l.rest
