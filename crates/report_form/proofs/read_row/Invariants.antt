-- The loop's invariant: the addresses so far stand behind those of the rows before.
use Rattle.report_form.proofs.RowLists.{RowSoFar}
use Rattle.report_form.proofs.read_row.Given as goal

abbrev pub invariant-loop-count : goal.invariant-loop-count
invariant-loop-count l = RowSoFar l.initial.addresses.items l.count l.addresses.items l.initial.rest l.rest
