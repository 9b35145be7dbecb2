-- The loop's invariant: the rows so far, one each turn.
use Rattle.std.proofs.Common.{◌≡◌, length}
use Rattle.report_form.proofs.RowLists.{RowsSoFar}
use Rattle.report_form.proofs.read_rows.Given as goal

abbrev pub invariant-loop : goal.invariant-loop
invariant-loop l = RowsSoFar l.lengths.items l.addresses.items l.text l.rest × (length l.lengths.items ≡ l.counter)
