use Rattle.std.proofs.Common.{arith}
use Rattle.report_form.proofs.RowLists.{row_none, row_unended}
use Rattle.report_form.proofs.read_row.Goals as goal

pub returns-in_err-address : goal.returns-in_err-address
returns-in_err-address c = rw c.from_residual-in_err-address.ensures (row_none c.in_ok-rest.ensures c.loop-count.invariant c.in_default.ensures c.in_err-address.ensures)

pub returns-in_err-rest-2 : goal.returns-in_err-rest-2
returns-in_err-rest-2 c = rw c.from_residual-in_err-rest-2.ensures (row_unended c.in_ok-rest.ensures c.loop-count.invariant (omega arith) c.in_err-rest-2.ensures)
