use Rattle.std.proofs.Common.{arith, rules}
use Rattle.report_form.proofs.RowLists.{rows_room, rows_none}
use Rattle.report_form.proofs.read_rows.Goals as goal

pub read_row-requires : goal.read_row-requires
read_row-requires c = omega (arith, rows_room c.loop.invariant.0)

pub returns-in_err-length : goal.returns-in_err-length
returns-in_err-length c = rw c.from_residual.ensures (rows_none c.loop.invariant.0 (search rules) c.in_err-length.ensures)
