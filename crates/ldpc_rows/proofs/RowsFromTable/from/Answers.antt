use Rattle.std.proofs.Common.{arith}
use Rattle.ldpc_shape.proofs.Accepted.{table_rows}
use Rattle.ldpc_rows.proofs.RowsFromTable.from.Goals as goal

pub invariant_of-result : goal.invariant_of-result
invariant_of-result c = let r = table_rows c.args.of in record { within = omega (arith, r.0); whole = r.1 }
