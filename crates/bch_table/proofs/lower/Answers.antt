-- `bch_table::lower` meets its contract: the table's rule.
-- Assumes nothing.
use Rattle.std.proofs.Common.{arith}
use Rattle.bch_table.proofs.Registers.{lower_at}
use Rattle.bch_table.proofs.lower.Goals as goal

pub returns : goal.returns
returns c = rw c.from.ensures (lower_at c.args.byte _ (omega arith))
