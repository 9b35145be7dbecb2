-- `bch_table::upper` meets its contract: the second table's rule.
-- Assumes nothing.
use Rattle.std.proofs.Common.{arith}
use Rattle.bch_table.proofs.Registers.{upper_at}
use Rattle.bch_table.proofs.upper.Goals as goal

pub returns : goal.returns
returns c = rw c.from.ensures (upper_at c.args.byte _ (omega arith))
