-- `bch_remainder::pack_eight` meets its contract: the product's top byte.
-- Assumes nothing.
use Rattle.std.proofs.Common.{rules}
use Rattle.bch_remainder.proofs.Eight.{eight_packed}
use Rattle.bch_remainder.proofs.pack_eight.Goals as goal

pub returns : goal.returns
returns c = rw c.from_le_bytes.ensures (eight_packed c.args.bytes (search rules) (search rules))
