-- `bch_remainder::spread` meets its contract: computed of every byte.
-- Assumes nothing.
use Rattle.std.proofs.Common.{◌∙◌, arith}
use Rattle.bch_remainder.proofs.Eight.{spread_is}
use Rattle.bch_remainder.proofs.spread.Goals as goal

pub returns : goal.returns
returns c = c.to_le_bytes.ensures ∙ rw c.from.ensures (spread_is c.args.byte (omega arith))
