use Rattle.std.proofs.Common.{arith}
use Rattle.bch_locator.proofs.Filling.{products_end}
use Rattle.bch_locator.proofs.times.Goals as goal

pub returns : goal.returns
returns c = products_end _ _ _ c.loop-i.i (omega arith) c.loop-i.invariant
