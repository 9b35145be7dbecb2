use Rattle.std.proofs.Common.{arith}
use Rattle.bch_locator.proofs.Powers.{inverse_start, inverse_again, inverse_end}
use Rattle.bch_locator.proofs.inverse.Goals as goal

pub loop-init : goal.loop-init
loop-init c = inverse_start _ _ c.mul-x.ensures

pub loop-preserved : goal.loop-preserved
loop-preserved c = inverse_again c.loop.r c.loop.x c.loop.counter _ _ _ (omega arith) c.loop.invariant c.mul-r.ensures c.mul-x-in-loop.ensures

pub returns : goal.returns
returns c = inverse_end c.loop.r c.loop.x c.loop.counter _ (omega arith) c.loop.invariant
