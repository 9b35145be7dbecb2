use Rattle.bch_locator.proofs.Search.{lanes_none, lanes_more}
use Rattle.bch_locator.proofs.lane_sum.Goals as goal

pub loop-x-init : goal.loop-x-init
loop-x-init c = lanes_none _

pub loop-x-preserved : goal.loop-x-preserved
loop-x-preserved c = lanes_more _ c.loop-x.x-index c.loop-x.r c.loop-x.invariant
