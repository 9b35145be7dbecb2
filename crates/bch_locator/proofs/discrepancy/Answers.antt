use Rattle.bch_locator.proofs.Steps.{total_none, total_more}
use Rattle.bch_locator.proofs.discrepancy.Goals as goal

pub loop-i-init : goal.loop-i-init
loop-i-init c = total_none _ _ _

pub loop-i-preserved : goal.loop-i-preserved
loop-i-preserved c = total_more _ _ _ c.loop-i.i _ _ c.loop-i.invariant c.mul-d.ensures
