use Rattle.std.proofs.Common.{length-set, rules, arith}
use Rattle.bch_locator.proofs.Steps.{mending_start, mending_again, mending_end}
use Rattle.bch_locator.proofs.mend.Goals as goal

pub loop-i-init : goal.loop-i-init
loop-i-init c = (omega arith, mending_start _ _ _ _, search rules)

pub loop-i-preserved : goal.loop-i-preserved
loop-i-preserved c = (omega arith, mending_again _ _ _ _ _ c.loop-i.i _ c.loop-i.invariant.2 (search rules) (search rules) c.loop-i.invariant.1 c.mul.ensures, simp length-set c.loop-i.invariant.2)

pub returns : goal.returns
returns c = mending_end _ _ _ _ _ c.loop-i.i (search rules) c.loop-i.invariant.2 c.loop-i.invariant.1
