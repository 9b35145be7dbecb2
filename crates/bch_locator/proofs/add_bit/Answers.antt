use Rattle.std.proofs.Common.{rules, arith}
use Rattle.bch_locator.proofs.Filling.{filling_again}
use Rattle.bch_locator.proofs.Horner.{plus_fits, plus_is, added_end}
use Rattle.bch_locator.proofs.add_bit.Goals as goal

pub loop-i-preserved : goal.loop-i-preserved
loop-i-preserved c = filling_again _ _ c.loop-i.i _ c.loop-i.invariant (omega arith) (plus_fits c.args.s c.args.b c.loop-i.i (search rules) (omega arith)) (plus_is c.args.s c.args.b c.loop-i.i)

pub returns : goal.returns
returns c = added_end _ _ _ c.loop-i.i (omega arith) c.loop-i.invariant
