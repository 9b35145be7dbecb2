use Rattle.std.proofs.Common.{replicate}
use Rattle.bch_table.proofs.Product.{sum_again, sum_end}
use Rattle.bch_table.proofs.next_digit.Goals as goal

pub loop-i-preserved : goal.loop-i-preserved
loop-i-preserved c = sum_again c.args.digit c.args.a c.args.g (replicate 193 0) c.loop-i.out c.loop-i.below c.loop-i.i c.requires c.loop-i.invariant c.loop-i-test.true

pub returns : goal.returns
returns c = sum_end c.args.digit c.args.a c.args.g (replicate 193 0) c.loop-i.out c.loop-i.below c.loop-i.i c.loop-i.invariant c.loop-i-test.false
