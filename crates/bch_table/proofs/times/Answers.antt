use Rattle.std.proofs.Common.{refl, replicate}
use Rattle.bch_table.proofs.Product.{times_start, times_again}
use Rattle.bch_table.proofs.times.Goals as goal

pub loop-j-init : goal.loop-j-init
loop-j-init c = times_start c.args.mask c.args.g (replicate 193 0) refl

pub loop-j-preserved : goal.loop-j-preserved
loop-j-preserved c = times_again c.args.mask c.args.g c.loop-j.out c.next_digit-next.result c.loop-j.j c.loop-j.invariant c.loop-j-test.true c.next_digit-next.ensures
