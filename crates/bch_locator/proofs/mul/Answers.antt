use Rattle.std.proofs.Common.{arith, refl}
use Rattle.bch_locator.proofs.Product.{product_start, product_next, product_fits, product_end}
use Rattle.bch_locator.proofs.mul.Goals as goal

pub loop-i-init : goal.loop-i-init
loop-i-init c = product_start c.args.a c.args.b _ refl

pub loop-i-preserved : goal.loop-i-preserved
loop-i-preserved c = rw c.from.ensures (rw c.from-in-loop-i.ensures (product_next c.args.a c.args.b _ c.loop-i.i (omega arith) (omega arith) (omega arith) c.loop-i.invariant))

pub fold-requires : goal.fold-requires
fold-requires c = product_fits c.args.a c.args.b _ c.loop-i.i (omega arith) c.loop-i.invariant

pub returns : goal.returns
returns c = product_end c.args.a c.args.b _ c.loop-i.i _ (omega arith) (omega arith) c.loop-i-test.false c.loop-i.invariant c.fold.ensures
