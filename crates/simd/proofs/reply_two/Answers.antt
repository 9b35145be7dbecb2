use Rattle.std.proofs.Common.{arith, refl}
use Rattle.iteration.specs.Lists.{var}
use Rattle.simd.specs.Pass.{two_start, two_again}
use Rattle.simd.proofs.reply_two.Goals as goal

pub loop-k-init : goal.loop-k-init
loop-k-init c =
    let check = c.args.check in
    let one = c.args.one in
    let two = c.args.two in (
      refl,
      two_start (var check.rows.now) check.s check.n check.lanes c.args.at c.args.t.now one.least one.m1 one.m2 c.args.u.now
          two.least two.m1 two.m2 c.args.work.now,
    )

pub loop-k-preserved : goal.loop-k-preserved
loop-k-preserved c = (
  omega (arith, c.store.auto.work, c.store-in-loop-k.auto.work, c.store-in-loop-k-2.auto.work, c.loop-k.invariant.0),
  two_again c.requires.1 c.loop-k.invariant.1 c.variable-v.ensures c.load.ensures c.reply-p.ensures
      c.load-in-loop-k.ensures c.reply-q.ensures c.store.ensures c.store-in-loop-k.ensures c.store-in-loop-k-2.ensures
      c.store-in-loop-k-3.ensures,
)
