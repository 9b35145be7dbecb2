use Rattle.std.proofs.Common.{arith, refl}
use Rattle.iteration.specs.Lists.{var}
use Rattle.simd.specs.Pass.{replied_start, replied_again}
use Rattle.simd.proofs.reply.Goals as goal

pub loop-k-init : goal.loop-k-init
loop-k-init c =
    let check = c.args.check in
    let ready = c.args.ready in (
      refl,
      replied_start c.args.w (var check.rows.now) check.s check.n check.lanes c.args.at c.args.t.now ready.least ready.m1
          ready.m2 c.args.work.now,
    )

pub loop-k-preserved : goal.loop-k-preserved
loop-k-preserved c = (
  omega (arith, c.store_lanes-in-loop-k.auto, c.store_lanes.auto, c.loop-k.invariant.0),
  replied_again c.requires.1.1.few c.loop-k.invariant.1 c.variable-v.ensures c.load.ensures c.reply-answer.ensures
      c.store_lanes.ensures c.store_lanes-in-loop-k.ensures,
)
