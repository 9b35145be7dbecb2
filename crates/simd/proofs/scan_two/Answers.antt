use Rattle.std.proofs.Common.{arith, refl, ◌+◌}
use Rattle.iteration.specs.Lists.{var}
use Rattle.simd.specs.Pass.{scan_again}
use Rattle.simd.proofs.Start.{start}
use Rattle.simd.proofs.scan_two.Goals as goal

pub loop-k-init : goal.loop-k-init
loop-k-init c =
    let check = c.args.check in (
      refl,
      refl,
      start (var check.rows.now) check.s check.n check.lanes c.args.at c.args.work.now c.args.t.now,
      start (var check.rows.now) check.s check.n check.lanes (c.args.at + 16) c.args.work.now c.args.u.now,
    )

pub loop-k-preserved : goal.loop-k-preserved
loop-k-preserved c = (
  omega (arith, c.store.auto, c.loop-k.invariant.0),
  omega (arith, c.store-in-loop-k.auto, c.loop-k.invariant.1),
  scan_again c.loop-k.invariant.2 c.variable-v.ensures c.load-lv.ensures c.load-rv.ensures c.scan-one.ensures c.store.ensures,
  scan_again c.loop-k.invariant.3 c.variable-v.ensures c.load-lw.ensures c.load-rw.ensures c.scan-two.ensures
      c.store-in-loop-k.ensures,
)
