use Rattle.std.proofs.Common.{arith, refl, ◌+◌, ◌*◌, ◌<◌, length}
use Rattle.lane16.specs.Memory.{row_room, value_row}
use Rattle.iteration.specs.Once.{shared_in}
use Rattle.iteration.specs.Lists.{var}
use Rattle.simd_layered.specs.Checked.{sent_start, sent_again}
use Rattle.simd_layered.proofs.Shared.answer.Goals as goal

pub loop-k-init : goal.loop-k-init
loop-k-init c =
    let check = c.args.self.check in
    let ready = c.args.ready in (
      refl,
      sent_start (shared_in c.args.self.flags.now) c.args.w (var c.args.self.check.rows.now) check.s check.n (length c.args.self.check.rows.now)
          c.args.self.place check.lanes c.args.at c.args.t.now ready.least ready.m1 ready.m2 c.args.work.now,
    )

pub store_lanes-requires-in-loop-k-clause-lanes_in_bounds : goal.store_lanes-requires-in-loop-k-clause-lanes_in_bounds
store_lanes-requires-in-loop-k-clause-lanes_in_bounds c =
    let E = length c.args.self.check.rows.now in
    omega (
      arith,
      row_room c.args.self.check.in_rows c.requires.fits (c.args.self.check.n + 2 * E + (c.args.self.place + c.loop-k.k))
          (omega (arith, c.args.self.room)),
      c.loop-k.invariant.0,
    )

pub loop-k-preserved : goal.loop-k-preserved
loop-k-preserved c =
    let check = c.args.self.check in
    let E = length c.args.self.check.rows.now in
    let here : check.s + c.loop-k.k < E = omega (arith, c.args.self.check.in_rows.edges) in
    let place : c.args.self.place + c.loop-k.k < E = omega (arith, c.args.self.room) in (
      omega (
        arith,
        c.store_lanes.auto.work,
        c.store_lanes-in-loop-k.auto.work,
        c.store_lanes-in-loop-k-2.auto.work,
        c.loop-k.invariant.0,
      ),
      sent_again c.requires.w_bound.1.few here (
        λ k l. value_row c.args.self.check.in_rows k (omega (arith, l)),
        (omega (arith, here), omega (arith, place)),
      ) c.loop-k.invariant.1 c.variable-v.ensures c.load-x.ensures
          c.load-old.ensures c.reply-p.ensures c.store_lanes.ensures c.store_lanes-in-loop-k.ensures
          c.store_lanes-in-loop-k-2.ensures c.store_value.ensures,
    )
