use Rattle.std.proofs.Common.{rules, arith, ap, length}
use Rattle.laws.specs.Signed.{plain}
use Rattle.iteration.specs.Once.{shared_in}
use Rattle.fixed_layered.specs.RunMemory.{place_first, place_next, place_room}
use Rattle.fixed_layered.specs.Checks.{checks_start, checks_again}
use Rattle.fixed_layered.proofs.CheckRun.shared_run.Goals as goal

pub loop-x-init : goal.loop-x-init
loop-x-init c =
    let t = c.args.self.turns in (
      search rules,
      search rules,
      place_first t.code.p t.code.lists.now t.first t.q,
      checks_start (shared_in c.args.self.flags.now) t.code.n t.code.p t.lanes t.offset t.code.lists.now t.first t.q c.args.work.now,
    )

pub check_shared-requires-clause-in_bounds : goal.check_shared-requires-clause-in_bounds
check_shared-requires-clause-in_bounds c =
    let check = c.check-check.ensures in
    let room = place_room c.loop-x.x c.loop-x.place _ _ c.args.self.in_run c.loop-x-test.true check.start check.ends c.loop-x.invariant.2 in
    (omega (arith, c.loop-x.invariant.0), omega (arith, c.loop-x.invariant.1), omega (arith, room, ap length check.rows))

pub overflow_add-place : goal.overflow_add-place
overflow_add-place c =
    let check = c.check-check.ensures in
    let room = place_room c.loop-x.x c.loop-x.place _ _ c.args.self.in_run c.loop-x-test.true check.start check.ends c.loop-x.invariant.2 in
    record { fits = omega (arith, room, c.args.self.in_run.few_edges) }

pub loop-x-preserved : goal.loop-x-preserved
loop-x-preserved c =
    let t = c.args.self.turns in
    let check = c.check-check.ensures in
    let inside = t.inside c.loop-x.x c.loop-x-test.true in
    let room = place_room c.loop-x.x c.loop-x.place _ _ c.args.self.in_run c.loop-x-test.true check.start check.ends c.loop-x.invariant.2 in (
      omega (arith, c.loop-x.invariant.0),
      omega (arith, c.loop-x.invariant.1),
      place_next t.code.p t.code.lists.now t.first t.q c.loop-x.x c.loop-x.place _ _ inside check.start check.ends c.loop-x.invariant.2,
      checks_again inside check.start check.ends c.loop-x.invariant.2 room c.loop-x.invariant.3
          (rw (check.rows, check.bits, check.lanes, plain t.offset (search rules)) at c.check_shared.ensures),
    )
