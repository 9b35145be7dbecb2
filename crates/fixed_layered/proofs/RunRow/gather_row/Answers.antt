use Rattle.std.proofs.Common.{arith, false, replicate}
use Rattle.iteration.specs.Lists.{edges_in, code_in}
use Rattle.iteration.specs.Once.{stepped}
use Rattle.fixed_conflicts.specs.Table.{zeros}
use Rattle.fixed_layered.specs.RunMemory.{place_first, place_next, place_room}
use Rattle.fixed_layered.specs.Layers.{row_part}
use Rattle.fixed_layered.specs.Rows.{row_start, row_again, more}
use Rattle.fixed_layered.proofs.RunRow.gather_row.Goals as goal

pub loop-x-init : goal.loop-x-init
loop-x-init c =
    let t = c.args.self.run.turns in (
      place_first t.code.p t.code.lists.now t.first t.q,
      row_start t.code.n (edges_in t.code.p t.code.lists.now) (code_in t.code.p t.code.lists.now) (stepped t.first t.q) c.args.self.base t.lanes c.args.work.now
          (replicate 374 false) c.args.sums.now (zeros 374),
    )

pub overflow_add-place : goal.overflow_add-place
overflow_add-place c =
    let check = c.check-s.ensures in
    let w = row_part c.args.self.run.in_run c.args.self.grouped c.loop-x-test.true check.start check.ends c.min-end.ensures in
    let room = place_room c.loop-x.x c.loop-x.place _ _ c.args.self.run.in_run c.loop-x-test.true check.start check.ends c.loop-x.invariant.0 in
    record { fits = omega (arith, w.least, w.below, room, c.args.self.run.in_run.few_edges) }

pub gather_check-requires-clause-edges : goal.gather_check-requires-clause-edges
gather_check-requires-clause-edges c =
    let check = c.check-s.ensures in
    let w = row_part c.args.self.run.in_run c.args.self.grouped c.loop-x-test.true check.start check.ends c.min-end.ensures in
    let room = place_room c.loop-x.x c.loop-x.place _ _ c.args.self.run.in_run c.loop-x-test.true check.start check.ends c.loop-x.invariant.0 in
    (w.ends, omega (arith, w.least, w.below, room), w.in_row)

pub gather_check-requires-clause-smalls : goal.gather_check-requires-clause-smalls
gather_check-requires-clause-smalls c = λ j k e. more (omega (arith, c.loop-x.invariant.0)) (c.loop-x.invariant.1.small j k e)

pub overflow_add-place-in-loop-x : goal.overflow_add-place-in-loop-x
overflow_add-place-in-loop-x c =
    let check = c.check-s.ensures in
    let room = place_room c.loop-x.x c.loop-x.place _ _ c.args.self.run.in_run c.loop-x-test.true check.start check.ends c.loop-x.invariant.0 in
    record { fits = omega (arith, room, c.args.self.run.in_run.few_edges) }

pub loop-x-preserved : goal.loop-x-preserved
loop-x-preserved c =
    let t = c.args.self.run.turns in
    let check = c.check-s.ensures in
    let w = row_part c.args.self.run.in_run c.args.self.grouped c.loop-x-test.true check.start check.ends c.min-end.ensures in (
      place_next t.code.p t.code.lists.now t.first t.q c.loop-x.x c.loop-x.place _ _ (t.inside c.loop-x.x c.loop-x-test.true) check.start check.ends c.loop-x.invariant.0,
      row_again t.code.n (edges_in t.code.p t.code.lists.now) c.args.work.now c.args.self.grouped c.loop-x-test.true w.up w.most w.least w.all w.start_is c.loop-x.invariant.0
          c.loop-x.invariant.1 c.gather_check.ensures,
    )
