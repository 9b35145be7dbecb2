use Rattle.fixed_layered.specs.Layers.{row_part}
use Rattle.fixed_layered.specs.Rows.{settled_row_again}
use Rattle.fixed_layered.proofs.RunRow.settle_row.Goals as goal

pub settle_check-requires-clause-edges : goal.settle_check-requires-clause-edges
settle_check-requires-clause-edges c =
    let check = c.check-s.ensures in
    let w = row_part c.args.self.run.in_run c.args.self.grouped c.loop-x-test.true check.start check.ends c.min-end.ensures in
    (w.ends, w.in_row)

pub loop-x-preserved : goal.loop-x-preserved
loop-x-preserved c =
    let check = c.check-s.ensures in
    let w = row_part c.args.self.run.in_run c.args.self.grouped c.loop-x-test.true check.start check.ends c.min-end.ensures in
    settled_row_again c.args.self.grouped c.loop-x-test.true w.up w.most w.least w.all w.start_is c.loop-x.invariant c.settle_check.ensures
