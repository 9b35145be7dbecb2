use Rattle.std.proofs.Common.{length}
use Rattle.fixed_lanes.specs.Clear.{clear_start, clear_again}
use Rattle.fixed_lanes.proofs.Block.clear_rows.Goals as goal

pub loop-k-init : goal.loop-k-init
loop-k-init c = clear_start c.args.self.u (length c.args.self.fresh.now) c.args.self.fresh.now c.args.work.now

pub loop-k-preserved : goal.loop-k-preserved
loop-k-preserved c = clear_again c.loop-k.invariant c.clear_row.ensures
