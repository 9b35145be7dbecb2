use Rattle.std.proofs.Common.{length}
use Rattle.fixed_lanes.specs.Part.{part_start, part_again}
use Rattle.fixed_lanes.proofs.Block.clear_part.Goals as goal

pub loop-k-init : goal.loop-k-init
loop-k-init c = part_start c.args.self.u (length c.args.self.fresh.now) c.args.at c.args.w c.args.q.keeps c.args.work.now

pub loop-k-preserved : goal.loop-k-preserved
loop-k-preserved c = part_again c.loop-k.invariant c.requires.w_bound.1 c.load-x.ensures c.blank.ensures c.store.ensures
