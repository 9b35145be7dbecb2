use Rattle.std.proofs.Common.{rules, get_or, pos}
use Rattle.laws.specs.Signed.{plain}
use Rattle.fixed_lanes.specs.Load.{load_start, load_again}
use Rattle.fixed_lanes.proofs.load.Goals as goal

pub loop-u-init : goal.loop-u-init
loop-u-init c = load_start c.args.lanes c.args.lane c.args.soft.now c.args.work.now

pub loop-u-preserved : goal.loop-u-preserved
loop-u-preserved c = load_again c.loop-u.invariant (plain (get_or c.args.soft.now c.loop-u.u (pos 0)) (search rules)) c.place.ensures
