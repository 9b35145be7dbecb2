-- `fixed_lanes::place` meets its contract. Assumes nothing.
use Rattle.std.proofs.Common.{sym, subst, ◌+◌, ◌*◌, set, ℤ}
use Rattle.laws.specs.Signed.{plain}
use Rattle.fixed_lanes.specs.Place.{Placed, placed}
use Rattle.fixed_lanes.proofs.place.Goals as goal

pub returns : goal.returns
returns c =
    subst
    (λ (z : ℤ). Placed c.args.lanes c.args.lane c.args.u c.args.x c.args.work.now
    (set c.args.work.now (c.args.u * c.args.lanes + c.args.lane) z)) (sym (plain c.args.x c.ranges.x))
    (placed c.args.lanes c.args.lane c.args.u c.args.x c.args.work.now c.requires.0 c.requires.1)
