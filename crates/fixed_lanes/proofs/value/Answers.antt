-- `fixed_lanes::value` meets its contract. Assumes nothing.
use Rattle.std.proofs.Common.{◌+◌, ◌*◌, get_or, pos, rules}
use Rattle.laws.specs.Signed.{plain}
use Rattle.lane16.specs.Column.{column}
use Rattle.fixed_lanes.proofs.value.Goals as goal

pub returns : goal.returns
unfolding column
returns c =
    plain (get_or c.args.work.now (c.args.u * c.args.lanes + c.args.lane) (pos 0)) (search rules)
