-- `fixed_lanes::keep` meets its contract. Assumes nothing.
use Rattle.fixed_lanes.specs.Part.{and_keep}
use Rattle.fixed_lanes.proofs.keep.Goals as goal

pub returns : goal.returns
returns c = and_keep c.args.x c.args.k c.ranges.x c.requires
