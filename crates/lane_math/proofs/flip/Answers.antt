-- `lane_math::flip` meets its contract. Assumes nothing.
use Rattle.laws.specs.Signed.{xor_sign}
use Rattle.lane_math.proofs.flip.Goals as goal

pub returns : goal.returns
returns c = xor_sign c.args.a c.args.b c.ranges.a c.ranges.b
