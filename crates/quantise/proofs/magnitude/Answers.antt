-- `quantise::magnitude` meets its contract: `size_of` in each of the three ranges.
-- Assumes nothing.
use Rattle.std.proofs.Common.{arith, lit<}
use Rattle.quantise.proofs.Sizes.{size_small, size_large, size_middle, size_below}
use Rattle.quantise.proofs.magnitude.Goals as goal

pub returns-then-bits-lt1056964608 : goal.returns-then-bits-lt1056964608
returns-then-bits-lt1056964608 c = (size_small c.args.bits c.if-bits-lt1056964608.true, lit< tt)

pub returns-then-bits-gt1123942400 : goal.returns-then-bits-gt1123942400
returns-then-bits-gt1123942400 c = (size_large c.args.bits (omega arith), lit< tt)

pub returns : goal.returns
returns c = (
  size_middle c.args.bits c.if-bits-lt1056964608.false c.if-bits-gt1123942400.false,
  size_below c.args.bits c.if-bits-lt1056964608.false c.if-bits-gt1123942400.false,
)
