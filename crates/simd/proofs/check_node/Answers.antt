use Rattle.std.proofs.Common.{arith}
use Rattle.laws.specs.Signed.{plain}
use Rattle.lane16.specs.ColumnLaws.{upto_again, upto_end}
use Rattle.simd.specs.WordsLaws.{check_node, node_to}
use Rattle.simd.proofs.check_node.Goals as goal

pub loop-at-preserved : goal.loop-at-preserved
loop-at-preserved c = (
  omega (arith, c.chunk-at.ensures.0.1),
  omega (arith, c.loop-at.invariant.1),
  upto_again c.loop-at.invariant.2 c.chunk-at.ensures.1,
)

pub returns : goal.returns
returns c =
    node_to (plain c.args.offset c.ranges.offset)
    (check_node c.args.check.in_rows (upto_end (omega (arith, c.loop-at-test.false)) c.loop-at.invariant.2))
