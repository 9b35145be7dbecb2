use Rattle.std.proofs.Common.{arith, refl, rules}
use Rattle.laws.specs.Signed.{plain}
use Rattle.simd.specs.WordsLaws.{node_to}
use Rattle.fixed.specs.Sequential.{turn_start, turn_again}
use Rattle.fixed.proofs.checks.Goals as goal

pub loop-x-init : goal.loop-x-init
loop-x-init c = (refl, refl, refl, turn_start _ _ _ _ _ _ _ _)

pub loop-x-preserved : goal.loop-x-preserved
loop-x-preserved c =
    let check = c.check.ensures in (
      omega (arith, c.loop-x.invariant.0),
      omega (arith, c.loop-x.invariant.1),
      omega (arith, c.loop-x.invariant.2),
      turn_again (c.args.turns.inside c.loop-x.x c.loop-x-test.true) check.start check.ends c.loop-x.invariant.3
          (node_to (plain c.args.turns.offset (search rules)) (rw (check.rows, check.bits, check.lanes) at c.check_node.ensures)),
    )
