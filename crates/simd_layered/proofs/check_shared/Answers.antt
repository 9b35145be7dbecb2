use Rattle.std.proofs.Common.{arith, subst, ℤ}
use Rattle.laws.specs.Signed.{plain}
use Rattle.lane16.specs.ColumnLaws.{upto_again, upto_end}
use Rattle.iteration.specs.Once.{shared_in}
use Rattle.simd_layered.specs.Checked.{Checked, checked}
use Rattle.simd_layered.proofs.check_shared.Goals as goal

pub loop-at-preserved : goal.loop-at-preserved
loop-at-preserved c = (
  omega (arith, c.chunk-at.ensures.0.1),
  omega (arith, c.loop-at.invariant.1),
  upto_again c.loop-at.invariant.2 c.chunk-at.ensures.1,
)

pub returns : goal.returns
returns c =
    let check = c.args.check in
    subst
    (λ (o : ℤ). Checked (shared_in c.args.flags.now) check.rows.now check.s check.d check.n check.lanes c.args.place o
    c.args.work.now c.loop-at.work) (plain c.args.offset c.ranges.offset)
    (checked check.in_rows c.requires.in_bounds.2
    (upto_end (omega (arith, c.loop-at-test.false)) c.loop-at.invariant.2))
