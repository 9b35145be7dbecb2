use Rattle.std.proofs.Common.{refl, arith, rules}
use Rattle.bch_locator.proofs.Steps.{state_zero, state_keep, state_grow, state_fail, state_end, state_start, state_move, one_first}
use Rattle.laws.specs.Lists.{replicate_at}
use Rattle.bch_locator.proofs.Register.shortest.Goals as goal
use Rattle.bch_locator.proofs.Register.shortest.Goals.{then-d-eq0, else-d-eq0+then-l-k+else-k-l-gt12, else-d-eq0+else-l-k}

pub loop-k-init : goal.loop-k-init
loop-k-init c = state_start _ _ _ refl (one_first _ refl (replicate_at 0 12)) (one_first _ refl (replicate_at 0 12))

pub returns-then-k-l-gt12 : goal.returns-then-k-l-gt12
returns-then-k-l-gt12 c = state_fail _ c.loop-k.c c.loop-k.b c.loop-k.l c.loop-k.m c.loop-k.e c.loop-k.k c.loop-k.invariant c.discrepancy-d.result (search rules) c.discrepancy-d.ensures (search rules) (search rules) (search rules) _ (replicate_at 0 13)

pub loop-k-preserved : goal.loop-k-preserved
loop-k-preserved c = elim c.if-d-eq0.branch [
  | then-d-eq0 w ↦ state_move _ _ (state_zero _ c.loop-k.c c.loop-k.b c.loop-k.l c.loop-k.m c.loop-k.e c.loop-k.k c.loop-k.invariant c.discrepancy-d.result c.loop-k-test.true c.discrepancy-d.ensures w.if-d-eq0.true) w.c-is w.b-is w.l-is w.m-is w.e-is
  | else-d-eq0+then-l-k+else-k-l-gt12 w ↦
      state_move _ _ (state_grow _ c.loop-k.c c.loop-k.b c.loop-k.l c.loop-k.m c.loop-k.e c.loop-k.k c.loop-k.invariant c.discrepancy-d.result c.loop-k-test.true c.discrepancy-d.ensures (search rules) (search rules) w.inverse.result w.mul-q.result w.inverse.ensures w.mul-q.ensures _ w.mend.ensures w.if-l-k.true (omega arith)) w.c-is w.b-is w.l-is w.m-is w.e-is
  | else-d-eq0+else-l-k w ↦
      state_move _ _ (state_keep _ c.loop-k.c c.loop-k.b c.loop-k.l c.loop-k.m c.loop-k.e c.loop-k.k c.loop-k.invariant c.discrepancy-d.result c.loop-k-test.true c.discrepancy-d.ensures (search rules) (search rules) w.inverse.result w.mul-q.result w.inverse.ensures w.mul-q.ensures _ w.mend-else-l-k.ensures w.if-l-k.false) w.c-is w.b-is w.l-is w.m-is w.e-is
]

pub returns : goal.returns
returns c = (state_end _ c.loop-k.c c.loop-k.b c.loop-k.l c.loop-k.m c.loop-k.e c.loop-k.k c.loop-k.invariant (search rules), c.loop-k.invariant.l_le)
