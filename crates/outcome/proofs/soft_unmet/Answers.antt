use Rattle.std.proofs.Common.{refl, sym, ◌∙◌, arith}
use Rattle.iteration.specs.CountLaws.{counted_start}
use Rattle.outcome.specs.Scan.{counted_more, counted_same, counted_le}
use Rattle.outcome.proofs.soft_unmet.Goals.{then-odd, else-odd}
use Rattle.outcome.proofs.soft_unmet.Goals as goal

pub loop-c-init : goal.loop-c-init
loop-c-init c = counted_start _ _ 0 0 refl refl

pub overflow_add-count : goal.overflow_add-count
overflow_add-count c = omega (arith, counted_le _ _ c.loop-c.invariant, c.requires.1, c.loop-c-test.true)

pub loop-c-preserved : goal.loop-c-preserved
loop-c-preserved c =
    elim c.if-odd.branch [
      | then-odd w ↦ counted_more _ _ _ _ (sym c.odd.ensures ∙ w.if-odd.true) c.loop-c.invariant w.count-is w.check-is
      | else-odd w ↦ counted_same _ _ _ _ (sym c.odd.ensures ∙ w.if-odd.false) c.loop-c.invariant w.count-is w.check-is
    ]
