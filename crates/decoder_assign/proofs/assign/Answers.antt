use Rattle.std.proofs.Common.{not, ap, ◌∙◌, arith, refl}
use Rattle.decoder_assign.specs.Taken.{held_length, iters_length, held_none, held_some, held_set, iters_set}
use Rattle.decoder_assign.proofs.Filling.{filling_start, filling_next, filling_quick, filling_hold, filling_end}
use Rattle.decoder_assign.proofs.assign.Goals as goal
use Rattle.decoder_assign.proofs.assign.Goals.{then-loop-word-test+else-next-order, else-loop-word-test}

pub loop-l-init : goal.loop-l-init
loop-l-init c = filling_start _ _ _ _ _ _ _ _ c.requires.order.1

pub loop-word-preserved-then-at_once : goal.loop-word-preserved-then-at_once
loop-word-preserved-then-at_once c =
    filling_quick _ _ _ _ c.loop-word.invariant c.loop-l-test.true (held_none c.loop-word.taken c.loop-l.l (c.is_none.ensures ∙ ap not c.loop-word-test.true)) c.if-next-order.true _ c.at_once.ensures _ c.if-at_once.true
    (c.requires.order.0 c.loop-word.next c.if-next-order.true) c.finish_soft.ensures.only c.finish_soft.ensures.over

pub loop-word-preserved : goal.loop-word-preserved
loop-word-preserved c =
    let taken = c.loop-word.taken in
    rw (held_set, iters_set)
    (filling_hold _ _ _ _ c.loop-word.invariant c.loop-l-test.true (held_none taken c.loop-l.l (c.is_none.ensures ∙ ap not c.loop-word-test.true)) c.if-next-order.true _ c.at_once.ensures c.if-at_once.false
    (omega (arith, c.args.run.given.fair.few_lanes, held_length taken, held_length c.args.at.taken)) (omega (arith, c.args.run.given.fair.few_lanes, iters_length taken, iters_length c.args.at.taken)))

pub loop-l-preserved : goal.loop-l-preserved
loop-l-preserved c =
    filling_next _ _ _ _ c.loop-word.invariant (elim c.loop-word-test.branch [
      | then-loop-word-test+else-next-order w ↦ λ _. omega arith
      | else-loop-word-test w ↦ λ e. absurd (held_some c.loop-word.taken c.loop-l.l (c.is_none.ensures ∙ ap not w.loop-word-test.false) e)
    ])

pub returns : goal.returns
returns c = filling_end _ _ _ _ c.loop-l.invariant _ (omega arith) refl
