use Rattle.std.proofs.Common.{◌≡◌, refl, sym, ap, ◌∙◌, ◌+◌, zero-add, arith, rules}
use Rattle.iteration.specs.Lists.{var}
use Rattle.iteration.specs.Iteration.{negatives, hard}
use Rattle.outcome.specs.Soft.{values, negatives_le, negatives_again}
use Rattle.outcome.proofs.negative.Goals as goal
use Rattle.outcome.proofs.negative.Goals.{After-from-count}

more : (c : After-from-count) → c.loop-v.count + c.from-count.result ≡ negatives (var c.args.rows.now) 0 (c.loop-v.v-index + 1) (values c.args.soft.now)
more c =
    negatives_again (var c.args.rows.now) 0 c.loop-v.v-index (values c.args.soft.now) c.loop-v.count c.from-count.result c.loop-v.invariant
    (let e : c.bit.result ≡ hard (values c.args.soft.now (var c.args.rows.now c.loop-v.v-index)) = search rules in
    c.from-count.ensures ∙ e ∙ ap (λ k. hard (values c.args.soft.now (var c.args.rows.now k))) (sym (zero-add c.loop-v.v-index)))

pub loop-v-init : goal.loop-v-init
unfolding negatives
loop-v-init c = refl

pub overflow_add-count : goal.overflow_add-count
overflow_add-count c = omega (arith, more c, negatives_le (var c.args.rows.now) 0 (c.loop-v.v-index + 1) (values c.args.soft.now))

pub loop-v-preserved : goal.loop-v-preserved
loop-v-preserved c = more c
