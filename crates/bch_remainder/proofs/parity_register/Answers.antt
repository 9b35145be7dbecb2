use Rattle.std.proofs.Common.{◌∙◌, sym, ap, refl, inl, inr, []}
use Rattle.bch_table.specs.Step.{joined}
use Rattle.bch_remainder.specs.Laws.{parity_none}
use Rattle.bch_remainder.proofs.Parity.{divide_start, divide_again}
use Rattle.bch_remainder.proofs.parity_register.Goals as goal

pub loop-bits-init : goal.loop-bits-init
unfolding joined
loop-bits-init c =
    let e = c.into_iter-bits-iterator.ensures.into_iter_gives in
    let i = c.chunks_exact-bits-items.ensures in
    (divide_start _ _ _ _ c.split_at.ensures.front (ap (λ x. x.rest.now) e ∙ i.rest ∙ c.split_at.ensures.back) (c.more-r.ensures [] (inr refl) (sym parity_none)), ap (λ x. x.size) e ∙ i.size)

pub loop-bits-preserved : goal.loop-bits-preserved
loop-bits-preserved c =
    let s = c.in-Some.ensures.steps in
    let i = c.loop-bits.invariant in
    let sixteen = s.1.1 ∙ i.1 in
    (divide_again _ _ _ _ _ _ i.0 s.1.0 sixteen (c.more-r-in-loop-bits.ensures i.0.passed (inl sixteen) i.0.done), s.0 ∙ i.1)
