use Rattle.std.proofs.Common.{sym, ap, ◌∙◌, arith, refl, length-take-le}
use Rattle.ldpc_shape.specs.declared.Sizes.{Sizes}
use Rattle.ldpc_shape.specs.Shape.{sizes_of, code_refusal}
use Rattle.ldpc_shape.proofs.Loops.{sum_fits, small, refuse_length, refuse_rows, refuse_over, refuse_sum, refuse_many, refuse_none}
use Rattle.ldpc_shape.proofs.Table.accept.Goals as goal

pub returns-then-bad_length-clause-number : goal.returns-then-bad_length-clause-number
returns-then-bad_length-clause-number c = refuse_length _ _ _ (sym c.bad_length.ensures ∙ c.if-bad_length.true)

pub returns-then-n-lens-clause-number : goal.returns-then-n-lens-clause-number
returns-then-n-lens-clause-number c = refuse_rows _ _ _ (sym c.bad_length.ensures ∙ c.if-bad_length.false) c.if-n-lens.true

pub returns-then-any_over-clause-number : goal.returns-then-any_over-clause-number
returns-then-any_over-clause-number c = refuse_over _ _ _ (sym c.bad_length.ensures ∙ c.if-bad_length.false) c.if-n-lens.false (sym c.any_over.ensures ∙ c.if-any_over.true)

pub sum_of-requires : goal.sum_of-requires
sum_of-requires c = let s = small c.args.n (sym c.bad_length.ensures ∙ c.if-bad_length.false) in (omega (arith, s), sym c.any_over.ensures ∙ c.if-any_over.false)

pub returns-then-sum_of-addrs-clause-number : goal.returns-then-sum_of-addrs-clause-number
returns-then-sum_of-addrs-clause-number c =
    refuse_sum _ _ _ (sym c.bad_length.ensures ∙ c.if-bad_length.false) c.if-n-lens.false (sym c.any_over.ensures ∙ c.if-any_over.false)
    (λ e. c.if-sum_of-addrs.true (c.sum_of.ensures ∙ e))

pub counts-r-requires : goal.counts-r-requires
counts-r-requires c =
    let s = small c.args.n (sym c.bad_length.ensures ∙ c.if-bad_length.false) in
    let f = sum_fits c.args.lens.now (omega arith) (sym c.any_over.ensures ∙ c.if-any_over.false) in
    (omega arith, omega arith, omega (arith, c.sum_of.ensures))

pub slice_bounds-r-end : goal.slice_bounds-r-end
slice_bounds-r-end c = let s = small c.args.n (sym c.bad_length.ensures ∙ c.if-bad_length.false) in omega (arith, c.counts-r.type_inv)

pub slice_bounds-any_over-end : goal.slice_bounds-any_over-end
slice_bounds-any_over-end c = let s = small c.args.n (sym c.bad_length.ensures ∙ c.if-bad_length.false) in let t = c.counts-r.type_inv in sym (length-take-le _ _ (omega arith))

pub returns-then-any_over-2-clause-number : goal.returns-then-any_over-2-clause-number
returns-then-any_over-2-clause-number c =
    let s = small c.args.n (sym c.bad_length.ensures ∙ c.if-bad_length.false) in
    refuse_many _ _ _ (sym c.bad_length.ensures ∙ c.if-bad_length.false) c.if-n-lens.false (sym c.any_over.ensures ∙ c.if-any_over.false)
    (sym c.sum_of.ensures ∙ c.if-sum_of-addrs.false) _ _ refl c.counts-r.ensures.below (omega (arith, c.counts-r.type_inv)) (sym c.any_over-2.ensures ∙ c.if-any_over-2.true)

pub sizes_of-sizes-requires : goal.sizes_of-sizes-requires
sizes_of-sizes-requires c =
    let s = small c.args.n (sym c.bad_length.ensures ∙ c.if-bad_length.false) in
    refuse_none _ _ _ (sym c.bad_length.ensures ∙ c.if-bad_length.false) c.if-n-lens.false (sym c.any_over.ensures ∙ c.if-any_over.false)
    (sym c.sum_of.ensures ∙ c.if-sum_of-addrs.false) _ _ refl c.counts-r.ensures.below (omega (arith, c.counts-r.type_inv)) (sym c.any_over-2.ensures ∙ c.if-any_over-2.false)

pub invariant_of-result : goal.invariant_of-result
invariant_of-result c =
    let s = small c.args.n (sym c.bad_length.ensures ∙ c.if-bad_length.false) in
    let none =
    refuse_none _ _ _ (sym c.bad_length.ensures ∙ c.if-bad_length.false) c.if-n-lens.false (sym c.any_over.ensures ∙ c.if-any_over.false)
    (sym c.sum_of.ensures ∙ c.if-sum_of-addrs.false) _ _ refl c.counts-r.ensures.below (omega (arith, c.counts-r.type_inv)) (sym c.any_over-2.ensures ∙ c.if-any_over-2.false)
    in
    record {
      accepted = ap (λ (z : Sizes). code_refusal z.n c.args.lens.now c.args.addrs.now) c.sizes_of-sizes.ensures ∙ none;
      numbers = c.sizes_of-sizes.ensures ∙ sym (ap (λ (z : Sizes). sizes_of z.n c.args.lens.now c.args.addrs.now) c.sizes_of-sizes.ensures);
    }
