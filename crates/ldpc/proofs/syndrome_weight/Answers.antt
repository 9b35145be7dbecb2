-- `ldpc::syndrome_weight` meets its contract. Assumes nothing.
use Rattle.std.proofs.Common.{◌≡◌, Err, rules, refl, ap, ◌∙◌}
use Rattle.ldpc_shape.specs.declared.Sizes.{Sizes}
use Rattle.refusal.specs.Number.{number_of}
use Rattle.refusal.specs.declared.Refusal.TheVariants.{Size}
use Rattle.ldpc_edges.specs.Code.{weight}
use Rattle.ldpc.specs.Answers.{weight_refusal, weight_answer}
use Rattle.ldpc.specs.AnswersLaws.{weight_number}
use Rattle.ldpc.proofs.Exits.{same, other, by_first, by_next, says_no, says_yes, lent}
use Rattle.ldpc.proofs.syndrome_weight.Goals as goal

pub returns-in_err-of : goal.returns-in_err-of
unfolding weight_answer weight_refusal
returns-in_err-of c =
    let f : c.from_residual.result ≡ Err c.in_err-of.field-0.0 = search rules in
    let e =
    says_no (weight_refusal c.args.n c.args.lens.now c.args.addrs.now _) (weight c.args.n c.args.lens.now c.args.addrs.now c.args.bits.now) _ _ f
    (by_first c.in_err-of.field-0.0 _ _ c.in_err-of.ensures.number)
    in
    record { answer = e; number = ap number_of e ∙ weight_number c.args.n c.args.lens.now c.args.addrs.now _ }

pub returns-then-bits-of : goal.returns-then-bits-of
unfolding weight_answer weight_refusal
returns-then-bits-of c =
    let e =
    says_no (weight_refusal c.args.n c.args.lens.now c.args.addrs.now _) (weight c.args.n c.args.lens.now c.args.addrs.now c.args.bits.now) _ Size refl
    (by_next 12 _ _ c.in_ok-of.ensures.number (other _ _ _ c.if-bits-of.true (ap (λ (z : Sizes). z.n) c.in_ok-of.ensures.table.0)))
    in
    record { answer = e; number = ap number_of e ∙ weight_number c.args.n c.args.lens.now c.args.addrs.now _ }

pub returns : goal.returns
unfolding weight_answer weight_refusal
returns c =
    let t = c.in_ok-of.ensures.table in
    let e =
    says_yes (weight_refusal c.args.n c.args.lens.now c.args.addrs.now _) (weight c.args.n c.args.lens.now c.args.addrs.now c.args.bits.now) _
    (c.weight_of.ensures ∙ lent c.in_ok-of.of c.args.n c.args.lens.now c.args.addrs.now t.0 t.1 t.2 (λ n lens addrs. weight n lens addrs c.args.bits.now))
    (by_next 0 _ _ c.in_ok-of.ensures.number (same _ _ _ c.if-bits-of.false (ap (λ (z : Sizes). z.n) t.0)))
    in
    record { answer = e; number = ap number_of e ∙ weight_number c.args.n c.args.lens.now c.args.addrs.now _ }
