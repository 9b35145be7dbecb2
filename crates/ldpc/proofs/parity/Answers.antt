-- `ldpc::parity` meets its contract. Assumes nothing.
use Rattle.std.proofs.Common.{◌≡◌, Err, rules, refl, ap, ◌∙◌, length}
use Rattle.ldpc_shape.specs.declared.Sizes.{Sizes}
use Rattle.ldpc_shape.specs.Shape.{k_of, p_of, code_refusal}
use Rattle.refusal.specs.Number.{number_of}
use Rattle.ldpc_edges.specs.Code.{parity}
use Rattle.ldpc.specs.Answers.{other_of, parity_refusal, parity_answer, parity_into}
use Rattle.ldpc.specs.AnswersLaws.{parity_number}
use Rattle.ldpc.proofs.Exits.{two_first, out_refused, out_short, out_done, lent}
use Rattle.ldpc.proofs.parity.Goals as goal

pub returns-in_err-of : goal.returns-in_err-of
unfolding parity_answer parity_refusal parity_into
returns-in_err-of c =
    let f : c.from_residual.result ≡ Err c.in_err-of.field-0.0 = search rules in
    let e =
    out_refused (tt {0}) (parity c.args.n c.args.lens.now c.args.addrs.now c.args.info.now) c.args.out.now _ (p_of c.args.n c.args.lens.now) _
    (two_first (code_refusal c.args.n c.args.lens.now c.args.addrs.now) (other_of (length c.args.info.now) (k_of c.args.lens.now)) _) _ _ f c.in_err-of.ensures.number
    in
    record { answer = e; number = ap number_of e.0 ∙ parity_number c.args.n c.args.lens.now c.args.addrs.now _ _ }

pub returns-in_err-out : goal.returns-in_err-out
unfolding parity_answer parity_refusal parity_into
returns-in_err-out c =
    let f : c.from_residual-in_err-out.result ≡ Err c.in_err-out.field-0.0 = search rules in
    let e =
    out_short (tt {0}) (parity c.args.n c.args.lens.now c.args.addrs.now c.args.info.now) c.args.out.now _ (p_of c.args.n c.args.lens.now) _
    (two_first (code_refusal c.args.n c.args.lens.now c.args.addrs.now) (other_of (length c.args.info.now) (k_of c.args.lens.now)) _)
    c.in_ok-of.ensures.number _ (ap (λ (z : Sizes). z.p) c.in_ok-of.ensures.table.0) _ c.split_at_mut_checked.ensures.cases _ _ f c.in_err-out.ensures.value
    in
    record { answer = e; number = ap number_of e.0 ∙ parity_number c.args.n c.args.lens.now c.args.addrs.now _ _ }

pub returns : goal.returns
unfolding parity_answer parity_refusal parity_into
returns c =
    let t = c.in_ok-of.ensures.table in
    let e =
    out_done (tt {0}) (parity c.args.n c.args.lens.now c.args.addrs.now c.args.info.now) c.args.out.now _ (p_of c.args.n c.args.lens.now) _
    (two_first (code_refusal c.args.n c.args.lens.now c.args.addrs.now) (other_of (length c.args.info.now) (k_of c.args.lens.now)) _)
    c.in_ok-of.ensures.number _ (ap (λ (z : Sizes). z.p) t.0) _ c.split_at_mut_checked.ensures.cases (c.in_ok-out.front, c.in_ok-out.field-0-1) c.in_ok-out.ensures.value (tt {0}) _ c.parity_of.auto.out refl
    (c.parity_of.ensures ∙ lent c.in_ok-of.of c.args.n c.args.lens.now c.args.addrs.now t.0 t.1 t.2 (λ n lens addrs. parity n lens addrs c.args.info.now))
    in
    record { answer = e; number = ap number_of e.0 ∙ parity_number c.args.n c.args.lens.now c.args.addrs.now _ _ }
