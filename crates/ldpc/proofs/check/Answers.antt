-- `ldpc::check` meets its contract. Assumes nothing.
use Rattle.std.proofs.Common.{◌≡◌, ◌<◌, ◌≤◌, ◌++◌, [], Err, rules, refl, ap, ◌∙◌, length, drop, drop_of_length-le, append-nil, arith}
use Rattle.ldpc_shape.specs.declared.Sizes.{Sizes}
use Rattle.ldpc_shape.specs.Shape.{p_of, code_refusal}
use Rattle.ldpc_shape.proofs.Accepted.{table_accepted, table_p}
use Rattle.refusal.specs.Number.{number_of}
use Rattle.refusal.specs.declared.Refusal.TheVariants.{Size}
use Rattle.ldpc_edges.specs.Code.{check}
use Rattle.ldpc_edges.proofs.Degree.{degree_le}
use Rattle.ldpc.specs.Answers.{beyond_of, check_refusal, check_answer, check_into}
use Rattle.ldpc.specs.AnswersLaws.{check_number}
use Rattle.ldpc.proofs.Exits.{parted, beyond, within, by_first, by_next, two_first, out_refused, out_short, out_done, lent}
use Rattle.ldpc.proofs.check.Goals as goal

pub returns-in_err-of : goal.returns-in_err-of
unfolding check_answer check_refusal check_into
returns-in_err-of c =
    let f : c.from_residual.result ≡ Err c.in_err-of.field-0.0 = search rules in
    let e =
    out_refused (length (check c.args.n c.args.lens.now c.args.addrs.now c.args.c)) (check c.args.n c.args.lens.now c.args.addrs.now c.args.c) c.args.out.now _
    (length (check c.args.n c.args.lens.now c.args.addrs.now c.args.c)) _
    (two_first (code_refusal c.args.n c.args.lens.now c.args.addrs.now) (beyond_of c.args.c (p_of c.args.n c.args.lens.now)) _) _ _ f
    (by_first c.in_err-of.field-0.0 _ _ c.in_err-of.ensures.number)
    in
    record { answer = e; number = ap number_of e.0 ∙ check_number c.args.n c.args.lens.now c.args.addrs.now _ _ }

pub returns-then-of-c : goal.returns-then-of-c
unfolding check_answer check_refusal check_into
returns-then-of-c c =
    let p : p_of c.args.n c.args.lens.now ≤ c.args.c = omega (arith, c.if-of-c.true, ap (λ (z : Sizes). z.p) c.in_ok-of.ensures.table.0) in
    let e =
    out_refused (length (check c.args.n c.args.lens.now c.args.addrs.now c.args.c)) (check c.args.n c.args.lens.now c.args.addrs.now c.args.c) c.args.out.now _
    (length (check c.args.n c.args.lens.now c.args.addrs.now c.args.c)) _
    (two_first (code_refusal c.args.n c.args.lens.now c.args.addrs.now) (beyond_of c.args.c (p_of c.args.n c.args.lens.now)) _) _ Size refl
    (by_next 12 _ _ c.in_ok-of.ensures.number (beyond _ _ p))
    in
    record { answer = e; number = ap number_of e.0 ∙ check_number c.args.n c.args.lens.now c.args.addrs.now _ _ }

pub returns-in_err-out : goal.returns-in_err-out
unfolding check_answer check_refusal check_into
returns-in_err-out c =
    let t = c.in_ok-of.ensures.table in
    let f : c.from_residual-in_err-out.result ≡ Err c.in_err-out.field-0.0 = search rules in
    let p : c.args.c < p_of c.args.n c.args.lens.now = omega (arith, c.if-of-c.false, ap (λ (z : Sizes). z.p) t.0) in
    let e =
    out_short (length (check c.args.n c.args.lens.now c.args.addrs.now c.args.c)) (check c.args.n c.args.lens.now c.args.addrs.now c.args.c) c.args.out.now _
    (length (check c.args.n c.args.lens.now c.args.addrs.now c.args.c)) _
    (two_first (code_refusal c.args.n c.args.lens.now c.args.addrs.now) (beyond_of c.args.c (p_of c.args.n c.args.lens.now)) _)
    (by_next 0 _ _ c.in_ok-of.ensures.number (within _ _ p)) c.degree_of-degree.result
    (c.degree_of-degree.ensures ∙ lent c.in_ok-of.of c.args.n c.args.lens.now c.args.addrs.now t.0 t.1 t.2 (λ n lens addrs. length (check n lens addrs c.args.c)))
    _ c.split_at_mut_checked.ensures.cases _ _ f c.in_err-out.ensures.value
    in
    record { answer = e; number = ap number_of e.0 ∙ check_number c.args.n c.args.lens.now c.args.addrs.now _ _ }

pub overflow_cast-result : goal.overflow_cast-result
overflow_cast-result c =
    let h : c.args.c < p_of c.in_ok-of.of.sizes.n c.in_ok-of.of.lens.now = omega (arith, c.if-of-c.false, table_p c.in_ok-of.of) in
    omega (arith, c.check_of.ensures.0, degree_le c.in_ok-of.of.sizes.n c.in_ok-of.of.lens.now c.in_ok-of.of.addrs.now (table_accepted c.in_ok-of.of) c.args.c h)

pub returns : goal.returns
unfolding check_answer check_refusal check_into
returns c =
    let t = c.in_ok-of.ensures.table in
    let p : c.args.c < p_of c.args.n c.args.lens.now = omega (arith, c.if-of-c.false, ap (λ (z : Sizes). z.p) t.0) in
    let same : length (check c.in_ok-of.of.sizes.n c.in_ok-of.of.lens.now c.in_ok-of.of.addrs.now c.args.c) ≡ length (check c.args.n c.args.lens.now c.args.addrs.now c.args.c) =
    lent c.in_ok-of.of c.args.n c.args.lens.now c.args.addrs.now t.0 t.1 t.2 (λ n lens addrs. length (check n lens addrs c.args.c)) in
    let h = parted c.args.out.now c.degree_of-degree.result _ (c.in_ok-out.front, c.in_ok-out.field-0-1) c.split_at_mut_checked.ensures.cases c.in_ok-out.ensures.value in
    let rest : drop c.check_of.result c.in_ok-out.front.now ≡ [] =
    drop_of_length-le c.in_ok-out.front.now {i = c.check_of.result} (omega (arith, h.1, c.degree_of-degree.ensures, c.check_of.ensures.0)) in
    let e =
    out_done (length (check c.args.n c.args.lens.now c.args.addrs.now c.args.c)) (check c.args.n c.args.lens.now c.args.addrs.now c.args.c) c.args.out.now _
    (length (check c.args.n c.args.lens.now c.args.addrs.now c.args.c)) _
    (two_first (code_refusal c.args.n c.args.lens.now c.args.addrs.now) (beyond_of c.args.c (p_of c.args.n c.args.lens.now)) _)
    (by_next 0 _ _ c.in_ok-of.ensures.number (within _ _ p)) c.degree_of-degree.result (c.degree_of-degree.ensures ∙ same)
    _ c.split_at_mut_checked.ensures.cases (c.in_ok-out.front, c.in_ok-out.field-0-1) c.in_ok-out.ensures.value
    c.check_of.result _ c.check_of.auto.out (c.check_of.ensures.0 ∙ same)
    (c.check_of.ensures.1 ∙ ap (λ z. check c.in_ok-of.of.sizes.n c.in_ok-of.of.lens.now c.in_ok-of.of.addrs.now c.args.c ++ z) rest ∙ append-nil _
    ∙ lent c.in_ok-of.of c.args.n c.args.lens.now c.args.addrs.now t.0 t.1 t.2 (λ n lens addrs. check n lens addrs c.args.c))
    in
    record { answer = e; number = ap number_of e.0 ∙ check_number c.args.n c.args.lens.now c.args.addrs.now _ _ }
