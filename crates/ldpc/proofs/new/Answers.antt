-- `ldpc::new` meets its contract. Assumes nothing.
use Rattle.std.proofs.Common.{◌≡◌, List, ℕ, suc, ◌+◌, Err, rules, refl, ap, ◌∙◌, arith}
use Rattle.ldpc_shape.specs.declared.Sizes.{Sizes}
use Rattle.ldpc_shape.specs.Shape.{p_of, e_of, sizes_of}
use Rattle.ldpc_shape.proofs.Accepted.{table_bounded}
use Rattle.refusal.specs.Number.{number_of}
use Rattle.ldpc_edges.specs.Code.{edge_lists}
use Rattle.ldpc.specs.Answers.{new_refusal, new_answer, new_into}
use Rattle.ldpc.specs.AnswersLaws.{new_number}
use Rattle.ldpc.proofs.Exits.{out_refused, out_short, out_done, lent}
use Rattle.ldpc.proofs.new.Goals as goal

size_is : (S : Sizes) (n : ℕ) (lens addrs : List ℕ) → S ≡ sizes_of n lens addrs → S.p + 1 + S.e ≡ suc (p_of n lens) + e_of n lens addrs
size_is S n lens addrs d = omega (arith, ap (λ (z : Sizes). z.p) d, ap (λ (z : Sizes). z.e) d)

pub overflow_add-p : goal.overflow_add-p
overflow_add-p c = omega (arith, table_bounded c.in_ok-of.of)

pub overflow_add-p-2 : goal.overflow_add-p-2
overflow_add-p-2 c = omega (arith, table_bounded c.in_ok-of.of)

pub returns-in_err-of : goal.returns-in_err-of
unfolding new_answer new_refusal new_into
returns-in_err-of c =
    let f : c.from_residual.result ≡ Err c.in_err-of.field-0.0 = search rules in
    let e =
    out_refused (sizes_of c.args.n c.args.lens.now c.args.addrs.now) (edge_lists c.args.n c.args.lens.now c.args.addrs.now) c.args.lists.now _
    (suc (p_of c.args.n c.args.lens.now) + e_of c.args.n c.args.lens.now c.args.addrs.now) _ refl _ _ f c.in_err-of.ensures.number
    in
    record { answer = e; bounded = search rules; number = ap number_of e.0 ∙ new_number c.args.n c.args.lens.now c.args.addrs.now _ }

pub returns-in_err-lists : goal.returns-in_err-lists
unfolding new_answer new_refusal new_into
returns-in_err-lists c =
    let f : c.from_residual-in_err-lists.result ≡ Err c.in_err-lists.field-0.0 = search rules in
    let e =
    out_short (sizes_of c.args.n c.args.lens.now c.args.addrs.now) (edge_lists c.args.n c.args.lens.now c.args.addrs.now) c.args.lists.now _
    (suc (p_of c.args.n c.args.lens.now) + e_of c.args.n c.args.lens.now c.args.addrs.now) _ refl c.in_ok-of.ensures.number _
    (size_is c.in_ok-of.of.sizes _ _ _ c.in_ok-of.ensures.table.0) _ c.split_at_mut_checked.ensures.cases _ _ f c.in_err-lists.ensures.value
    in
    record { answer = e; bounded = search rules; number = ap number_of e.0 ∙ new_number c.args.n c.args.lens.now c.args.addrs.now _ }

pub returns : goal.returns
unfolding new_answer new_refusal new_into
returns c =
    let t = c.in_ok-of.ensures.table in
    let e =
    out_done (sizes_of c.args.n c.args.lens.now c.args.addrs.now) (edge_lists c.args.n c.args.lens.now c.args.addrs.now) c.args.lists.now _
    (suc (p_of c.args.n c.args.lens.now) + e_of c.args.n c.args.lens.now c.args.addrs.now) _ refl c.in_ok-of.ensures.number _
    (size_is c.in_ok-of.of.sizes _ _ _ t.0) _ c.split_at_mut_checked.ensures.cases (c.in_ok-lists.front, c.in_ok-lists.field-0-1) c.in_ok-lists.ensures.value
    c.in_ok-of.of.sizes _ c.build.auto.lists t.0
    (c.build.ensures ∙ lent c.in_ok-of.of c.args.n c.args.lens.now c.args.addrs.now t.0 t.1 t.2 edge_lists)
    in
    record { answer = e; bounded = table_bounded c.in_ok-of.of; number = ap number_of e.0 ∙ new_number c.args.n c.args.lens.now c.args.addrs.now _ }
