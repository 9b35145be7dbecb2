use Rattle.std.proofs.Common.{◌≡◌, List, ℕ, Result, Err, rules, ap, ◌∙◌}
use Rattle.refusal.specs.Number.{number_of}
use Rattle.refusal.specs.declared.Refusal.{Refusal}
use Rattle.raxdov.specs.Numbers.{answer_into}
use Rattle.raxdov.proofs.Sizes.{run_refused, refused_keeps}
use Rattle.raxdov.proofs.run_sizes.Goals as goal

pub returns-in_err-of-clause-number : goal.returns-in_err-of-clause-number
returns-in_err-of-clause-number c =
    let f : c.from_residual.result ≡ Err c.in_err-of.field-0.0 = search rules in
    ap number_of f ∙ run_refused c.args.n c.args.lens.now c.args.addrs.now c.args.lanes c.in_err-of.field-0.0 c.in_err-of.ensures.number

pub returns-in_err-of-clause-sizes : goal.returns-in_err-of-clause-sizes
returns-in_err-of-clause-sizes c =
    let f : c.from_residual.result ≡ Err c.in_err-of.field-0.0 = search rules in
    λ was.
    ap (λ (a : Result (List ℕ) Refusal). answer_into a was) f
    ∙ refused_keeps c.args.n c.args.lens.now c.args.addrs.now c.args.lanes was c.in_err-of.field-0.0 c.in_err-of.ensures.number
