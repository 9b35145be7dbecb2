use Rattle.std.proofs.Common.{◌≡◌, List, ℕ, Result, Err, rules, ap, ◌∙◌}
use Rattle.refusal.specs.declared.Refusal.{Refusal}
use Rattle.raxdov.specs.Numbers.{answer_into}
use Rattle.raxdov.proofs.Sizes.{sizes_refused}
use Rattle.raxdov.proofs.sizes_of.Goals as goal

pub returns-in_err-of-clause-sizes : goal.returns-in_err-of-clause-sizes
returns-in_err-of-clause-sizes c =
    let f : c.from_residual.result ≡ Err c.in_err-of.field-0.0 = search rules in
    λ was.
    ap (λ (a : Result (List ℕ) Refusal). answer_into a was) f
    ∙ sizes_refused c.args.n c.args.lens.now c.args.addrs.now was c.in_err-of.field-0.0 c.in_err-of.ensures.number
