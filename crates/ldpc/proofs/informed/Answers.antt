-- `ldpc::informed` meets its contract. Assumes nothing.
use Rattle.std.proofs.Common.{◌≡◌, Err, rules, ap, ◌∙◌}
use Rattle.ldpc_shape.specs.declared.Sizes.{Sizes}
use Rattle.refusal.specs.Number.{number_of}
use Rattle.ldpc.proofs.Exits.{same, other, by_first, by_next}
use Rattle.ldpc.proofs.informed.Goals as goal

pub returns-in_err-of-clause-number : goal.returns-in_err-of-clause-number
returns-in_err-of-clause-number c =
    let f : c.from_residual.result ≡ Err c.in_err-of.field-0.0 = search rules in
    ap number_of f ∙ by_first c.in_err-of.field-0.0 _ _ c.in_err-of.ensures.number

pub returns-then-info-of-clause-number : goal.returns-then-info-of-clause-number
returns-then-info-of-clause-number c =
    by_next 12 _ _ c.in_ok-of.ensures.number (other _ _ _ c.if-info-of.true (ap (λ (z : Sizes). z.k) c.in_ok-of.ensures.table.0))

pub returns-clause-number : goal.returns-clause-number
returns-clause-number c = by_next 0 _ _ c.in_ok-of.ensures.number (same _ _ _ c.if-info-of.false (ap (λ (z : Sizes). z.k) c.in_ok-of.ensures.table.0))
