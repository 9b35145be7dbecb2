use Rattle.std.proofs.Common.{ap, ◌∙◌, ◌++◌, ℕ, ◌-◌, drop, arith}
use Rattle.refusal.specs.Number.{number}
use Rattle.refusal.specs.NumberLaws.{number_least}
use Rattle.bch_remainder.specs.Word.{parity_of, parity_bits}
use Rattle.bch.specs.Answers.{parity_out}
use Rattle.bch.specs.AnswersLaws.{unchanged, changed}
use Rattle.bch.proofs.parity.Goals as goal

pub returns-in_err-fits-clause-output : goal.returns-in_err-fits-clause-output
unfolding parity_out
returns-in_err-fits-clause-output c =
    let r = c.in_err-fits.field-0.0 in
    unchanged _ (number r - 1) _ _ (omega (arith, number_least r, c.in_err-fits.ensures.number))

pub returns-clause-output : goal.returns-clause-output
unfolding parity_out
returns-clause-output c =
    c.write_parity.ensures ∙ ap (λ (n : ℕ). parity_bits n ++ drop 192 c.args.out.now) c.parity_register.ensures
    ∙ changed _ (parity_bits (parity_of c.args.message.now) ++ drop 192 c.args.out.now) c.args.out.now (omega (arith, c.in_ok-fits.ensures.number))
