use Rattle.std.proofs.Common.{ap, sym, ◌∙◌, List, ◌++◌, ℕ, ◌+◌, ◌-◌, length, drop, arith}
use Rattle.std.proofs.Math.Seq.{take-length}
use Rattle.refusal.specs.Number.{number}
use Rattle.refusal.specs.NumberLaws.{number_least}
use Rattle.bch_table.specs.Step.{value_of}
use Rattle.bch_remainder.specs.Word.{parity_of, parity_bits}
use Rattle.bch.specs.Answers.{encode_out}
use Rattle.bch.specs.AnswersLaws.{encoded_bytes, unchanged, changed}
use Rattle.bch.proofs.encode.Goals as goal

pub returns-in_err-fits-clause-output : goal.returns-in_err-fits-clause-output
unfolding encode_out
returns-in_err-fits-clause-output c =
    let r = c.in_err-fits.field-0.0 in
    unchanged _ (number r - 1) _ _ (omega (arith, number_least r, c.in_err-fits.ensures.number))

pub returns-clause-output : goal.returns-clause-output
unfolding encode_out
returns-clause-output c =
    encoded_bytes c.args.message.now c.args.out.now _ _ (parity_bits (value_of c.parity_register.result))
    (ap (λ (l : List ℕ). l ++ drop (length c.args.message.now) c.args.out.now) (c.copy_from_slice.ensures.after ∙ sym (take-length c.args.message.now)))
    c.write_parity.ensures
    ∙ ap (λ (n : ℕ). c.args.message.now ++ (parity_bits n ++ drop (length c.args.message.now + 192) c.args.out.now)) c.parity_register.ensures
    ∙ changed _ (c.args.message.now ++ (parity_bits (parity_of c.args.message.now) ++ drop (length c.args.message.now + 192) c.args.out.now)) c.args.out.now
    (omega (arith, c.in_ok-fits.ensures.number))
