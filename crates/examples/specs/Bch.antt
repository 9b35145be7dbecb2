-- Why the starred examples of the BCH word hold: α's power is worked out, and zeros are a codeword one bit away.
use Rattle.std.specs.Prelude.{◌≡◌, refl, List, ℕ, length, Some, Ok, Err}
use Rattle.std.proofs.Common.{sym, ap, ◌∙◌, arith}
use Rattle.laws.specs.Definitions.{◌⊕◌, rem}
use Rattle.laws.specs.Poly.{rem_zero}
use Rattle.algebra.specs.Gf.{mul, mul_n, xt}
use Rattle.algebra.specs.Series.{pow}
use Rattle.algebra.specs.GfField.{gf_ring, gf_field}
use Rattle.bch_table.specs.Generator.{generator}
use Rattle.gf16.specs.Field16.{gf16, R16, α}
use Rattle.bch_remainder.specs.Word.{number, number_from, remainder_of, Codeword}
use Rattle.bch_remainder.specs.Laws.{remainder_codeword}
use Rattle.bch.specs.Distance.{distance, low_bits}
use Rattle.bch.specs.Decode.{answer_of, left_of}
use Rattle.bch.specs.ExactLaws.{up_to_12}
use Rattle.bch.specs.Answers.{word_refusal, decoded_of, word_out}
use Rattle.bch.specs.AnswersLaws.{short_word, fair_word, changed}
use Rattle.refusal.specs.NumberLaws.{accepted, refused}
use Rattle.refusal.specs.declared.Refusal.TheVariants as refusal
use Rattle.examples.specs.Inputs.{zeros, first_set}

pub alpha : (pow R16 α 16).0 ≡ 0x100B
unfolding pow gf16 gf_field gf_ring mul mul_n xt ◌⊕◌
alpha = refl

nothing : number (zeros 193) ≡ 0
unfolding number number_from zeros
nothing = refl

size : length first_set ≡ 193
unfolding first_set zeros
size = refl

same : length (zeros 193) ≡ length first_set
unfolding first_set zeros
same = refl

apart : distance first_set (zeros 193) ≡ 1
unfolding distance first_set zeros
apart = refl

zeros_codeword : Codeword (zeros 193)
unfolding remainder_of
zeros_codeword = remainder_codeword (zeros 193) (ap (λ (x : ℕ). rem 192 generator (length (zeros 193)) x) nothing ∙ rem_zero 192 generator (length (zeros 193)))

fair : word_refusal (length first_set) ≡ 0
fair = fair_word (length first_set) (omega (arith, size)) (omega (arith, size))

near : (answer_of first_set ≡ Some (distance first_set (zeros 193))) × (low_bits (left_of first_set) ≡ low_bits (zeros 193))
near = up_to_12 (zeros 193) first_set zeros_codeword same (omega (arith, size)) (omega (arith, apart))

pub corrected : decoded_of first_set ≡ Ok (Some 1)
unfolding decoded_of
corrected = accepted (word_refusal (length first_set)) (answer_of first_set) fair ∙ ap Ok (near.0 ∙ ap Some apart)

bits_of_zeros : low_bits (zeros 193) ≡ zeros 193
unfolding low_bits zeros
bits_of_zeros = refl

pub left : low_bits (word_out first_set) ≡ zeros 193
unfolding word_out
left = ap low_bits (sym (changed (word_refusal (length first_set)) (left_of first_set) first_set fair)) ∙ near.1 ∙ bits_of_zeros

pub too_short : (w : List ℕ) → length w ≡ 192 → decoded_of w ≡ Err refusal.Bch
unfolding decoded_of
too_short w n = refused (word_refusal (length w)) (answer_of w) refusal.Bch (short_word (length w) (omega (arith, n)))
