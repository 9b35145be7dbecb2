-- The BCH part of a word: what its correction inside the word gives. Proofs, not specs, since a wrong `part_of` (must-fail/bch_part_one_byte_on.edit) makes
-- them false.
use Rattle.std.proofs.Common.{◌≡◌, ◌≢◌, ◌↔◌, ◌⊎◌, ℕ, ◌+◌, ◌-◌, ◌≤◌, length, take, Option, Some, None, Result, Ok, IfOk, ◌∙◌, arith, length-append, length-take, length-drop, drop-drop, drop_at, List, ◌++◌}
use Rattle.std.proofs.Math.Path.{refl, sym, ap, subst}
use Rattle.std.proofs.Math.Logic.{inl, inr}
use Rattle.std.proofs.Math.ListN.{drop}
use Rattle.std.proofs.Math.Seq.{take_at}
use Rattle.std.proofs.lemmas.List.{take-append-drop}
use Rattle.bch.specs.Distance.{distance}
use Rattle.bch.specs.Decode.{answer_of}
use Rattle.bch.specs.Exact.{Near, Exact}
use Rattle.bch.specs.Answers.{word_refusal, decoded_of, word_out}
use Rattle.bch.specs.AnswersLaws.{fair_word}
use Rattle.bch.proofs.Decodes.{decodes, word_length}
use Rattle.refusal.specs.declared.Refusal.{Refusal}
use Rattle.refusal.specs.NumberLaws.{accepted}
use Rattle.decoder_plan.specs.declared.Part.{Part}
use Rattle.outcome.specs.Outcome.{part_of, corrected, lost, bch_result, bch_of}
use Rattle.outcome.specs.Corrected.{PartInside}

pub corrected_length : (part : Part) (b : List ℕ) → length (corrected part b) ≡ length b
unfolding corrected
corrected_length part b =
    let first = part.first in
    let size = part.length in
    length-append (take first b) (word_out (take size (drop first b)) ++ drop (first + size) b)
    ∙ ap (λ (z : ℕ). length (take first b) + z) (length-append (word_out (take size (drop first b))) (drop (first + size) b))
    ∙ ap (λ (z : ℕ). length (take first b) + (z + length (drop (first + size) b))) (word_length (take size (drop first b)))
    ∙ omega (arith, length-take first b, length-drop first b, length-take size (drop first b), length-drop (first + size) b)

-- the part that comes back from BCH, in the whole
pub corrected_whole : (part : Part) (b back : List ℕ) → back ≡ word_out (take (part.first + part.length - part.first) (drop part.first b))
    → take part.first b ++ (back ++ drop (part.first + part.length - part.first) (drop part.first b)) ≡ corrected part b
unfolding corrected
corrected_whole part b back e =
    let first = part.first in
    let size = part.length in
    let m : first + size - first ≡ size = omega arith in
    ap (λ (l : List ℕ). take first b ++ (l ++ drop (first + size - first) (drop first b))) e
    ∙ ap (λ (k : ℕ). take first b ++ (word_out (take k (drop first b)) ++ drop k (drop first b))) m
    ∙ ap (λ (l : List ℕ). take first b ++ (word_out (take size (drop first b)) ++ l)) (drop-drop size first b)

pub result_whole : (part : Part) (b : List ℕ) (answer : Result (Option ℕ) Refusal) → answer ≡ decoded_of (take (part.first + part.length - part.first) (drop part.first b))
    → bch_result answer ≡ bch_of part b
unfolding bch_of
result_whole part b answer e =
    let m : part.first + part.length - part.first ≡ part.length = omega arith in
    ap bch_result (e ∙ ap (λ (k : ℕ). decoded_of (take k (drop part.first b))) m)

module _ (part : Part) (b : List ℕ) (P : PartInside part b) where
  abbrev bits : List ℕ
  bits = part_of part b

  part_length : length bits ≡ part.length
  part_length = length-take part.length (drop part.first b) ∙ omega (arith, length-drop part.first b, P.inside)

  fair : word_refusal (length bits) ≡ 0
  fair = fair_word (length bits) (omega (arith, part_length, P.least)) (omega (arith, part_length, P.most))

  answered : decoded_of bits ≡ Ok (answer_of bits)
  unfolding decoded_of
  answered = accepted (word_refusal (length bits)) (answer_of bits) fair

  -- as `bch::decode` promises: it is corrected exactly when a codeword of its length lies within 12 bits, and to that codeword, and otherwise it is left as it
  -- came in
  part_exact : Exact bits (word_out bits) (answer_of bits)
  part_exact = subst (λ (r : Result (Option ℕ) Refusal). IfOk r (Exact bits (word_out bits))) answered (decodes bits).exact

  result : bch_of part b ≡ bch_result (Ok (answer_of bits))
  unfolding bch_of
  result = ap bch_result answered

  -- the result is a count of at most 12, or lost
  few : (k : ℕ) → answer_of bits ≡ Some k → k ≤ 12
  few k e = let c = part_exact.count k e in omega (arith, c.0.within, c.1)

  pub bch_range : (bch_of part b ≤ 12) ⊎ (bch_of part b ≡ lost)
  unfolding bch_result
  bch_range = subst (λ (k : ℕ). (k ≤ 12) ⊎ (k ≡ lost)) (sym result) (go (answer_of bits) refl)
    where
      go : (d : Option ℕ) → answer_of bits ≡ d → (bch_result (Ok d) ≤ 12) ⊎ (bch_result (Ok d) ≡ lost)
      go (Some k) e = inl (few k e)
      go None e = inr refl

  -- a word is not lost exactly when its part has a codeword within 12 bits
  pub accepted_exactly : (bch_of part b ≢ lost) ↔ ((v : List ℕ) × Near bits v)
  unfolding bch_result lost
  accepted_exactly = (λ h. go (answer_of bits) refl (λ e. h (result ∙ e)), λ h q. back (part_exact.exactly.1 h) (sym result ∙ q))
    where
      go : (d : Option ℕ) → answer_of bits ≡ d → (bch_result (Ok d) ≢ lost) → (v : List ℕ) × Near bits v
      go (Some k) e h = part_exact.exactly.0 (k, e)
      go None e h = absurd (h refl)

      back : (k : ℕ) × (answer_of bits ≡ Some k) → bch_result (Ok (answer_of bits)) ≢ lost
      back h q = let e : h.0 ≡ 4294967295 = sym (ap (λ d. bch_result (Ok d)) h.1) ∙ q in omega (arith, e, few h.0 h.1)

  -- a lost word is as it was, every byte of it
  pub lost_untouched : bch_of part b ≡ lost → corrected part b ≡ b
  unfolding corrected bch_result lost
  lost_untouched q =
      let first = part.first in
      let size = part.length in
      ap (λ (x : List ℕ). take first b ++ (x ++ drop (first + size) b)) (part_exact.untouched (go (answer_of bits) refl))
      ∙ ap (λ (x : List ℕ). take first b ++ (bits ++ x)) (sym (drop-drop size first b))
      ∙ ap (λ (x : List ℕ). take first b ++ x) (take-append-drop size (drop first b)) ∙ take-append-drop first b
    where
      go : (d : Option ℕ) → answer_of bits ≡ d → answer_of bits ≡ None
      go (Some k) e = let m : k ≡ 4294967295 = sym (ap (λ d. bch_result (Ok d)) e) ∙ sym result ∙ q in absurd (omega (arith, m, few k e))
      go None e = e

  -- the part that stands in the word at the end
  part_out : part_of part (corrected part b) ≡ word_out bits
  unfolding corrected
  part_out =
      let first = part.first in
      let size = part.length in
      ap (take size) (drop_at (take first b) (word_out bits ++ drop (first + size) b) first (length-take first b ∙ omega (arith, P.inside)))
      ∙ take_at (word_out bits) (drop (first + size) b) size (word_length bits ∙ part_length)

  -- a word that is not lost: its part is then a codeword, and the result is the number of bits that were changed
  pub accepted_count : bch_of part b ≢ lost → Near bits (part_of part (corrected part b)) × (distance bits (part_of part (corrected part b)) ≡ bch_of part b)
  unfolding bch_result
  accepted_count h = subst (λ (x : List ℕ). Near bits x × (distance bits x ≡ bch_of part b)) (sym part_out) (go (answer_of bits) refl)
    where
      go : (d : Option ℕ) → answer_of bits ≡ d → Near bits (word_out bits) × (distance bits (word_out bits) ≡ bch_of part b)
      go (Some k) e = let c = part_exact.count k e in (c.0, c.1 ∙ sym (result ∙ ap (λ d. bch_result (Ok d)) e))
      go None e = absurd (h (result ∙ ap (λ d. bch_result (Ok d)) e))
