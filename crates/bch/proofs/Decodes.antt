-- What `decode` promises can be had of every word (`decodes`), by each way through it; and a word keeps its length.
use Rattle.std.specs.Prelude.{◌≡◌, refl, ◌≢◌, ◌⊎◌, List, [], ◌∷◌, ℕ, suc, ◌≤◌, ◌<◌, length, Option, Some, Result, Ok, Err, IfOk}
use Rattle.std.proofs.Math.Path.{sym}
use Rattle.std.proofs.Common.{ap, ◌∙◌, subst, inl, inr, arith}
use Rattle.std.proofs.Math.Logic.{if_neg}
use Rattle.std.proofs.Math.Decide.{ℕ_discrete, dec_lt}
use Rattle.refusal.specs.Number.{number_of}
use Rattle.refusal.specs.NumberLaws.{highest, number_answer, accepted, refused}
use Rattle.refusal.specs.declared.Refusal.{Refusal}
use Rattle.refusal.specs.declared.Refusal.TheVariants.{Bch}
use Rattle.bch_remainder.specs.Word.{remainder_of}
use Rattle.bch_remainder.specs.Laws.{remainder_codeword}
use Rattle.bch.specs.Distance.{high_bits}
use Rattle.bch.specs.Decode.{answer_by, left_by, Located, register, answer_of, left_of}
use Rattle.bch.specs.DecodeLaws.{located_by, located_only}
use Rattle.bch.specs.Exact.{Exact}
use Rattle.bch.specs.ExactLaws.{exact, codeword_kept}
use Rattle.bch.specs.Answers.{word_refusal, out_if, decoded_of, word_out, Decodes}
use Rattle.bch.specs.AnswersLaws.{changed, word_refused, short_word, long_word, fair_word}

-- a word that is no codeword, by every shortest register
located : (w : List ℕ) → remainder_of w ≢ 0 → Located w (left_of w) (answer_of w)
unfolding answer_of left_of
located w n =
    located_by w _ _ (register w).0 (register w).1 (register w).2
    (if_neg (ℕ_discrete (remainder_of w) 0) n (Some 0) (answer_by (register w).0 (register w).1 w))
    (if_neg (ℕ_discrete (remainder_of w) 0) n w (left_by (register w).0 (register w).1 w))

-- an accepted length, at most 65,535
fair_size : (n : ℕ) → word_refusal n ≡ 0 → n ≤ 65535
fair_size n z = pick (dec_lt n 193) (dec_lt 65535 n)
  where
    pick : Dec (n < 193) → Dec (65535 < n) → n ≤ 65535
    pick (yes h) d = omega arith
    pick (no h) (yes g) = absurd (omega (arith, long_word n (omega arith) g))
    pick (no h) (no g) = omega arith

high_length : (w : List ℕ) → length (high_bits w) ≡ length w
unfolding high_bits
high_length [] = refl
high_length (b ∷ w) = ap suc (high_length w)

-- what `decode` promises holds of the answer and the bytes as functions of the word
module _ (w : List ℕ) where
  taken : word_refusal (length w) ≡ 0 → (decoded_of w ≡ Ok (answer_of w)) × (word_out w ≡ left_of w)
  unfolding decoded_of word_out
  taken z = (accepted (word_refusal (length w)) (answer_of w) z, sym (changed (word_refusal (length w)) (left_of w) w z))

  turned_away : word_refusal (length w) ≢ 0 → (decoded_of w ≡ Err Bch) × (word_out w ≡ w)
  unfolding decoded_of word_out out_if
  turned_away n = (refused (word_refusal (length w)) (answer_of w) Bch (word_refused (length w) n), if_neg (ℕ_discrete (word_refusal (length w)) 0) n (left_of w) w)

  numbered : number_of (decoded_of w) ≡ word_refusal (length w)
  unfolding decoded_of
  numbered = number_answer (word_refusal (length w)) (answer_of w) (least (ℕ_discrete (word_refusal (length w)) 0))
    where
      least : Dec (word_refusal (length w) ≡ 0) → word_refusal (length w) ≤ highest
      least (yes z) = omega arith
      least (no n) = omega (arith, word_refused (length w) n)

  -- the two functions taken for others that are equal
  of_both : (P : List ℕ → Result (Option ℕ) Refusal → Type 0) (z : word_refusal (length w) ≡ 0) → P (left_of w) (Ok (answer_of w)) → P (word_out w) (decoded_of w)
  of_both P z p = subst (λ (x : List ℕ). P x (decoded_of w)) (sym (taken z).1) (subst (λ (d : Result (Option ℕ) Refusal). P (left_of w) d) (sym (taken z).0) p)

  -- what holds of an answer, where there is one
  if_taken : (P : List ℕ → Option ℕ → Type 0) → (word_refusal (length w) ≡ 0 → P (left_of w) (answer_of w)) → IfOk (decoded_of w) (P (word_out w))
  if_taken P p = pick (ℕ_discrete (word_refusal (length w)) 0)
    where
      pick : Dec (word_refusal (length w) ≡ 0) → IfOk (decoded_of w) (P (word_out w))
      pick (yes z) = of_both (λ x r. IfOk r (P x)) z (p z)
      pick (no n) = subst (λ (r : Result (Option ℕ) Refusal). IfOk r (P (word_out w))) (sym (turned_away n).0) tt

  pub decodes : Decodes w (word_out w) (decoded_of w)
  decodes =
      record {
        refused = turned_away;
        number = numbered;
        codeword = λ z C. of_both (λ x d. (d ≡ Ok (Some 0)) × (x ≡ w)) z (let k = codeword_kept w C in (ap Ok k.0, k.1));
        located = λ n. if_taken (Located w) (λ z. located w (λ e. n (remainder_codeword w e)));
        exact = if_taken (Exact w) (λ z. exact w (fair_size (length w) z));
        answer = refl;
        word = refl;
      }

  -- a word keeps its length
  pub word_length : length (word_out w) ≡ length w
  word_length = pick (ℕ_discrete (word_refusal (length w)) 0)
    where
      pick : Dec (word_refusal (length w) ≡ 0) → length (word_out w) ≡ length w
      pick (yes z) = ap length (taken z).1 ∙ sym (high_length (left_of w)) ∙ ap length (exact w (fair_size (length w) z)).rest ∙ high_length w
      pick (no n) = ap length (turned_away n).1

  decodes_so : (w' : List ℕ) (r : Result (Option ℕ) Refusal) → r ≡ decoded_of w → w' ≡ word_out w → Decodes w w' r
  decodes_so w' r e f = subst (λ (x : List ℕ). Decodes w x r) (sym f) (subst (λ (d : Result (Option ℕ) Refusal). Decodes w (word_out w) d) (sym e) decodes)

  -- ---- by the ways through `decode`: refused, a codeword, or by a shortest register
  pub decodes_refused : (length w < 193) ⊎ ((193 ≤ length w) × (65535 < length w)) → Decodes w w (Err Bch)
  decodes_refused h = let t = turned_away (by h) in decodes_so w (Err Bch) (sym t.0) (sym t.1)
    where
      by : (length w < 193) ⊎ ((193 ≤ length w) × (65535 < length w)) → word_refusal (length w) ≢ 0
      by (inl h) z = omega (arith, short_word (length w) h)
      by (inr h) z = omega (arith, long_word (length w) h.0 h.1)

  module _ (least : 193 ≤ length w) (most : length w ≤ 65535) where
    answered : (w' : List ℕ) (d : Option ℕ) → d ≡ answer_of w → w' ≡ left_of w → Decodes w w' (Ok d)
    answered w' d e f = let t = taken (fair_word (length w) least most) in decodes_so w' (Ok d) (ap Ok e ∙ sym t.0) (f ∙ sym t.1)

    pub decodes_clean : remainder_of w ≡ 0 → Decodes w w (Ok (Some 0))
    decodes_clean z = let k = codeword_kept w (remainder_codeword w z) in answered w (Some 0) (sym k.0) (sym k.1)

    pub decodes_located : remainder_of w ≢ 0 → (w' : List ℕ) (d : Option ℕ) → Located w w' d → Decodes w w' (Ok d)
    decodes_located n w' d L = let o = located_only w w' (left_of w) d (answer_of w) L (located w n) in answered w' d o.0 o.1
