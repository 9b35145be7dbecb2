-- What a caller learns of a reading: the limits of its numbers, and what the slice holds.
use Rattle.std.specs.Prelude.{◌≡◌, refl, List, [], ◌∷◌, ℕ, ◌+◌, ◌*◌, ◌≤◌, ℤ, length, take, drop, set, replicate}
use Rattle.std.proofs.Common.{sym, ap, ap₂, ◌∙◌, arith, length-append, length-set}
use Rattle.std.proofs.lemmas.List.{length-replicate, length-map}
use Rattle.std.proofs.Math.Seq.{take-append_seam}
use Rattle.report_form.specs.Description.{Settings, Pair, Word, All, RowWithin, flat, stored, soft_word, soft_words}
use Rattle.report_form.specs.Reading.{lengths_in, addresses_in, OneDescription}
use Rattle.report_form.specs.declared.Reading.{Reading}

pub flat_few : (rs : List (List ℕ)) → All RowWithin rs → length (flat rs) ≤ length rs * 4
flat_few [] w = omega arith
flat_few (r ∷ rs) w = omega (arith, length-append r (flat rs), w.0.few, flat_few rs w.1)

-- the limits of the numbers
pub record ReadingWithin (r : Reading) : Type 0 where
  pub n : r.n ≤ 1122
  pub rows : length (lengths_in r.rows) ≤ 3
  pub total : length (addresses_in r.rows) ≤ 12
  pub lanes : r.settings.lanes ≤ 4
  pub words : r.words ≤ 16

length_stored : (base : ℕ) (ps : List Pair) (l : List ℤ) → length (stored base ps l) ≡ length l
length_stored base [] l = refl
length_stored base (p ∷ ps) l = length_stored base ps (set l (base + p.position) p.value) ∙ length-set l (base + p.position) p.value

pub soft_word_length : (n : ℕ) (w : Word) → length (soft_word n w) ≡ n
soft_word_length n w = length_stored 0 w.pairs (replicate n w.default) ∙ length-replicate n w.default

pub soft_words_length : (n : ℕ) (ws : List Word) → length (soft_words n ws) ≡ length ws * n
soft_words_length n [] = omega arith
soft_words_length n (w ∷ ws) = omega (arith, length-append (soft_word n w) (soft_words n ws), soft_word_length n w, soft_words_length n ws)

module _ {text : List ℕ} {words : List ℤ} {r : Reading} {words' : List ℤ} (d : OneDescription text words r words') where
  pub limits : ReadingWithin r
  limits =
      let e = d.description in
      let a = d.answer in
      let w = d.within in
      record {
        n = omega (arith, a.n, w.n);
        rows = omega (arith, ap length a.lengths, length-map e.rows length, w.three);
        total = omega (arith, ap length a.addresses, flat_few e.rows w.rows, w.three);
        lanes = omega (arith, ap (λ (s : Settings). s.lanes) a.settings, w.settings.lanes);
        words = omega (arith, a.words, w.sixteen);
      }

  -- the words' soft values, without what stands behind them
  pub values_are : take (r.words * r.n) words' ≡ soft_words d.description.n d.description.words
  values_are =
      let e = d.description in
      ap₂ (λ (k : ℕ) (l : List ℤ). take k l) (ap₂ (λ (k m : ℕ). k * m) d.answer.words d.answer.n ∙ sym (soft_words_length e.n e.words)) d.values
      ∙ take-append_seam (soft_words e.n e.words) (drop (length (soft_words e.n e.words)) words)
