-- A word's line, and the words' lines read one by one: their soft values are stored one after another.
use Rattle.std.proofs.Common.{◌≡◌, refl, sym, ap, ap₂, ◌∙◌, subst, List, [], ◌∷◌, ◌++◌, ℕ, suc, ◌+◌, ◌*◌, ◌≤◌, ◌<◌, ℤ, length, drop, replicate, take, ◌-◌, length-drop, length-take-le, mul-le-mul_right, add-one, append_assoc, append-nil, arith}
use Rattle.std.proofs.lemmas.List.{drop-drop}
use Rattle.std.proofs.Math.Seq.{length-sets}
use Rattle.std.proofs.lemmas.List.Edits.{sets, sets-eq}
use Rattle.laws.specs.Stores.{sets_append}
use Rattle.report_form.specs.Accepted.{soft_words_length}
use Rattle.report_form.specs.Description.{Word, WordWithin, stored, soft_word, soft_words}
use Rattle.report_form.specs.Form.{Found, Missing, byte, found_as, lead, lead_found, lead_none, lead_missing, seq_found, seq_none, seq_missing, via_found, via_missing, end, Ongoing, going_more, chain_found, chain_ends, chain_stops}
use Rattle.report_form.specs.Forms.{smalls, pair_chain, pairs_stop, word_fields, word_fields_stand, word_form, words, WordsWithin, words_within, end_apart, words_form}
use Rattle.report_form.proofs.Lists.{list_full, length_snoc, all_snoc}

-- ---- a word
module _ (n : ℕ) where
  pub no_word_letter : {t : List ℕ} → Missing (byte 87) t → Missing (word_form n) t
  no_word_letter m = via_missing (lead 87 (word_fields n)) (word_fields_stand n) (lead_none 87 (word_fields n) m)

  pub no_default : {t u : List ℕ} → Found (byte 87) (λ _. Unit) t u → Missing (lead 9 smalls) u → Missing (word_form n) t
  no_default h m =
      via_missing (lead 87 (word_fields n)) (word_fields_stand n)
      (lead_missing 87 (word_fields n) h (seq_none (lead 9 smalls) (pair_chain n) (λ b r _ _. pairs_stop b.0 r) m))

  pub no_pairs : {S : ℤ → Type 0} {t u v : List ℕ} {k : ℕ} → k ≡ n → Found (byte 87) (λ _. Unit) t u → Found (lead 9 smalls) S u v → Missing (pair_chain k) v → Missing (word_form n) t
  no_pairs {v = v} e h d m =
      via_missing (lead 87 (word_fields n)) (word_fields_stand n)
      (lead_missing 87 (word_fields n) h (seq_missing (lead 9 smalls) (pair_chain n) (λ b r _ _. pairs_stop b.0 r) d (subst (λ (i : ℕ). Missing (pair_chain i) v) e m)))

  pub word_found : {value : ℤ} {filled word' : List ℤ} {t u v w : List ℕ} {k : ℕ} → k ≡ n → Found (byte 87) (λ _. Unit) t u → Found (lead 9 smalls) (λ x. x ≡ value) u v → filled ≡ replicate n value
      → Found (pair_chain k) (λ x. word' ≡ stored 0 x.0 filled) v w → Found (word_form n) (λ x. word' ≡ soft_word n x) t w
  word_found {filled = filled} {word'} {v = v} {w} same h d e p =
      via_found (lead 87 (word_fields n)) (word_fields_stand n)
      (λ x s. s.1 ∙ ap (stored 0 x.1.0) (e ∙ ap (replicate n) (sym s.0)))
      (lead_found 87 (word_fields n) h
      (seq_found (lead 9 smalls) (pair_chain n) (λ b r _ _. pairs_stop b.0 r) d
      (subst (λ (i : ℕ). Found (pair_chain i) (λ x. word' ≡ stored 0 x.0 filled) v w) same p)))

-- ---- all words

-- the part that a word is lent, and what the whole is behind it
pub lent_length : (n start : ℕ) (soft : List ℤ) → start + n ≤ length soft → length (take (start + n - start) (drop start soft)) ≡ n
lent_length n start soft h =
    let e : start + n - start ≡ n = omega arith in
    rw e (length-take-le n (drop start soft) (omega (arith, length-drop start soft)))

pub put_back : (n start : ℕ) (soft word' : List ℤ) → start + n ≤ length soft → length word' ≡ n
    → take start soft ++ (word' ++ drop (start + n - start) (drop start soft)) ≡ sets soft start word'
put_back n start soft word' h l =
    let e : start + (start + n - start) ≡ start + length word' = omega arith in
    sym (append_assoc (take start soft) word' (drop (start + n - start) (drop start soft)))
    ∙ ap (λ (x : List ℤ). (take start soft ++ word') ++ x) (drop-drop (start + n - start) start soft ∙ ap (λ (k : ℕ). drop k soft) e)
    ∙ sym (sets-eq word' soft start (omega arith))

pub record WordsSo (n : ℕ) (soft : List ℤ) (count : ℕ) (soft' : List ℤ) (ws : List Word) : Type 0 where
  pub count_is : length ws ≡ count
  pub stores : soft' ≡ sets soft 0 (soft_words n ws)

soft_words_snoc : (n : ℕ) (ws : List Word) (w : Word) → soft_words n (ws ++ w ∷ []) ≡ soft_words n ws ++ soft_word n w
soft_words_snoc n [] w = append-nil (soft_word n w)
soft_words_snoc n (v ∷ ws) w = ap (λ (l : List ℤ). soft_word n v ++ l) (soft_words_snoc n ws w) ∙ sym (append_assoc (soft_word n v) (soft_words n ws) (soft_word n w))

module _ (n : ℕ) where
  abbrev pub WordsSoFar : List ℤ → ℕ → List ℤ → List ℕ → List ℕ → Type 0
  WordsSoFar soft count soft' t now = Ongoing (words n) (WordsWithin n) (words_within n) (WordsSo n soft count soft') t now

  -- the room for one word more
  pub words_room : {soft soft' : List ℤ} {count : ℕ} {t now : List ℕ} → WordsSoFar soft count soft' t now → length soft ≡ 17952 → count < 16 → count * n + n ≤ length soft'
  words_room {soft} {count = count} o l c = omega (arith, mul-le-mul_right n (lt15 count c), o.ok.short, ap length o.says.stores ∙ length-sets soft 0 (soft_words n o.done))
    where
      lt15 : (k : ℕ) → k < 16 → k ≤ 15
      lt15 k h = omega arith

  pub words_again : {soft soft' soft'' word' : List ℤ} {count k : ℕ} {t now next : List ℕ} → WordsSoFar soft count soft' t now → k ≡ n
      → Found (word_form k) (λ w. word' ≡ soft_word k w) now next → soft'' ≡ sets soft' (count * n) word' → count < 16 → WordsSoFar soft (count + 1) soft'' t next
  words_again {soft} {soft'} {soft''} {word'} {count} {t = t} {now} {next} o same g e c =
      let f : Found (word_form n) (λ w. word' ≡ soft_word n w) now next = subst (λ (i : ℕ). Found (word_form i) (λ w. word' ≡ soft_word i w) now next) same g in
      going_more (words n) (WordsWithin n) (words_within n) (WordsSo n soft count soft') (WordsSo n soft (count + 1) soft'') (λ w. word' ≡ soft_word n w) t now next o f
      (record {
        all = all_snoc (WordWithin n) o.done f.it o.ok.all f.within.within;
        sixteen = omega (arith, length_snoc o.done f.it, o.says.count_is);
        short = o.ok.short;
      })
      (record {
        count_is = length_snoc o.done f.it ∙ ap suc o.says.count_is ∙ sym (add-one count);
        stores = e
            ∙ ap₂ (λ (l v : List ℤ). sets l (count * n) v) o.says.stores f.says
            ∙ ap (λ (k : ℕ). sets (sets soft 0 (soft_words n o.done)) k (soft_word n f.it)) (omega (arith, soft_words_length n o.done, ap (λ (k : ℕ). k * n) o.says.count_is))
            ∙ sym (sets_append soft 0 (soft_words n o.done) (soft_word n f.it))
            ∙ ap (sets soft 0) (sym (soft_words_snoc n o.done f.it));
      })

  -- the text goes on, and with no word
  pub words_none : {soft soft' : List ℤ} {count k : ℕ} {t now : List ℕ} → WordsSoFar soft count soft' t now → (now ≡ [] → ⊥) → k ≡ n → Missing (word_form k) now → Missing (words_form n) t
  words_none {now = now} o h same m =
      chain_stops (words n) (WordsWithin n) (words_within n) end (λ b r _ e. end_apart n r e) o (subst (λ (i : ℕ). Missing (word_form i) now) same m)
      (record { none = λ a r w f g. h (g ∙ f) })

  -- the text goes on behind the last word that may come
  pub words_unended : {soft soft' : List ℤ} {count : ℕ} {t now : List ℕ} → WordsSoFar soft count soft' t now → 16 ≤ count → (now ≡ [] → ⊥) → Missing (words_form n) t
  words_unended {soft} {soft'} {count} {now = now} o e m =
      chain_ends (words n) (WordsWithin n) (words_within n) end (λ b r _ e. end_apart n r e) o
      (list_full (words n) (WordsWithin n) (words_within n) (WordsSo n soft count soft') 16 count (λ _ w. w.sixteen) (λ _ s. s.count_is) now e)
      (record { none = λ a r w f g. m (g ∙ f) })

  pub words_found : {soft soft' : List ℤ} {count : ℕ} {t now : List ℕ} → WordsSoFar soft count soft' t now → now ≡ []
      → Found (words_form n) (λ x. (length x.0 ≡ count) × (soft' ≡ sets soft 0 (soft_words n x.0))) t []
  words_found {now = now} o e =
      let ended : Found end (λ _. Unit) now [] = record { it = tt; says = tt; within = tt; here = e; after = refl } in
      found_as
      (chain_found (words n) (WordsWithin n) (words_within n) end (λ b r _ e. end_apart n r e) o ended)
      (λ x s. (s.0.count_is, s.0.stores))
