-- A whole text: the first line, the rows, the settings and the words.
use Rattle.std.proofs.Common.{◌≡◌, refl, sym, ap, ap₂, ◌∙◌, subst, List, [], ◌++◌, append_assoc, append-nil, ℕ, ◌*◌, ◌≤◌, ℤ, length, take, drop, zero-add, mul-le-mul_right, arith}
use Rattle.std.proofs.lemmas.List.Edits.{sets, sets-eq}
use Rattle.report_form.specs.Description.{Settings, Word, Description, Within, each, render, soft_words}
use Rattle.report_form.specs.Form.{Found, Missing, Ongoing, Hopeless, ListEnds, chain_none, chain_ends, seq_none, seq_missing}
use Rattle.report_form.specs.Forms.{rows, RowsWithin, rows_within, RowsSo, settings_form, settings_then, settings_apart, word_form, words_form, Body, body_form, head_form}
use Rattle.report_form.specs.Unique.{body_of, description_of, body_within, description_within, render_is, render_injective}
use Rattle.report_form.specs.Reading.{lengths_in, addresses_in, settings_of, overlaid, NoText, OneDescription}
use Rattle.report_form.specs.Accepted.{soft_words_length, values_are}
use Rattle.report_form.specs.declared.Reading.{Reading}

pub head_bound : {n : ℕ} {t u : List ℕ} → Found head_form (λ x. x.0 ≡ n) t u → n ≤ 1122
head_bound f = subst (λ (k : ℕ). k ≤ 1122) f.says f.within.0

-- no first line
pub no_head : {t : List ℕ} → Missing head_form t → NoText t
no_head m d w q = m.none (d.n, tt) ((body_form d.n).write (body_of d) ++ []) (w.n, tt) tt (sym q ∙ render_is d)

-- a first line, and no lines behind it
no_lines : (m n : ℕ) (b : Body) (u : List ℕ) → m ≡ n → (body_form m).Within b → u ≡ (body_form m).write b ++ [] → Missing (body_form n) u → ⊥
no_lines m n b u e = subst (λ (k : ℕ). (body_form m).Within b → u ≡ (body_form m).write b ++ [] → Missing (body_form k) u → ⊥) e (λ w q x. x.none b [] w refl q)

no_body : (n : ℕ) {t u : List ℕ} → Found head_form (λ x. x.0 ≡ n) t u → Missing (body_form n) u → NoText t
no_body n {t} {u} f x d w q =
    let (p, r) = head_form.unique (d.n, tt) f.it ((body_form d.n).write (body_of d) ++ []) u (w.n, tt) f.within tt f.after (sym (render_is d) ∙ q ∙ f.here) in
    no_lines d.n n (body_of d) u (ap (λ (y : ℕ × Unit). y.0) p ∙ f.says) (body_within d w) (sym r) x

module _ {n : ℕ} {t u : List ℕ} (f : Found head_form (λ x. x.0 ≡ n) t u) where
  pub no_rows : Hopeless rows RowsWithin rows_within u → NoText t
  no_rows h = no_body n f (chain_none rows RowsWithin rows_within (settings_then n) (λ b r _ _. settings_apart _) h)

  pub no_settings : {S : List (List ℕ) → Type 0} {v : List ℕ} → Ongoing rows RowsWithin rows_within S u v × ListEnds rows RowsWithin rows_within S v → Missing settings_form v → NoText t
  no_settings o m =
      no_body n f
      (chain_ends rows RowsWithin rows_within (settings_then n) (λ b r _ _. settings_apart _) o.0 o.1 (seq_none settings_form (words_form n) (λ _ _ _ _. tt) m))

  pub no_words : {S : List (List ℕ) → Type 0} {S' : Settings → Type 0} {v w : List ℕ} → Ongoing rows RowsWithin rows_within S u v × ListEnds rows RowsWithin rows_within S v → Found settings_form S' v w
      → Missing (words_form n) w → NoText t
  no_words o g m =
      no_body n f
      (chain_ends rows RowsWithin rows_within (settings_then n) (λ b r _ _. settings_apart _) o.0 o.1 (seq_missing settings_form (words_form n) (λ _ _ _ _. tt) g m))

laid_over : (xs ys : List ℤ) → length xs ≤ length ys → sets ys 0 xs ≡ overlaid xs ys
laid_over xs ys h = sets-eq xs ys 0 (omega arith) ∙ ap (λ (i : ℕ). xs ++ drop i ys) (zero-add (length xs))

soft_room : (n : ℕ) (ws : List Word) → n ≤ 1122 → length ws ≤ 16 → length (soft_words n ws) ≤ 17952
soft_room n ws h l = omega (arith, soft_words_length n ws, mul-le-mul_right n l)

joined : (a r s w : List ℕ) → a ++ (r ++ (s ++ ((w ++ []) ++ []))) ≡ a ++ ((r ++ (s ++ (w ++ []))) ++ [])
joined a r s w = simp (append_assoc, append-nil)

-- the lines are those of one description
module _ (r : Reading) {t u v w : List ℕ} {l l' : List ℤ} (h : Found head_form (λ y. y.0 ≡ r.n) t u) (o : Ongoing rows RowsWithin rows_within (RowsSo (lengths_in r.rows) (addresses_in r.rows)) u v)
    (g : Found settings_form (λ s. s ≡ settings_of r.settings) v w) (f : Found (words_form r.n) (λ y. (length y.0 ≡ r.words) × (l' ≡ sets l 0 (soft_words r.n y.0))) w []) where
  described : Description
  described = description_of r.n (o.done, (g.it, f.it))

  described_within : Within described
  unfolding described
  described_within = description_within r.n (o.done, (g.it, f.it)) (head_bound h) (o.ok, (g.within, f.within))

  described_writes : render described ≡ t
  unfolding described
  described_writes = sym (
      h.here
      ∙ ap₂ (λ (i : ℕ) (l : List ℕ). head_form.write (i, tt) ++ l) h.says (o.here
      ∙ ap (λ (l : List ℕ). each rows.form.write o.done ++ l) (g.here
      ∙ ap (λ (l : List ℕ). settings_form.write g.it ++ l) f.here))
      ∙ joined (head_form.write (r.n, tt)) (each rows.form.write o.done) (settings_form.write g.it) (each (word_form r.n).write f.it.0)
      ∙ sym (render_is (description_of r.n (o.done, (g.it, f.it)))))

  pub one_description : 17952 ≤ length l → OneDescription t l r l'
  unfolding described
  one_description room =
      record {
        description = described;
        within = described_within;
        writes = described_writes;
        only = λ d w' q. render_injective d described w' described_within (q ∙ sym described_writes);
        answer = record { n = refl; lengths = o.says.lengths_are; addresses = o.says.places_are; settings = sym g.says; words = sym f.says.0 };
        values = f.says.1 ∙ laid_over (soft_words r.n f.it.0) l (omega (arith, soft_room r.n f.it.0 (head_bound h) f.within.0.sixteen));
      }

-- ---- the soft values read, written over the beginning of another slice

pub written_over : {t : List ℕ} {l l' : List ℤ} {r : Reading} (d : OneDescription t l r l') (words copied : List ℤ) → copied ≡ take (r.words * r.n) l'
    → OneDescription t words r (copied ++ drop (r.words * r.n) words)
written_over d words copied e =
    let x = d.description in
    let k = ap₂ (λ (i j : ℕ). i * j) d.answer.words d.answer.n ∙ sym (soft_words_length x.n x.words) in
    record {
      description = x;
      within = d.within;
      writes = d.writes;
      only = d.only;
      answer = d.answer;
      values = ap₂ (λ (a : List ℤ) (i : ℕ). a ++ drop i words) (e ∙ values_are d) k;
    }
