-- A text is the rendering of at most one description within the limits.
use Rattle.std.specs.Prelude.{◌≡◌, refl, List, [], ◌∷◌, ◌++◌, map, ℕ, ◌≤◌}
use Rattle.std.proofs.Common.{sym, ap, ap₂, ◌∙◌, subst, append_assoc, append-nil}
use Rattle.laws.specs.Definitions.{decimal, signed}
use Rattle.report_form.specs.Description.{Pair, Word, Description, Within, each, line, pair_fields, row_line, settings_line, word_line, render}
use Rattle.report_form.specs.Forms.{Body, body_form, head_form, row_form, settings_form, word_form, pair_text}

abbrev pub body_of : Description → Body
body_of d = (d.rows, (d.settings, (d.words, tt)))

abbrev pub description_of : ℕ → Body → Description
description_of n b = record { n = n; rows = b.0; settings = b.1.0; words = b.1.1.0 }

pub body_within : (d : Description) → Within d → (body_form d.n).Within (body_of d)
body_within d w =
    (record { all = w.rows; three = w.three }, (w.settings, (record { all = w.words; sixteen = w.sixteen; short = w.n }, tt)))

pub description_within : (n : ℕ) (b : Body) → n ≤ 1122 → (body_form n).Within b → Within (description_of n b)
description_within n b h w =
    record { n = h; rows = w.0.all; three = w.0.three; settings = w.1.0; words = w.1.1.0.all; sixteen = w.1.1.0.sixteen }

each_same : {A : Type 0} (f g : A → List ℕ) → ((a : A) → f a ≡ g a) → (xs : List A) → each f xs ≡ each g xs
each_same f g h [] = refl
each_same f g h (x ∷ xs) = ap₂ (λ (a b : List ℕ). a ++ b) (h x) (each_same f g h xs)

-- the fields behind the first, each behind a tab
line_is : (field : List ℕ) (fields : List (List ℕ)) → line field fields ≡ field ++ (each (λ (f : List ℕ). 9 ∷ f) fields ++ 10 ∷ [])
line_is field [] = refl
line_is field (next ∷ fields) =
    ap (λ (x : List ℕ). field ++ 9 ∷ x) (line_is next fields ∙ sym (append_assoc next (each (λ (f : List ℕ). 9 ∷ f) fields) (10 ∷ [])))

row_is : (row : List ℕ) → each (λ (f : List ℕ). 9 ∷ f) (map decimal row) ≡ each (λ (a : ℕ). 9 ∷ decimal a) row
row_is [] = refl
row_is (a ∷ row) = ap (λ (x : List ℕ). (9 ∷ decimal a) ++ x) (row_is row)

pairs_are : (ps : List Pair) → each (λ (f : List ℕ). 9 ∷ f) (pair_fields ps) ≡ each pair_text ps
pairs_are [] = refl
pairs_are (p ∷ ps) =
    ap (λ (x : List ℕ). (9 ∷ decimal p.position) ++ ((9 ∷ signed p.value) ++ x)) (pairs_are ps)
    ∙ sym (append_assoc (9 ∷ decimal p.position) (9 ∷ signed p.value) (each pair_text ps))

pub row_line_lem : (row : List ℕ) → row_line row ≡ row_form.write row
row_line_lem row = line_is (82 ∷ []) (map decimal row) ∙ ap (λ (x : List ℕ). 82 ∷ (x ++ 10 ∷ [])) (row_is row)

pub word_line_lem : (n : ℕ) (w : Word) → word_line w ≡ (word_form n).write w
word_line_lem n w =
    ap (λ (x : List ℕ). 87 ∷ 9 ∷ x) (line_is (signed w.default) (pair_fields w.pairs))
    ∙ ap (λ (x : List ℕ). 87 ∷ 9 ∷ (signed w.default ++ (x ++ 10 ∷ []))) (pairs_are w.pairs)

joined : (a r s w : List ℕ) → (78 ∷ 9 ∷ (a ++ 10 ∷ [])) ++ r ++ s ++ w ≡ (78 ∷ 9 ∷ (a ++ 10 ∷ [])) ++ ((r ++ (s ++ (w ++ []))) ++ [])
joined a r s w = simp (append_assoc, append-nil)

lines : (a r r' s s' w w' : List ℕ) → r ≡ r' → s ≡ s' → w ≡ w' → a ++ r ++ s ++ w ≡ a ++ r' ++ s' ++ w'
lines a r r' s s' w w' p q t = cc

pub render_is : (d : Description) → render d ≡ head_form.write (d.n, tt) ++ ((body_form d.n).write (body_of d) ++ [])
unfolding render
render_is d =
    lines (line (78 ∷ []) (decimal d.n ∷ [])) (each row_line d.rows) (each row_form.write d.rows) (settings_line d.settings) (settings_form.write d.settings) (each word_line d.words) (each (word_form d.n).write d.words)
    (each_same row_line row_form.write row_line_lem d.rows)
    refl
    (each_same word_line (word_form d.n).write (word_line_lem d.n) d.words)
    ∙ joined (decimal d.n) (each row_form.write d.rows) (settings_form.write d.settings) (each (word_form d.n).write d.words)

same_body : (m n : ℕ) (b c : Body) → m ≡ n → (body_form m).Within b → (body_form n).Within c → (body_form m).write b ++ [] ≡ (body_form n).write c ++ [] → description_of m b ≡ description_of n c
same_body m n b c e = subst (λ (k : ℕ). (body_form m).Within b → (body_form k).Within c → (body_form m).write b ++ [] ≡ (body_form k).write c ++ [] → description_of m b ≡ description_of k c) e
    (λ w v h. ap (description_of m) ((body_form m).unique b c [] [] w v refl refl h).0)

-- two descriptions within the limits that have the same text are equal
pub render_injective : (d e : Description) → Within d → Within e → render d ≡ render e → d ≡ e
render_injective d e w v h =
    let (p, q) = head_form.unique (d.n, tt) (e.n, tt) ((body_form d.n).write (body_of d) ++ []) ((body_form e.n).write (body_of e) ++ []) (w.n, tt) (v.n, tt) tt tt (sym (render_is d) ∙ h ∙ render_is e) in
    same_body d.n e.n (body_of d) (body_of e) (ap (λ (x : ℕ × Unit). x.0) p) (body_within d w) (body_within e v) q
