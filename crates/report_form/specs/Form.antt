-- A form: how values are written, which of them are within the limits, what may follow, and that a text begins with at most one of them.
-- Reading one at a place of a text, several one after another, and a list of them.
--
-- In order: a form, and what reading it answers (`Found`, `Missing`, `Reads`, `Passes`); one byte, and the end; a form behind another (`seq`); a form's values in
-- place of others (`via`); a text in front (`lead`); lists of a form's values (`Items`, `Listed`).
--
-- Not here: the report's own forms (Forms).
use Rattle.std.specs.Prelude.{◌≡◌, refl, ◌⊎◌, List, [], ◌∷◌, ◌++◌, ℕ, Option, Some, None, MatchOption, get_or}
use Rattle.std.specs.Borrow.{Bor}
use Rattle.std.proofs.Common.{sym, ap, ap₂, ◌∙◌, subst, inl, inr, append_assoc, append-nil}
use Rattle.report_form.specs.Description.{All, each}

pub record Form (A : Type 0) : Type 1 where
  pub write : A → List ℕ
  pub Within : A → Type 0
  pub Follow : List ℕ → Type 0
  pub unique : (a b : A) (r s : List ℕ) → Within a → Within b → Follow r → Follow s → write a ++ r ≡ write b ++ s → (a ≡ b) × (r ≡ s)

-- a text that begins with one, and goes on with rest
pub record Found {A : Type 0} (F : Form A) (Says : A → Type 0) (t rest : List ℕ) : Type 0 where
  pub it : A
  pub says : Says it
  pub within : F.Within it
  pub here : t ≡ F.write it ++ rest
  pub after : F.Follow rest

-- a text that begins with none
pub record Missing {A : Type 0} (F : Form A) (t : List ℕ) : Type 0 where
  pub none : (a : A) (rest : List ℕ) → F.Within a → F.Follow rest → t ≡ F.write a ++ rest → ⊥

-- what a reader answers at t: nothing, and t begins with none of the form; or a value and the text behind it, and t begins with one of which Says
-- tells
abbrev pub Reads : {A V : Type 0} → Form A → (V → A → Type 0) → List ℕ → Option (V × Bor (List ℕ)) → Type 0
Reads F Says t result = MatchOption result (Missing F t) (λ r. Found F (Says r.0) t r.1.now)

-- the same of one that answers the text behind it alone
abbrev pub Passes : {A : Type 0} → Form A → (A → Type 0) → List ℕ → Option (Bor (List ℕ)) → Type 0
Passes F Says t result = MatchOption result (Missing F t) (λ rest. Found F Says t rest.now)

-- what one reader found, or did not find, says what another does
pub match_both : {R P P' : Type 0} {Q Q' : R → Type 0} (o : Option R) → MatchOption o P Q → (P → P') → ((r : R) → Q r → Q' r) → MatchOption o P' Q'
match_both None h f g = f h
match_both (Some r) h f g = g r h

-- what is found, with something else said of it
pub found_as : {A : Type 0} {F : Form A} {S S' : A → Type 0} {t u : List ℕ} → Found F S t u → ((a : A) → S a → S' a) → Found F S' t u
found_as f g = record { it = f.it; says = g f.it f.says; within = f.within; here = f.here; after = f.after }

-- one byte
pub one_byte : (b : ℕ) (r s : List ℕ) → b ∷ r ≡ b ∷ s → r ≡ s
one_byte b r s e = cc

abbrev pub byte : ℕ → Form Unit
byte b =
    record {
      write = λ _. b ∷ [];
      Within = λ _. Unit;
      Follow = λ _. Unit;
      unique = λ a a' r s _ _ _ _ e. (refl, one_byte b r s e);
    }

-- the text's end
abbrev pub end : Form Unit
end =
    record {
      write = λ _. [];
      Within = λ _. Unit;
      Follow = λ r. r ≡ [];
      unique = λ a a' r s _ _ _ _ e. (refl, e);
    }

module _ {A B : Type 0} (F : Form A) (G : Form B) (joins : (b : B) (r : List ℕ) → G.Within b → G.Follow r → F.Follow (G.write b ++ r)) where
  -- one and then the other
  pub seq_unique : (a b : A × B) (r s : List ℕ) → F.Within a.0 × G.Within a.1 → F.Within b.0 × G.Within b.1 → G.Follow r → G.Follow s
      → (F.write a.0 ++ G.write a.1) ++ r ≡ (F.write b.0 ++ G.write b.1) ++ s → (a ≡ b) × (r ≡ s)
  seq_unique a b r s ha hb hr hs e =
      let e' : F.write a.0 ++ (G.write a.1 ++ r) ≡ F.write b.0 ++ (G.write b.1 ++ s) =
      sym (append_assoc (F.write a.0) (G.write a.1) r) ∙ e ∙ append_assoc (F.write b.0) (G.write b.1) s in
      let (p, q) = F.unique a.0 b.0 _ _ ha.0 hb.0 (joins a.1 r ha.1 hr) (joins b.1 s hb.1 hs) e' in
      let (p', q') = G.unique a.1 b.1 r s ha.1 hb.1 hr hs q in
      (ap₂ (λ (x : A) (y : B). (x, y)) p p', q')

  abbrev pub seq : Form (A × B)
  seq =
      record {
        write = λ x. F.write x.0 ++ G.write x.1;
        Within = λ x. F.Within x.0 × G.Within x.1;
        Follow = G.Follow;
        unique = seq_unique;
      }

  pub seq_found : {S : A → Type 0} {S' : B → Type 0} {t u v : List ℕ} → Found F S t u → Found G S' u v → Found seq (λ x. S x.0 × S' x.1) t v
  seq_found {v = v} a b =
      record {
        it = (a.it, b.it);
        says = (a.says, b.says);
        within = (a.within, b.within);
        here = a.here ∙ ap (λ (x : List ℕ). F.write a.it ++ x) b.here ∙ sym (append_assoc (F.write a.it) (G.write b.it) v);
        after = b.after;
      }

  -- none of the first, or none of the second behind it
  pub seq_none : {t : List ℕ} → Missing F t → Missing seq t
  seq_none m =
      record {
        none = λ x r w f e. m.none x.0 (G.write x.1 ++ r) w.0 (joins x.1 r w.1 f) (e ∙ append_assoc (F.write x.0) (G.write x.1) r);
      }

  pub seq_missing : {S : A → Type 0} {t u : List ℕ} → Found F S t u → Missing G u → Missing seq t
  seq_missing {u = u} a m =
      record {
        none = λ x r w f e.
            let e' : F.write a.it ++ u ≡ F.write x.0 ++ (G.write x.1 ++ r) = sym a.here ∙ e ∙ append_assoc (F.write x.0) (G.write x.1) r in
            let q = F.unique a.it x.0 u _ a.within w.0 a.after (joins x.1 r w.1 f) e' in
            m.none x.1 r w.1 f q.1;
      }

-- values of another type that stand for the form's own, with the limits said otherwise
pub record StandFor {A : Type 0} (F : Form A) (B : Type 0) : Type 1 where
  pub to : B → A
  pub from : A → B
  pub from_to : (b : B) → from (to b) ≡ b
  pub to_from : (a : A) → to (from a) ≡ a
  pub Within : B → Type 0
  pub to_within : (b : B) → Within b → F.Within (to b)
  pub from_within : (a : A) → F.Within a → Within (from a)

module _ {A B : Type 0} (F : Form A) (m : StandFor F B) where
  -- the same texts, of those values
  pub via_unique : (a b : B) (r s : List ℕ) → m.Within a → m.Within b → F.Follow r → F.Follow s → F.write (m.to a) ++ r ≡ F.write (m.to b) ++ s → (a ≡ b) × (r ≡ s)
  via_unique a b r s ha hb hr hs e =
      let (p, q) = F.unique (m.to a) (m.to b) r s (m.to_within a ha) (m.to_within b hb) hr hs e in
      (sym (m.from_to a) ∙ ap m.from p ∙ m.from_to b, q)

  abbrev pub via : Form B
  via = record { write = λ b. F.write (m.to b); Within = m.Within; Follow = F.Follow; unique = via_unique }

  pub via_found : {S : A → Type 0} {S' : B → Type 0} {t u : List ℕ} → ((a : A) → S a → S' (m.from a)) → Found F S t u → Found via S' t u
  via_found {u = u} s f =
      record {
        it = m.from f.it;
        says = s f.it f.says;
        within = m.from_within f.it f.within;
        here = f.here ∙ ap (λ (x : A). F.write x ++ u) (sym (m.to_from f.it));
        after = f.after;
      }

  pub via_missing : {t : List ℕ} → Missing F t → Missing via t
  via_missing n = record { none = λ b r w f e. n.none (m.to b) r (m.to_within b w) f e }

-- a byte before one
module _ {A : Type 0} (b : ℕ) (F : Form A) where
  pub lead_unique : (a a' : A) (r s : List ℕ) → F.Within a → F.Within a' → F.Follow r → F.Follow s → b ∷ (F.write a ++ r) ≡ b ∷ (F.write a' ++ s) → (a ≡ a') × (r ≡ s)
  lead_unique a a' r s ha hb hr hs e = F.unique a a' r s ha hb hr hs (one_byte b (F.write a ++ r) (F.write a' ++ s) e)

  abbrev pub lead : Form A
  lead = record { write = λ a. b ∷ F.write a; Within = F.Within; Follow = F.Follow; unique = lead_unique }

  pub lead_found : {S : A → Type 0} {t u v : List ℕ} → Found (byte b) (λ _. Unit) t u → Found F S u v → Found lead S t v
  lead_found {v = v} h f =
      record { it = f.it; says = f.says; within = f.within; here = h.here ∙ ap (λ (x : List ℕ). b ∷ x) f.here; after = f.after }

  pub lead_none : {t : List ℕ} → Missing (byte b) t → Missing lead t
  lead_none m = record { none = λ a r w f e. m.none tt (F.write a ++ r) tt tt e }

  pub lead_missing : {t u : List ℕ} → Found (byte b) (λ _. Unit) t u → Missing F u → Missing lead t
  lead_missing {u = u} h m = record { none = λ a r w f e. m.none a r w f (one_byte b u (F.write a ++ r) (sym h.here ∙ e)) }

-- items that begin with a byte of their own, and may follow one another
pub record Items (A : Type 0) : Type 1 where
  pub form : Form A
  pub mark : ℕ
  pub body : A → List ℕ
  pub begins : (a : A) → form.write a ≡ mark ∷ body a
  pub goes : (u : List ℕ) → form.Follow (mark ∷ u)

module _ {A : Type 0} (I : Items A) (Fine : List A → Type 0) (fine : (xs : List A) → Fine xs → All I.form.Within xs) where
  -- a text that goes on with no item
  pub record Apart (u : List ℕ) : Type 0 where
    pub other : get_or u 0 0 ≡ I.mark → ⊥
    pub follow : I.form.Follow u

  -- what may follow the items read so far
  abbrev pub Behind : List A → List ℕ → Type 0
  Behind [] u = Unit
  Behind (a ∷ xs) u = I.form.Follow u

  follow_each : (xs : List A) (u : List ℕ) → I.form.Follow u → I.form.Follow (each I.form.write xs ++ u)
  follow_each [] u f = f
  follow_each (a ∷ xs) u f =
      subst I.form.Follow (sym (ap (λ (x : List ℕ). (x ++ each I.form.write xs) ++ u) (I.begins a))) (I.goes _)

  item_here : (a : A) (xs : List A) (u : List ℕ) → get_or (each I.form.write (a ∷ xs) ++ u) 0 0 ≡ I.mark
  item_here a xs u = ap (λ (x : List ℕ). get_or ((x ++ each I.form.write xs) ++ u) 0 0) (I.begins a)

  -- items read so far are the first of all
  items_prefix : (done xs : List A) (now u : List ℕ) → All I.form.Within done → All I.form.Within xs → Behind done now → Apart u
      → each I.form.write done ++ now ≡ each I.form.write xs ++ u → (more : List A) × (xs ≡ done ++ more) × (now ≡ each I.form.write more ++ u)
  items_prefix [] xs now u hd ha b p e = (xs, refl, e)
  items_prefix (d ∷ done) [] now u hd ha b p e = absurd (p.other (ap (λ (x : List ℕ). get_or x 0 0) (sym e) ∙ item_here d done now))
  items_prefix (d ∷ done) (a ∷ xs) now u hd ha b p e =
      let F = I.form in
      let e' : F.write d ++ (each F.write done ++ now) ≡ F.write a ++ (each F.write xs ++ u) =
      sym (append_assoc (F.write d) (each F.write done) now) ∙ e ∙ append_assoc (F.write a) (each F.write xs) u in
      let (p₁, q₁) = F.unique d a _ _ hd.0 ha.0 (follow_each done now b) (follow_each xs u p.follow) e' in
      let (more, x, y) = items_prefix done xs now u hd.1 ha.1 (behind done b) p q₁ in
      (more, ap₂ (λ (a' : A) (l : List A). a' ∷ l) (sym p₁) x, y)
    where
      behind : (done : List A) → I.form.Follow now → Behind done now
      behind [] f = tt
      behind (x ∷ ys) f = f

  -- the items read so far, and what is left of the text
  pub record Ongoing (Says : List A → Type 0) (t now : List ℕ) : Type 0 where
    pub done : List A
    pub says : Says done
    pub ok : Fine done
    pub here : t ≡ each I.form.write done ++ now
    pub behind : Behind done now

  -- a text that begins with no such list
  pub record Hopeless (t : List ℕ) : Type 0 where
    pub none : (xs : List A) (u : List ℕ) → Fine xs → Apart u → t ≡ each I.form.write xs ++ u → ⊥

  pub going_start : (Says : List A → Type 0) (t : List ℕ) → Fine [] → Says [] → Ongoing Says t t
  going_start Says t f s = record { done = []; says = s; ok = f; here = refl; behind = tt }

  behind_snoc : (xs : List A) (x : A) (u : List ℕ) → I.form.Follow u → Behind (xs ++ x ∷ []) u
  behind_snoc [] x u f = f
  behind_snoc (y ∷ ys) x u f = f

  each_snoc : (xs : List A) (x : A) (u : List ℕ) → each I.form.write xs ++ (I.form.write x ++ u) ≡ each I.form.write (xs ++ x ∷ []) ++ u
  each_snoc [] x u = ap (λ (l : List ℕ). l ++ u) (sym (append-nil (I.form.write x)))
  each_snoc (y ∷ ys) x u =
      append_assoc (I.form.write y) (each I.form.write ys) (I.form.write x ++ u)
      ∙ ap (λ (l : List ℕ). I.form.write y ++ l) (each_snoc ys x u)
      ∙ sym (append_assoc (I.form.write y) (each I.form.write (ys ++ x ∷ [])) u)

  -- one item more
  pub going_more : (Says Says' : List A → Type 0) (S : A → Type 0) (t now next : List ℕ) (o : Ongoing Says t now) (f : Found I.form S now next) → Fine (o.done ++ f.it ∷ [])
      → Says' (o.done ++ f.it ∷ []) → Ongoing Says' t next
  going_more Says Says' S t now next o f ok s =
      record {
        done = o.done ++ f.it ∷ [];
        says = s;
        ok = ok;
        here = o.here ∙ ap (λ (l : List ℕ). each I.form.write o.done ++ l) f.here ∙ each_snoc o.done f.it next;
        behind = behind_snoc o.done f.it next f.after;
      }

  all_behind : (xs ys : List A) → All I.form.Within (xs ++ ys) → All I.form.Within ys
  all_behind [] ys h = h
  all_behind (x ∷ xs) ys h = all_behind xs ys h.1

  -- what a whole list has behind the items read so far
  record Rest (done : List A) (now u : List ℕ) : Type 0 where
    more : List A
    ok : Fine (done ++ more)
    within : All I.form.Within more
    here : now ≡ each I.form.write more ++ u

  rest_of : {Says : List A → Type 0} {t now : List ℕ} (o : Ongoing Says t now) (xs : List A) (u : List ℕ) → Fine xs → Apart u → t ≡ each I.form.write xs ++ u → Rest o.done now u
  rest_of {now = now} o xs u ok p e =
      let w = fine xs ok in
      let (more, x, y) = items_prefix o.done xs now u (fine o.done o.ok) w o.behind p (sym o.here ∙ e) in
      record { more = more; ok = subst Fine x ok; within = all_behind o.done more (subst (All I.form.Within) x w); here = y }

  -- the next item of a list whose mark is there
  next_item : (done : List A) (now u : List ℕ) → Rest done now u → Apart u → get_or now 0 0 ≡ I.mark
      → (x : A) × (xs : List A) × Fine (done ++ x ∷ xs) × I.form.Within x × (now ≡ I.form.write x ++ (each I.form.write xs ++ u)) × I.form.Follow (each I.form.write xs ++ u)
  next_item done now u r p h = go r.more r.ok r.within r.here
    where
      go : (more : List A) → Fine (done ++ more) → All I.form.Within more → now ≡ each I.form.write more ++ u
          → (x : A) × (xs : List A) × Fine (done ++ x ∷ xs) × I.form.Within x × (now ≡ I.form.write x ++ (each I.form.write xs ++ u)) × I.form.Follow (each I.form.write xs ++ u)
      go [] ok w y = absurd (p.other (ap (λ (l : List ℕ). get_or l 0 0) (sym y) ∙ h))
      go (x ∷ xs) ok w y =
          (x, xs, ok, w.0, y ∙ append_assoc (I.form.write x) (each I.form.write xs) u, follow_each xs u p.follow)

  -- no item, though its mark is there
  pub going_missing : (Says : List A → Type 0) (t now : List ℕ) → Ongoing Says t now → get_or now 0 0 ≡ I.mark → Missing I.form now → Hopeless t
  going_missing Says t now o h m =
      record {
        none = λ xs u ok p e.
            let (a, more, f, w, y, v) = next_item o.done now u (rest_of o xs u ok p e) p h in
            m.none a (each I.form.write more ++ u) w v y;
      }

  -- an item with which no list goes on
  pub going_wrong : (Says : List A → Type 0) (S : A → Type 0) (t now next : List ℕ) (o : Ongoing Says t now) (f : Found I.form S now next)
      → ((more : List A) → Fine (o.done ++ f.it ∷ more) → ⊥) → Hopeless t
  going_wrong Says S t now next o i bad =
      let h : get_or now 0 0 ≡ I.mark = ap (λ (l : List ℕ). get_or l 0 0) (i.here ∙ ap (λ (l : List ℕ). l ++ next) (I.begins i.it)) in
      record {
        none = λ xs u ok p e.
            let (a, more, f, w, y, v) = next_item o.done now u (rest_of o xs u ok p e) p h in
            let q = I.form.unique a i.it _ next w i.within v i.after (sym y ∙ i.here) in
            bad more (subst (λ (x : A). Fine (o.done ++ x ∷ more)) q.0 f);
      }

  -- the list's end: the text goes on with no item, or the list is full
  abbrev pub ListEnds : (List A → Type 0) → List ℕ → Type 0
  ListEnds Says now = (xs : List A) → Says xs → (get_or now 0 0 ≡ I.mark → ⊥) ⊎ ((x : A) (more : List A) → Fine (xs ++ x ∷ more) → ⊥)

  -- what a reader of a list answers at t: no list; or what it says of the items, and the list ends where the text behind begins
  abbrev pub Listed : {V : Type 0} → (V → List A → Type 0) → List ℕ → Option (V × Bor (List ℕ)) → Type 0
  Listed Says t result = MatchOption result (Hopeless t) (λ r. Ongoing (Says r.0) t r.1.now × ListEnds (Says r.0) r.1.now)

  -- a list, and then another form
  module _ {B : Type 0} (G : Form B) (apart : (b : B) (r : List ℕ) → G.Within b → G.Follow r → Apart (G.write b ++ r)) where
    behind_all : (xs : List A) (u : List ℕ) → I.form.Follow u → Behind xs u
    behind_all [] u f = tt
    behind_all (x ∷ xs) u f = f

    abbrev chained : List A × B → List ℕ
    chained x = each I.form.write x.0 ++ G.write x.1

    pub chain_unique : (a b : List A × B) (r s : List ℕ) → Fine a.0 × G.Within a.1 → Fine b.0 × G.Within b.1 → G.Follow r → G.Follow s
        → chained a ++ r ≡ chained b ++ s → (a ≡ b) × (r ≡ s)
    chain_unique a b r s ha hb hr hs e =
        let w = each I.form.write in
        let e' : w a.0 ++ (G.write a.1 ++ r) ≡ w b.0 ++ (G.write b.1 ++ s) =
        sym (append_assoc (w a.0) (G.write a.1) r) ∙ e ∙ append_assoc (w b.0) (G.write b.1) s in
        let p = apart a.1 r ha.1 hr in
        let (more, x, y) = items_prefix a.0 b.0 (G.write a.1 ++ r) (G.write b.1 ++ s) (fine a.0 ha.0) (fine b.0 hb.0) (behind_all a.0 (G.write a.1 ++ r) p.follow) (apart b.1 s hb.1 hs) e' in
        go p more x y
      where
        go : Apart (G.write a.1 ++ r) → (more : List A) → b.0 ≡ a.0 ++ more → G.write a.1 ++ r ≡ each I.form.write more ++ (G.write b.1 ++ s) → (a ≡ b) × (r ≡ s)
        go p [] x y =
            let (q, q') = G.unique a.1 b.1 r s ha.1 hb.1 hr hs y in
            (ap₂ (λ (l : List A) (c : B). (l, c)) (sym (x ∙ append-nil a.0)) q, q')
        go p (z ∷ more) x y = absurd (p.other (ap (λ (l : List ℕ). get_or l 0 0) y ∙ item_here z more (G.write b.1 ++ s)))

    abbrev pub chain : Form (List A × B)
    chain =
        record {
          write = chained;
          Within = λ x. Fine x.0 × G.Within x.1;
          Follow = G.Follow;
          unique = chain_unique;
        }

    pub chain_found : {Says : List A → Type 0} {S : B → Type 0} {t now next : List ℕ} → Ongoing Says t now → Found G S now next → Found chain (λ x. Says x.0 × S x.1) t next
    chain_found {next = next} o f =
        record {
          it = (o.done, f.it);
          says = (o.says, f.says);
          within = (o.ok, f.within);
          here = o.here ∙ ap (λ (l : List ℕ). each I.form.write o.done ++ l) f.here ∙ sym (append_assoc (each I.form.write o.done) (G.write f.it) next);
          after = f.after;
        }

    pub chain_none : {t : List ℕ} → Hopeless t → Missing chain t
    chain_none h =
        record {
          none = λ x r w f e. h.none x.0 (G.write x.1 ++ r) w.0 (apart x.1 r w.1 f) (e ∙ append_assoc (each I.form.write x.0) (G.write x.1) r);
        }

    -- the list ends, and nothing of the other form is there
    pub chain_ends : {Says : List A → Type 0} {t now : List ℕ} → Ongoing Says t now → ListEnds Says now → Missing G now → Missing chain t
    chain_ends {now = now} o ends m =
        record {
          none = λ x r w f e.
              let p = apart x.1 r w.1 f in
              let q = rest_of o x.0 (G.write x.1 ++ r) w.0 p (e ∙ append_assoc (each I.form.write x.0) (G.write x.1) r) in
              go x.1 r w.1 f q.more q.ok q.here (ends o.done o.says);
        }
      where
        go : (b : B) (r : List ℕ) → G.Within b → G.Follow r → (more : List A) → Fine (o.done ++ more) → now ≡ each I.form.write more ++ (G.write b ++ r)
            → (get_or now 0 0 ≡ I.mark → ⊥) ⊎ ((x : A) (more : List A) → Fine (o.done ++ x ∷ more) → ⊥) → ⊥
        go b r w f [] ok y z = m.none b r w f y
        go b r w f (a ∷ more) ok y (inl z) = z (ap (λ (l : List ℕ). get_or l 0 0) y ∙ item_here a more (G.write b ++ r))
        go b r w f (a ∷ more) ok y (inr z) = z a more ok

    -- neither an item more nor the other form is there
    pub chain_stops : {Says : List A → Type 0} {t now : List ℕ} → Ongoing Says t now → Missing I.form now → Missing G now → Missing chain t
    chain_stops {now = now} o i m =
        record {
          none = λ x r w f e.
              let p = apart x.1 r w.1 f in
              let q = rest_of o x.0 (G.write x.1 ++ r) w.0 p (e ∙ append_assoc (each I.form.write x.0) (G.write x.1) r) in
              go x.1 r w.1 f p.follow q.more q.within q.here;
        }
      where
        go : (b : B) (r : List ℕ) → G.Within b → G.Follow r → I.form.Follow (G.write b ++ r) → (more : List A) → All I.form.Within more → now ≡ each I.form.write more ++ (G.write b ++ r) → ⊥
        go b r w f h [] v y = m.none b r w f y
        go b r w f h (a ∷ more) v y =
            i.none a (each I.form.write more ++ (G.write b ++ r)) v.0 (follow_each more (G.write b ++ r) h) (y ∙ append_assoc (I.form.write a) (each I.form.write more) (G.write b ++ r))
