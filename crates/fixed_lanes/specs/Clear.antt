-- The messages of the fresh lanes cleared: rows n to n + e − 1 of their columns are 0; all else is as it was.
use Rattle.std.specs.Prelude.{◌≡◌, refl, Bool, true, false, cond, List, ℕ, zero, suc, ◌+◌, ◌≤◌, ◌<◌, ltb, get_or, take, length, ℤ, pos}
use Rattle.std.proofs.Common.{sym, ap, ◌∙◌, subst, arith, add-one, ltb-true}
use Rattle.std.proofs.lemmas.List.{get_or-take, length-take-le}
use Rattle.std.proofs.Math.Decide.{ℕ_discrete}
use Rattle.laws.specs.Choice.{by_cond, by_bool}
use Rattle.laws.specs.Put.{put_same, put_other, put_self}
use Rattle.laws.specs.Definitions.{put}
use Rattle.lane16.specs.Column.{column}
use Rattle.simd.specs.Words.{word_of, word}
use Rattle.iteration.specs.Check.{within}
use Rattle.fixed_lanes.specs.Place.{Placed}

abbrev pub on : List Bool → ℕ → Bool
on fresh i = get_or fresh i false

-- ---- row u, of the first k lanes
pub record RowCleared (lanes u : ℕ) (fresh : List Bool) (a : List ℤ) (k : ℕ) (a' : List ℤ) : Type 0 where
  pub done : (i : ℕ) → i < k → i < lanes → column lanes a' i ≡ cond (on fresh i) (put (column lanes a i) u (pos 0)) (column lanes a i)
  pub still : (i : ℕ) → k ≤ i → i < lanes → column lanes a' i ≡ column lanes a i

pub row_start : (lanes u : ℕ) (fresh : List Bool) (a : List ℤ) → RowCleared lanes u fresh a 0 a
row_start lanes u fresh a = record { done = λ i q h. absurd (omega (arith, q)); still = λ i q h. refl }

put_cond : (b : Bool) (f : ℕ → ℤ) (u : ℕ) → put f u (cond b (pos 0) (f u)) ≡ cond b (put f u (pos 0)) f
put_cond true f u = refl
put_cond false f u = put_self f u

pub row_again : {lanes u : ℕ} {fresh : List Bool} {a a' a'' : List ℤ} {k : ℕ} {x y : ℤ} → RowCleared lanes u fresh a k a' → k < lanes
    → x ≡ column lanes a' k u → y ≡ cond (on fresh k) (pos 0) x → Placed lanes k u y a' a'' → RowCleared lanes u fresh a (k + 1) a''
row_again {lanes} {u} {fresh} {a} {a'} {a''} {k} {x} {y} v h e f p =
    record {
      done = λ i q l. go i q l (ℕ_discrete i k);
      still = λ i q l. p.outside i l (λ z. omega arith) ∙ v.still i (omega arith) l;
    }
  where
    go : (i : ℕ) → i < k + 1 → i < lanes → Dec (i ≡ k) → column lanes a'' i ≡ cond (on fresh i) (put (column lanes a i) u (pos 0)) (column lanes a i)
    go i q l (yes z) =
        subst (λ (j : ℕ). column lanes a'' j ≡ cond (on fresh j) (put (column lanes a j) u (pos 0)) (column lanes a j)) (sym z)
        (p.inside
        ∙ ap (put (column lanes a' k) u) (f ∙ ap (λ (w : ℤ). cond (on fresh k) (pos 0) w) e)
        ∙ put_cond (on fresh k) (column lanes a' k) u
        ∙ ap (λ (g : ℕ → ℤ). cond (on fresh k) (put g u (pos 0)) g) (v.still k (omega arith) h))
    go i q l (no z) = p.outside i l z ∙ v.done i (omega arith) l

-- ---- a column with the e rows from n on at 0
unfoldable pub blank : ℕ → ℕ → (ℕ → ℤ) → ℕ → ℤ
blank n zero f = f
blank n (suc e) f = put (blank n e f) (n + e) (pos 0)

-- which is to say
blank_in : (n e : ℕ) (f : ℕ → ℤ) (k : ℕ) → k < e → blank n e f (n + k) ≡ pos 0
unfolding blank
blank_in n zero f k h = absurd (omega (arith, h))
blank_in n (suc e) f k h = go (ℕ_discrete k e) (blank_in n e f k)
  where
    go : Dec (k ≡ e) → (k < e → blank n e f (n + k) ≡ pos 0) → put (blank n e f) (n + e) (pos 0) (n + k) ≡ pos 0
    go (yes z) ih = ap (λ (j : ℕ). put (blank n e f) (n + e) (pos 0) (n + j)) z ∙ put_same (blank n e f) (n + e) (pos 0)
    go (no z) ih = put_other (blank n e f) (n + e) (pos 0) (n + k) (λ x. omega arith) ∙ ih (omega arith)

blank_out : (n e : ℕ) (f : ℕ → ℤ) (u : ℕ) → ((k : ℕ) → k < e → u ≡ n + k → ⊥) → blank n e f u ≡ f u
unfolding blank
blank_out n zero f u off = refl
blank_out n (suc e) f u off = put_other (blank n e f) (n + e) (pos 0) u (off e (omega arith)) ∙ blank_out n e f u (λ k q. off k (omega arith))

pub record Cleared (n lanes : ℕ) (fresh : List Bool) (a : List ℤ) (e : ℕ) (a' : List ℤ) : Type 0 where
  pub columns : (i : ℕ) → i < lanes → column lanes a' i ≡ cond (on fresh i) (blank n e (column lanes a i)) (column lanes a i)

pub clear_start : (n lanes : ℕ) (fresh : List Bool) (a : List ℤ) → Cleared n lanes fresh a 0 a
unfolding blank
clear_start n lanes fresh a = record { columns = λ i q. by_cond (λ f. column lanes a i ≡ f) (on fresh i) (column lanes a i) (column lanes a i) (λ _. refl) (λ _. refl) }

-- the fresh lanes given as a part of a list, one for each lane
pub clear_lanes : {n lanes e : ℕ} {fresh : List Bool} {a a' : List ℤ} → lanes ≤ length fresh → Cleared n (length (take lanes fresh)) (take lanes fresh) a e a' → Cleared n lanes fresh a e a'
clear_lanes {n} {lanes} {e} {fresh} {a} {a'} h v =
    let long : length (take lanes fresh) ≡ lanes = length-take-le lanes fresh h in
    record {
      columns = λ i q.
          subst (λ (b : Bool). column lanes a' i ≡ cond b (blank n e (column lanes a i)) (column lanes a i)) (get_or-take lanes fresh i false q)
          (subst (λ (w : ℕ). column w a' i ≡ cond (on (take lanes fresh) i) (blank n e (column w a i)) (column w a i)) long (v.columns i (omega arith)));
    }

pub clear_again : {n lanes : ℕ} {fresh : List Bool} {a a' a'' : List ℤ} {k : ℕ} → Cleared n lanes fresh a k a' → RowCleared lanes (n + k) fresh a' lanes a'' → Cleared n lanes fresh a (k + 1) a''
unfolding blank
clear_again {n} {lanes} {fresh} {a} {a'} {a''} {k} v p =
    subst (λ (j : ℕ). Cleared n lanes fresh a j a'') (sym (add-one k))
    (record { columns = λ i q. p.done i q q ∙ ap (λ (g : ℕ → ℤ). cond (on fresh i) (put g (n + k) (pos 0)) g) (v.columns i q) ∙ both (on fresh i) (blank n k (column lanes a i)) (column lanes a i) })
  where
    both : (b : Bool) (f g : ℕ → ℤ) → cond b (put (cond b f g) (n + k) (pos 0)) (cond b f g) ≡ cond b (put f (n + k) (pos 0)) g
    both true f g = refl
    both false f g = refl

pub clear_end : {n lanes : ℕ} {fresh : List Bool} {a a' : List ℤ} {k e : ℕ} → k ≡ e → Cleared n lanes fresh a k a' → Cleared n lanes fresh a e a'
clear_end {n} {lanes} {fresh} {a} {a'} {k} {e} x v = subst (λ (j : ℕ). Cleared n lanes fresh a j a') x v

-- ---- a fresh lane's word has every message 0; another lane's is as it was
blank_word : (n E : ℕ) (f : ℕ → ℤ) → word_of n E (blank n E f) ≡ record { L = (word_of n E f).L; r = λ e. pos 0 }
unfolding word_of within
blank_word n E f =
    λ i. record {
      L = λ u. by_bool (λ b. cond b (blank n E f u) (pos 0) ≡ cond b (f u) (pos 0)) (ltb u n) (λ e. blank_out n E f u (λ k q x. omega (arith, ltb-true u n e))) (λ _. refl) i;
      r = λ e. by_cond (λ x. x ≡ pos 0) (ltb e E) (blank n E f (n + e)) (pos 0) (λ s. blank_in n E f e (ltb-true e E s)) (λ _. refl) i;
    }

pub cleared_fresh : {n lanes : ℕ} {fresh : List Bool} {a a' : List ℤ} {E i : ℕ} → Cleared n lanes fresh a E a' → i < lanes → on fresh i ≡ true
    → word n E lanes a' i ≡ record { L = (word n E lanes a i).L; r = λ e. pos 0 }
cleared_fresh {n} {lanes} {fresh} {a} {a'} {E} {i} v q e =
    ap (word_of n E) (v.columns i q ∙ ap (λ (b : Bool). cond b (blank n E (column lanes a i)) (column lanes a i)) e) ∙ blank_word n E (column lanes a i)

pub cleared_other : {n lanes : ℕ} {fresh : List Bool} {a a' : List ℤ} {E i : ℕ} → Cleared n lanes fresh a E a' → i < lanes → on fresh i ≡ false
    → column lanes a' i ≡ column lanes a i
cleared_other {n} {lanes} {fresh} {a} {a'} {E} {i} v q e = v.columns i q ∙ ap (λ (b : Bool). cond b (blank n E (column lanes a i)) (column lanes a i)) e

pub row_end : {lanes u : ℕ} {fresh : List Bool} {a a' : List ℤ} {k : ℕ} → k ≡ lanes → RowCleared lanes u fresh a k a' → RowCleared lanes u fresh a lanes a'
row_end {lanes} {u} {fresh} {a} {a'} {k} e v = subst (λ (j : ℕ). RowCleared lanes u fresh a j a') e v
