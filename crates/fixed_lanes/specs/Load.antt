-- A word loaded into one lane: its soft values are the lane's first n rows; the lane's other rows and every other lane are as they were.
use Rattle.std.specs.Prelude.{◌≡◌, refl, Bool, true, false, cond, List, ℕ, ◌+◌, ◌<◌, eqb, ltb, get_or, ℤ, pos}
use Rattle.std.proofs.Common.{sym, ap, ◌∙◌, arith, eqb-true, ltb-true, ltb-false, lt-ltb, le-ltb, subst}
use Rattle.std.proofs.lemmas.Bool.{eqb-false}
use Rattle.laws.specs.Definitions.{put}
use Rattle.lane16.specs.Column.{column}
use Rattle.simd.specs.Words.{word_of, word}
use Rattle.iteration.specs.Check.{within}
use Rattle.fixed_lanes.specs.Place.{Placed}

-- the first n rows are xs
unfoldable pub over : ℕ → List ℤ → (ℕ → ℤ) → ℕ → ℤ
over n xs f u = cond (ltb u n) (get_or xs u (pos 0)) (f u)

pub record Loaded (n lanes lane : ℕ) (soft a a' : List ℤ) : Type 0 where
  pub inside : column lanes a' lane ≡ over n soft (column lanes a lane)
  pub outside : (i : ℕ) → i < lanes → (i ≡ lane → ⊥) → column lanes a' i ≡ column lanes a i

over_none : (xs : List ℤ) (f : ℕ → ℤ) → over 0 xs f ≡ f
unfolding over
over_none xs f = λ i u. ap (λ (b : Bool). cond b (get_or xs u (pos 0)) (f u)) (le-ltb u 0 (omega arith)) i

over_more : (k : ℕ) (xs : List ℤ) (f : ℕ → ℤ) → put (over k xs f) k (get_or xs k (pos 0)) ≡ over (k + 1) xs f
unfolding over put
over_more k xs f = λ i u. go u (eqb u k) (ltb u k) refl refl i
  where
    go : (u : ℕ) (b c : Bool) → eqb u k ≡ b → ltb u k ≡ c → cond b (get_or xs k (pos 0)) (cond c (get_or xs u (pos 0)) (f u)) ≡ cond (ltb u (k + 1)) (get_or xs u (pos 0)) (f u)
    go u true c e g =
        let z : u ≡ k = eqb-true u k e in
        ap (λ (j : ℕ). get_or xs j (pos 0)) (sym z) ∙ sym (ap (λ (b : Bool). cond b (get_or xs u (pos 0)) (f u)) (lt-ltb u (k + 1) (omega arith)))
    go u false true e g = sym (ap (λ (b : Bool). cond b (get_or xs u (pos 0)) (f u)) (lt-ltb u (k + 1) (omega (arith, ltb-true u k g))))
    go u false false e g =
        sym (ap (λ (b : Bool). cond b (get_or xs u (pos 0)) (f u)) (le-ltb u (k + 1) (omega (arith, ltb-false u k g, eqb-false u k e))))

pub load_start : (lanes lane : ℕ) (soft a : List ℤ) → Loaded 0 lanes lane soft a a
load_start lanes lane soft a = record { inside = sym (over_none soft (column lanes a lane)); outside = λ i q no. refl }

pub load_again : {lanes lane k : ℕ} {soft a a' a'' : List ℤ} {x : ℤ} → Loaded k lanes lane soft a a' → x ≡ get_or soft k (pos 0) → Placed lanes lane k x a' a'' → Loaded (k + 1) lanes lane soft a a''
load_again {lanes} {lane} {k} {soft} {a} {a'} {a''} {x} v e p =
    record {
      inside = p.inside ∙ (λ i. put (v.inside i) k (e i)) ∙ over_more k soft (column lanes a lane);
      outside = λ i q no. p.outside i q no ∙ v.outside i q no;
    }

-- the lane's word: its soft values, and the messages as they were
pub loaded_word : {n lanes lane : ℕ} {soft a a' : List ℤ} (E : ℕ) → Loaded n lanes lane soft a a'
    → word n E lanes a' lane ≡ record { L = within n (λ u. get_or soft u (pos 0)); r = (word n E lanes a lane).r }
unfolding word_of within over
loaded_word {n} {lanes} {lane} {soft} {a} {a'} E v =
    ap (word_of n E) v.inside ∙ (λ i. record { L = λ u. twice (ltb u n) (get_or soft u (pos 0)) (column lanes a lane u) i; r = λ e. cond (ltb e E) (messages e i) (pos 0) })
  where
    twice : (b : Bool) (x y : ℤ) → cond b (cond b x y) (pos 0) ≡ cond b x (pos 0)
    twice true x y = refl
    twice false x y = refl

    messages : (e : ℕ) → cond (ltb (n + e) n) (get_or soft (n + e) (pos 0)) (column lanes a lane (n + e)) ≡ column lanes a lane (n + e)
    messages e = ap (λ (b : Bool). cond b (get_or soft (n + e) (pos 0)) (column lanes a lane (n + e))) (le-ltb (n + e) n (omega arith))

pub load_end : {lanes lane k n : ℕ} {soft a a' : List ℤ} → k ≡ n → Loaded k lanes lane soft a a' → Loaded n lanes lane soft a a'
load_end {lanes} {lane} {k} {n} {soft} {a} {a'} e v = subst (λ (j : ℕ). Loaded j lanes lane soft a a') e v
