-- What holds of a word's bits, and of words kept, doubtful and lost.
use Rattle.std.specs.Prelude.{◌≡◌, refl, ◌≢◌, ◌↔◌, Bool, true, false, cond, ◌||◌, List, [], ◌∷◌, ◌++◌, ℕ, zero, suc, ◌+◌, ◌<◌, T, eqb, length, get_or, take, set}
use Rattle.std.proofs.Common.{sym, ap, ap₂, ◌∙◌, subst, arith, add-one, take-suc-set, eqb-true, eq-eqb, ne_eqb}
use Rattle.std.proofs.Math.Decide.{ℕ_discrete}
use Rattle.iteration.specs.Check.{Word}
use Rattle.iteration.specs.Iteration.{hard}
use Rattle.outcome.specs.Outcome.{bits_from, bits_of, lost, is_finished, is_lost, kept_of, doubtful_of, lost_of}

-- ---- hard decisions
bits_from_length : (x : Word) (v m : ℕ) → length (bits_from x v m) ≡ m
unfolding bits_from
bits_from_length x v zero = refl
bits_from_length x v (suc m) = ap suc (bits_from_length x (suc v) m)

pub bits_length : (n : ℕ) (x : Word) → length (bits_of n x) ≡ n
unfolding bits_of
bits_length n x = bits_from_length x 0 n

bit_from : (x : Word) (v m u : ℕ) → u < m → get_or (bits_from x v m) u 0 ≡ hard (x.L (v + u))
unfolding bits_from
bit_from x v zero u h = absurd (omega (arith, h))
bit_from x v (suc m) zero h = let e : v ≡ v + 0 = omega arith in ap (λ (k : ℕ). hard (x.L k)) e
bit_from x v (suc m) (suc u) h = let e : suc v + u ≡ v + suc u = omega arith in bit_from x (suc v) m u (omega arith) ∙ ap (λ (k : ℕ). hard (x.L k)) e

pub bits_at : (n : ℕ) (x : Word) (u : ℕ) → u < n → get_or (bits_of n x) u 0 ≡ hard (x.L u)
unfolding bits_of
bits_at n x u h = let e : 0 + u ≡ u = omega arith in bit_from x 0 n u h ∙ ap (λ (k : ℕ). hard (x.L k)) e

bits_from_snoc : (x : Word) (v m : ℕ) → bits_from x v (suc m) ≡ bits_from x v m ++ (hard (x.L (v + m)) ∷ [])
unfolding bits_from
bits_from_snoc x v zero = let e : v ≡ v + 0 = omega arith in ap (λ (z : ℕ). hard (x.L z) ∷ []) e
bits_from_snoc x v (suc m) =
    let e : suc v + m ≡ v + suc m = omega arith in
    ap (λ (l : List ℕ). hard (x.L v) ∷ l) (bits_from_snoc x (suc v) m ∙ ap (λ (z : ℕ). bits_from x (suc v) m ++ (hard (x.L z) ∷ [])) e)

-- ---- the first i written, then one more, then all
pub bits_start : (x : Word) → [] ≡ bits_of 0 x
unfolding bits_of bits_from
bits_start x = refl

pub bits_again : (x : Word) (i b : ℕ) (out : List ℕ) → i < length out → take i out ≡ bits_of i x → b ≡ hard (x.L i) → take (i + 1) (set out i b) ≡ bits_of (i + 1) x
unfolding bits_of
bits_again x i b out h e f =
    let z : 0 + i ≡ i = omega arith in
    ap (λ (k : ℕ). take k (set out i b)) (add-one i)
    ∙ take-suc-set out i b h
    ∙ ap₂ (λ (l : List ℕ) (y : ℕ). l ++ (y ∷ [])) e (f ∙ ap (λ (k : ℕ). hard (x.L k)) (sym z))
    ∙ sym (bits_from_snoc x 0 i)
    ∙ ap (λ (k : ℕ). bits_from x 0 k) (sym (add-one i))

-- ---- kept, doubtful and lost: a finished word is just one of them, and no other is any
-- (what it adds to the number of finished words)
abbrev pub finished_of : ℕ → ℕ
finished_of state = cond (is_finished state) 1 0

pub one_of_three : (state bch : ℕ) → kept_of state bch + doubtful_of state bch + lost_of state bch ≡ finished_of state
unfolding kept_of doubtful_of lost_of is_finished
one_of_three state bch = go (eqb state 2) (eqb state 3) (is_lost bch) (λ a b. absurd (omega (arith, eqb-true state 2 a, eqb-true state 3 b)))
  where
    go : (a b l : Bool) → (a ≡ true → b ≡ true → ⊥) → cond a (cond l 0 1) 0 + cond b (cond l 0 1) 0 + cond (a || b) (cond l 1 0) 0 ≡ cond (a || b) 1 0
    go true true l h = absurd (h refl refl)
    go true false true h = refl
    go true false false h = refl
    go false true true h = refl
    go false true false h = refl
    go false false l h = refl

-- each of the three by state and BCH result
abbrev accepted_as : ℕ → ℕ → ℕ → ℕ
accepted_as s state bch = cond (eqb state s) (cond (is_lost bch) 0 1) 0

accepted_as_exactly : (s state bch : ℕ) → (accepted_as s state bch ≡ 1) ↔ ((state ≡ s) × (bch ≢ lost))
unfolding is_lost
accepted_as_exactly s state bch = at (ℕ_discrete state s) (ℕ_discrete bch lost)
  where
    at : Dec (state ≡ s) → Dec (bch ≡ lost) → (accepted_as s state bch ≡ 1) ↔ ((state ≡ s) × (bch ≢ lost))
    at (no a) d =
        let e : accepted_as s state bch ≡ 0 = ap (λ (b : Bool). cond b (cond (is_lost bch) 0 1) 0) (ne_eqb state s a) in
        (λ h. absurd (omega (arith, e, h)), λ h. absurd (a h.0))
    at (yes a) (yes b) =
        let e : accepted_as s state bch ≡ 0 = ap₂ (λ (x y : Bool). cond x (cond y 0 1) 0) (eq-eqb state s a) (eq-eqb bch lost b) in
        (λ h. absurd (omega (arith, e, h)), λ h. absurd (h.1 b))
    at (yes a) (no b) = (λ h. (a, b), λ h. ap₂ (λ (x y : Bool). cond x (cond y 0 1) 0) (eq-eqb state s a) (ne_eqb bch lost b))

pub kept_exactly : (state bch : ℕ) → (kept_of state bch ≡ 1) ↔ ((state ≡ 2) × (bch ≢ lost))
unfolding kept_of
kept_exactly state bch = accepted_as_exactly 2 state bch

pub doubtful_exactly : (state bch : ℕ) → (doubtful_of state bch ≡ 1) ↔ ((state ≡ 3) × (bch ≢ lost))
unfolding doubtful_of
doubtful_exactly state bch = accepted_as_exactly 3 state bch

abbrev lost_if : Bool → ℕ → ℕ
lost_if finished bch = cond finished (cond (is_lost bch) 1 0) 0

pub lost_exactly : (state bch : ℕ) → (lost_of state bch ≡ 1) ↔ ((is_finished state ≡ true) × (bch ≡ lost))
unfolding lost_of is_lost
lost_exactly state bch = at (is_finished state) (ℕ_discrete bch lost)
  where
    at : (f : Bool) → Dec (bch ≡ lost) → (lost_if f bch ≡ 1) ↔ ((f ≡ true) × (bch ≡ lost))
    at true (yes b) = (λ h. (refl, b), λ h. ap (λ (x : Bool). cond x 1 0) (eq-eqb bch lost b))
    at true (no b) =
        let e : lost_if true bch ≡ 0 = ap (λ (x : Bool). cond x 1 0) (ne_eqb bch lost b) in
        (λ h. absurd (omega (arith, e, h)), λ h. absurd (b h.1))
    at false d = (λ h. absurd (omega (arith, h)), λ h. absurd (subst T (sym h.0) tt))
