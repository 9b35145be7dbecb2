-- What each turn of the loops does, and which number each exit of `accept` gives.
use Rattle.std.proofs.Common.{◌≡◌, refl, sym, ap, ap₂, ◌∙◌, Bool, true, false, cond, not, ◌||◌, List, [], ◌∷◌, ◌++◌, ℕ, zero, suc, ◌+◌, ◌-◌, ◌*◌, ◌/◌, ◌%◌, ◌≤◌, ◌<◌, arith, add-one, eqb, ltb, leb, length, take, get_or, set, replicate, sum, length-take, eqb-true, ltb-false}
use Rattle.std.proofs.Math.Decide.{ℕ_discrete}
use Rattle.std.proofs.Math.Seq.{take-suc, get_or-set_other}
use Rattle.std.specs.List.{list_any}
use Rattle.std.proofs.lemmas.List.Sums.{sum_by-cons}
use Rattle.std.proofs.lemmas.Bool.{eq-eqb, ne_eqb}
use borrow.Author.Tests.{not-false, le-leb, lt-leb}
use Rattle.laws.specs.Lists.{replicate_at}
use Rattle.laws.specs.Choice.{or_left, or_right}
use Rattle.laws.specs.Stores.{set_at}
use Rattle.ldpc_shape.specs.Shape.{k_of, p_of, q_of, total, any_over, count_mod, counts_mod, bad_length, code_refusal}
use Rattle.ldpc_shape.specs.Accepted.{total_le}
use Rattle.ldpc_shape.specs.Counts.{CountsBelow, CountsOf}

-- q as the groups of 374 that n has beside the rows
q_beside : (n : ℕ) (lens : List ℕ) → n % 374 ≡ 0 → n / 374 - length lens ≡ q_of n lens
unfolding q_of p_of k_of
q_beside n lens whole = omega (arith, whole)

-- ---- counting
count_append : (q l : ℕ) (xs : List ℕ) (a : ℕ) → count_mod q l (xs ++ a ∷ []) ≡ cond (eqb (a % q) l) (suc (count_mod q l xs)) (count_mod q l xs)
unfolding count_mod
count_append q l [] a = refl
count_append q l (x ∷ xs) a = go (eqb (x % q) l) (eqb (a % q) l) (count_append q l xs a)
  where
    go : (b d : Bool) → count_mod q l (xs ++ a ∷ []) ≡ cond d (suc (count_mod q l xs)) (count_mod q l xs)
        → cond b (suc (count_mod q l (xs ++ a ∷ []))) (count_mod q l (xs ++ a ∷ []))
        ≡ cond d (suc (cond b (suc (count_mod q l xs)) (count_mod q l xs))) (cond b (suc (count_mod q l xs)) (count_mod q l xs))
    go true true ih = ap suc ih
    go true false ih = ap suc ih
    go false true ih = ih
    go false false ih = ih

count_le : (q l : ℕ) (xs : List ℕ) → count_mod q l xs ≤ length xs
unfolding count_mod
count_le q l [] = omega arith
count_le q l (x ∷ xs) = go (eqb (x % q) l) (count_le q l xs)
  where
    go : (b : Bool) → count_mod q l xs ≤ length xs → cond b (suc (count_mod q l xs)) (count_mod q l xs) ≤ suc (length xs)
    go true ih = omega arith
    go false ih = omega arith

pub counted_start : (q : ℕ) (addrs : List ℕ) → CountsOf (replicate 120 0) q (take 0 addrs)
unfolding count_mod
counted_start q addrs = record { below = λ l h. replicate_at 0 120 l; behind = λ l h. replicate_at 0 120 l }

one_more : (q : ℕ) (addrs r : List ℕ) (i p : ℕ) → i < length addrs → p ≡ get_or addrs i 0 % q → p < length r → p < q
    → CountsBelow r q (take i addrs) → CountsBelow (set r p (get_or r p 0 + 1)) q (take (i + 1) addrs)
one_more q addrs r i p h e g hq C l hl =
    go (ℕ_discrete p l)
    ∙ sym (ap (λ (z : ℕ). count_mod q l (take z addrs)) (add-one i) ∙ ap (count_mod q l) (take-suc addrs i 0 h) ∙ count_append q l (take i addrs) (get_or addrs i 0))
  where
    go : Dec (p ≡ l) → get_or (set r p (get_or r p 0 + 1)) l 0 ≡ cond (eqb (get_or addrs i 0 % q) l) (suc (count_mod q l (take i addrs))) (count_mod q l (take i addrs))
    go (yes f) =
        set_at 0 r p (get_or r p 0 + 1) l g (sym f)
        ∙ ap (λ (z : ℕ). get_or r z 0 + 1) f ∙ add-one _ ∙ ap suc (C l hl)
        ∙ ap (λ b. cond b (suc (count_mod q l (take i addrs))) (count_mod q l (take i addrs))) (sym (eq-eqb _ l (sym e ∙ f)))
    go (no f) =
        get_or-set_other r p l (get_or r p 0 + 1) 0 (λ w. f (sym w)) ∙ C l hl
        ∙ ap (λ b. cond b (suc (count_mod q l (take i addrs))) (count_mod q l (take i addrs))) (sym (ne_eqb _ l (λ w. f (e ∙ w))))

pub counted_again : (q : ℕ) (addrs r : List ℕ) (i p : ℕ) → i < length addrs → p ≡ get_or addrs i 0 % q → p < length r → p < q
    → CountsOf r q (take i addrs) → CountsOf (set r p (get_or r p 0 + 1)) q (take (i + 1) addrs)
counted_again q addrs r i p h e g hq C =
    record {
      below = one_more q addrs r i p h e g hq C.below;
      behind = λ l hl. get_or-set_other r p l (get_or r p 0 + 1) 0 (λ w. omega arith) ∙ C.behind l hl;
    }

pub counted_room : (q : ℕ) (addrs r : List ℕ) (i p : ℕ) → p < q → i ≤ length addrs → length addrs ≤ 15360 → CountsBelow r q (take i addrs) → get_or r p 0 ≤ 15360
counted_room q addrs r i p h g k C = omega (arith, C p h, count_le q p (take i addrs), length-take i addrs)

-- ---- numbers that are too large, and the sum of the lengths
pub over_any : (m : ℕ) (xs : List ℕ) → any_over m xs ≡ list_any (λ x. ltb m x) xs
unfolding any_over
over_any m [] = refl
over_any m (x ∷ xs) = ap (λ b. ltb m x || b) (over_any m xs)

over_append : (m : ℕ) (xs : List ℕ) (x : ℕ) → any_over m (xs ++ x ∷ []) ≡ (ltb m x || any_over m xs)
unfolding any_over
over_append m [] x = refl
over_append m (y ∷ xs) x = ap (λ b. ltb m y || b) (over_append m xs x) ∙ swap (ltb m y) (ltb m x) (any_over m xs)
  where
    swap : (a b c : Bool) → (a || (b || c)) ≡ (b || (a || c))
    swap true true c = refl
    swap true false c = refl
    swap false true c = refl
    swap false false c = refl

-- the first k counts, as the code has them
pub over_counts : (m q : ℕ) (addrs r : List ℕ) → CountsBelow r q addrs → q ≤ length r → (k : ℕ) → k ≤ q → any_over m (take k r) ≡ any_over m (counts_mod q addrs k)
unfolding any_over counts_mod
over_counts m q addrs r C g zero h = refl
over_counts m q addrs r C g (suc k) h =
    ap (any_over m) (take-suc r k 0 (omega arith)) ∙ over_append m (take k r) (get_or r k 0)
    ∙ ap₂ (λ (x : ℕ) b. ltb m x || b) (C k h) (over_counts m q addrs r C g k (omega arith))

pub total_sum : (xs : List ℕ) → total xs ≡ sum xs
unfolding total
total_sum [] = refl
total_sum (x ∷ xs) = ap (λ (s : ℕ). x + s) (total_sum xs) ∙ sym (sum_by-cons (λ (y : ℕ). y) x xs)

pub sum_fits : (lens : List ℕ) → length lens ≤ 119 → any_over 128 lens ≡ false → total lens ≤ 15360
sum_fits lens h e = let b = total_le 128 lens e in omega arith

-- ---- the number
whole : (n : ℕ) → bad_length n ≡ false → n % 374 ≡ 0
unfolding bad_length
whole n ok = eqb-true (n % 374) 0 (not-false (eqb (n % 374) 0) (or_left _ _ (or_right (eqb n 0) _ ok)))

pub small : (n : ℕ) → bad_length n ≡ false → n ≤ 44880
unfolding bad_length
small n ok = ltb-false 44880 n (or_right (not (eqb (n % 374) 0)) _ (or_right (eqb n 0) _ ok))

module _ (n : ℕ) (lens addrs : List ℕ) where
  pub refuse_length : bad_length n ≡ true → 2 ≡ code_refusal n lens addrs
  unfolding code_refusal
  refuse_length e =
      sym (ap (λ b. cond b 2 (cond (leb n (374 * length lens)) 3 (cond (any_over 128 lens) 4
      (cond (not (eqb (total lens) (length addrs))) 5 (cond (any_over 126 (counts_mod (q_of n lens) addrs (q_of n lens))) 6 0))))) e)

  module _ (ok : bad_length n ≡ false) where
    first : code_refusal n lens addrs ≡ cond (leb n (374 * length lens)) 3 (cond (any_over 128 lens) 4
        (cond (not (eqb (total lens) (length addrs))) 5 (cond (any_over 126 (counts_mod (q_of n lens) addrs (q_of n lens))) 6 0)))
    unfolding code_refusal
    first =
        ap (λ b. cond b 2 (cond (leb n (374 * length lens)) 3 (cond (any_over 128 lens) 4
        (cond (not (eqb (total lens) (length addrs))) 5 (cond (any_over 126 (counts_mod (q_of n lens) addrs (q_of n lens))) 6 0))))) ok

    pub refuse_rows : n / 374 ≤ length lens → 3 ≡ code_refusal n lens addrs
    refuse_rows h = let a : n ≤ 374 * length lens = omega (arith, whole n ok) in sym (first ∙ simp (le-leb n (374 * length lens) a))

    module _ (rows : length lens < n / 374) where
      fewer : 374 * length lens < n
      fewer = omega (arith, whole n ok)

      pub refuse_over : any_over 128 lens ≡ true → 4 ≡ code_refusal n lens addrs
      refuse_over e = sym (first ∙ simp (lt-leb n (374 * length lens) fewer, e))

      module _ (short : any_over 128 lens ≡ false) where
        pub refuse_sum : (total lens ≡ length addrs → ⊥) → 5 ≡ code_refusal n lens addrs
        refuse_sum e = sym (first ∙ simp (lt-leb n (374 * length lens) fewer, short, ne_eqb (total lens) (length addrs) e))

        module _ (adds : total lens ≡ length addrs) (q : ℕ) (r : List ℕ) (p : q ≡ n / 374 - length lens) (C : CountsBelow r q addrs) (g : q ≤ length r) where
          counts_over : any_over 126 (take q r) ≡ any_over 126 (counts_mod (q_of n lens) addrs (q_of n lens))
          counts_over = over_counts 126 q addrs r C g q (omega arith) ∙ ap (λ (z : ℕ). any_over 126 (counts_mod z addrs z)) (p ∙ q_beside n lens (whole n ok))

          last : code_refusal n lens addrs ≡ cond (any_over 126 (take q r)) 6 0
          last = let e = simp (lt-leb n (374 * length lens) fewer, short, eq-eqb (total lens) (length addrs) adds) at first in e ∙ ap (λ b. cond b 6 0) (sym counts_over)

          pub refuse_many : any_over 126 (take q r) ≡ true → 6 ≡ code_refusal n lens addrs
          refuse_many e = sym (last ∙ ap (λ b. cond b 6 0) e)

          pub refuse_none : any_over 126 (take q r) ≡ false → code_refusal n lens addrs ≡ 0
          refuse_none e = last ∙ ap (λ b. cond b 6 0) e
