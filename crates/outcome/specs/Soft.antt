-- What a scan of a word's soft values reads: the code's lists, and n soft values.
use Rattle.std.specs.Prelude.{◌≡◌, refl, Bool, true, false, cond, List, ℕ, zero, suc, ◌+◌, ◌-◌, ◌%◌, ◌≤◌, ◌<◌, ltb, eqb, ℤ, pos, length, get_or, take, drop}
use Rattle.std.proofs.Math.Path.{sym, ap}
use Rattle.std.proofs.Common.{ap₂, ◌∙◌, arith, add-one, zero-add, ltb-false, length-take, length-drop, get_or-take, get_or-drop}
use Rattle.std.proofs.Math.ListN.{get_or-eq_default}
use Rattle.iteration.specs.Iteration.{hard, negatives, unsatisfied}
use Rattle.iteration.specs.Lists.{var, rows_in, Lists, code_in}
use Rattle.laws.specs.Definitions.{negative}
use Rattle.laws.specs.Choice.{by_cond}
use Rattle.iteration.specs.Check.{within}
use Rattle.iteration.specs.ListsLaws.{start_in, degree_in}
use Rattle.iteration.specs.Count.{unmet_at}
use Rattle.outcome.specs.Outcome.{begin}

-- the value of each variable
abbrev pub values : List ℤ → ℕ → ℤ
values soft v = get_or soft v (pos 0)

-- edges whose variables are below n
abbrev pub Edges : List ℕ → ℕ → Type 0
Edges rows n = (e : ℕ) → e < length rows → var rows e < n

hard_le : (z : ℤ) → hard z ≤ 1
hard_le z = by_cond (λ n. n ≤ 1) (negative z) 1 0 (λ _. omega arith) (λ _. omega arith)

-- its values are the soft ones; there are none behind them
pub begin_values : (n : ℕ) (soft : List ℤ) → length soft ≡ n → (begin n soft).L ≡ values soft
unfolding begin within
begin_values n soft e = λ i v. go v (ltb v n) refl i
  where
    go : (v : ℕ) (b : Bool) → ltb v n ≡ b → cond b (get_or soft v (pos 0)) (pos 0) ≡ get_or soft v (pos 0)
    go v true s = refl
    go v false s = sym (get_or-eq_default soft (pos 0) (omega (arith, ltb-false v n s)))

-- ---- negative values counted one after the other
pub negatives_le : (v : ℕ → ℕ) (s d : ℕ) (L : ℕ → ℤ) → negatives v s d L ≤ d
unfolding negatives
negatives_le v s zero L = omega arith
negatives_le v s (suc d) L = omega (arith, negatives_le v s d L, hard_le (L (v (s + d))))

pub negatives_again : (v : ℕ → ℕ) (s k : ℕ) (L : ℕ → ℤ) (count b : ℕ) → count ≡ negatives v s k L → b ≡ hard (L (v (s + k))) → count + b ≡ negatives v s (k + 1) L
unfolding negatives
negatives_again v s k L count b e f = ap₂ (λ (x y : ℕ). x + y) e f ∙ ap (λ (z : ℕ). negatives v s z L) (sym (add-one k))

-- ---- check c of the lists, d edges from s, in the rows that a code's lists are lent with
module _ (p n c s d : ℕ) (lists rows : List ℕ) (second : rows ≡ rows_in p lists) (h : c < p) (e : s ≡ get_or lists c 0) (f : s + d ≡ get_or lists (c + 1) 0)
    (listed : Lists n p lists) where
  abbrev own : List ℕ
  own = take (s + d - s) (drop s rows)

  inside : s + d ≤ length rows
  inside = omega (arith, listed.within (c + 1) (omega arith), ap length second)

  own_length : length own ≡ d
  own_length = length-take (s + d - s) (drop s rows) ∙ omega (arith, length-drop s rows, inside)

  own_at : (k : ℕ) → k < d → get_or own k 0 ≡ get_or rows (s + k) 0
  own_at k q = get_or-take (s + d - s) (drop s rows) k 0 (omega arith) ∙ get_or-drop s rows k 0

  own_negatives : (L : ℕ → ℤ) (k : ℕ) → k ≤ d → negatives (var own) 0 k L ≡ negatives (var rows) s k L
  unfolding negatives
  own_negatives L zero q = refl
  own_negatives L (suc k) q =
      ap₂ (λ (x y : ℕ). x + y) (own_negatives L k (omega arith)) (ap (λ j. hard (L (var own j))) (zero-add k) ∙ ap (λ v. hard (L v)) (own_at k (omega arith)))

  unmet_is : (r : ℕ) (L : ℕ → ℤ) → r ≡ negatives (var rows) s d L → r % 2 ≡ unmet_at (code_in p lists) L c
  unfolding unsatisfied
  unmet_is r L g =
      ap (λ (z : ℕ). z % 2) g
      ∙ (λ i. negatives (var (second i)) ((e ∙ sym (start_in p lists c (omega arith))) i) (sym (degree_in p lists c s d h e f) i) L % 2)

  -- the parity of the negative soft values is what the code and the word say
  pub odd_is : (soft : List ℤ) (r : ℕ) → r ≡ negatives (var own) 0 (length own) (values soft) → eqb (r % 2) 1 ≡ eqb (unmet_at (code_in p lists) (begin (length soft) soft).L c) 1
  odd_is soft r g =
      ap (λ (z : ℕ). eqb z 1)
      (unmet_is r (values soft) (g ∙ ap (λ z. negatives (var own) 0 z (values soft)) own_length ∙ own_negatives (values soft) d (omega arith)))
      ∙ ap (λ (L : ℕ → ℤ). eqb (unmet_at (code_in p lists) L c) 1) (sym (begin_values (length soft) soft refl))
