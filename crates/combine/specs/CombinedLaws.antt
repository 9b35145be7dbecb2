-- The sum at a place with one word more.
use Rattle.std.specs.Prelude.{◌≡◌, List, ℕ, zero, suc, ◌+◌, ◌*◌, ◌<◌, get_or, take, drop, ℤ, pos, ◌+ℤ◌}
use Rattle.std.proofs.Common.{sym, ap, ◌∙◌, arith, add-one}
use Rattle.std.proofs.Math.IntN.{+ℤ_idl, +ℤ_idr, +ℤ_assoc}
use Rattle.std.proofs.lemmas.List.{get_or-take, get_or-drop}
use Rattle.combine.specs.Combined.{words_of, sum_at}

-- one word more, by its front
sum_next : (n count i : ℕ) (soft : List ℤ) → i < n → sum_at (words_of n (suc count) soft) i ≡ sum_at (words_of n count soft) i +ℤ get_or soft (count * n + i) (pos 0)
unfolding sum_at
sum_next n zero i soft h =
    +ℤ_idr (get_or (take n soft) i (pos 0)) ∙ get_or-take n soft i (pos 0) h ∙ (let e : i ≡ 0 * n + i = omega arith in ap (λ (k : ℕ). get_or soft k (pos 0)) e)
    ∙ sym (+ℤ_idl (get_or soft (0 * n + i) (pos 0)))
sum_next n (suc count) i soft h =
    let first = get_or (take n soft) i (pos 0) in
    let rest = sum_at (words_of n count (drop n soft)) i in
    let e : n + (count * n + i) ≡ suc count * n + i = omega arith in
    ap (λ (z : ℤ). first +ℤ z) (sum_next n count i (drop n soft) h ∙ ap (λ (z : ℤ). rest +ℤ z) (get_or-drop n soft (count * n + i) (pos 0) ∙ ap (λ (k : ℕ). get_or soft k (pos 0)) e))
    ∙ sym (+ℤ_assoc first rest (get_or soft (suc count * n + i) (pos 0)))

pub sum_more : (n count i : ℕ) (soft : List ℤ) → i < n → sum_at (words_of n (count + 1) soft) i ≡ sum_at (words_of n count soft) i +ℤ get_or soft (count * n + i) (pos 0)
sum_more n count i soft h = ap (λ (k : ℕ). sum_at (words_of n k soft) i) (add-one count) ∙ sum_next n count i soft h
