-- Lists read item by item: whether one more may come.
use Rattle.std.proofs.Common.{◌≡◌, inr, List, [], ◌∷◌, ◌++◌, ℕ, suc, ◌≤◌, length, length-append, arith}
use Rattle.report_form.specs.Description.{All}
use Rattle.report_form.specs.Form.{Items, ListEnds}

pub length_snoc : {A : Type 0} (xs : List A) (x : A) → length (xs ++ x ∷ []) ≡ suc (length xs)
length_snoc xs x = omega (arith, length-append xs (x ∷ []))

pub all_snoc : {A : Type 0} (P : A → Type 0) (xs : List A) (x : A) → All P xs → P x → All P (xs ++ x ∷ [])
all_snoc P [] x h p = (p, tt)
all_snoc P (y ∷ ys) x h p = (h.0, all_snoc P ys x h.1 p)

-- a list that is counted ends where it is full
pub list_full : {A : Type 0} (I : Items A) (Fine : List A → Type 0) (fine : (xs : List A) → Fine xs → All I.form.Within xs) (Says : List A → Type 0) (most count : ℕ)
    → ((xs : List A) → Fine xs → length xs ≤ most) → ((xs : List A) → Says xs → length xs ≡ count) → (now : List ℕ) → most ≤ count → ListEnds I Fine fine Says now
list_full I Fine fine Says most count few is now full xs s = inr (λ x more w. omega (arith, length-append xs (x ∷ more), few (xs ++ x ∷ more) w, is xs s, full))
