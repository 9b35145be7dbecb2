-- Parts of lists and lists of one element repeated, beside the kit's lib.Seq and lib.ListN.
--
-- In order: a part taken first and dropped from (`drop_take`); one element repeated, read at any index with that element as the default (`replicate_at`); the part of a slice from n on, as it is lent and as it
-- comes back (`lent_from`, `back_from`); lists joined (`concat_chunks`, `concat_push`).
--
-- Not here: stores (Stores).
use Rattle.std.specs.Prelude.{◌≡◌, refl, List, [], ◌∷◌, ◌++◌, ℕ, zero, suc, ◌+◌, ◌-◌, ◌*◌, length, get_or, take, drop, replicate}
use Rattle.std.proofs.Common.{sym, ap, ◌∙◌, append-nil, append_assoc, arith, take_all, take-add, zero-mul, length-drop, drop_of_length-le}
use Rattle.std.specs.List.{concat}
use Rattle.std.specs.Simd.{first_chunks}
use Rattle.std.proofs.Math.Seq.{take-nil}

-- a part taken first and dropped from, or dropped from first
pub drop_take : (f t : ℕ) (l : List ℕ) → drop f (take t l) ≡ take (t - f) (drop f l)
drop_take zero t l = let e : t ≡ t - 0 = omega arith in ap (λ (z : ℕ). take z l) e
drop_take (suc f) zero l = let e : 0 ≡ 0 - suc f = omega arith in ap (λ (z : ℕ). take z (drop (suc f) l)) e
drop_take (suc f) (suc t) [] = sym (take-nil (suc t - suc f))
drop_take (suc f) (suc t) (x ∷ l) = drop_take f t l ∙ (let e : t - f ≡ suc t - suc f = omega arith in ap (λ (z : ℕ). take z (drop f l)) e)

pub replicate_at : {A : Type 0} (d : A) (n i : ℕ) → get_or (replicate n d) i d ≡ d
replicate_at d zero i = refl
replicate_at d (suc n) zero = refl
replicate_at d (suc n) (suc i) = replicate_at d n i

-- the part of a slice from n on, as `&x[n..]` and `&mut x[n..]` lend it, and as it comes back
module _ {A : Type 0} (n : ℕ) (x : List A) where
  pub lent_from : take (length x - n) (drop n x) ≡ drop n x
  lent_from = take_all (length x - n) (drop n x) (omega (arith, length-drop n x))

  pub back_from : (y : List A) → take n x ++ (y ++ drop (length x - n) (drop n x)) ≡ take n x ++ y
  back_from y =
      ap (λ (z : List A). take n x ++ z)
      (ap (λ (z : List A). y ++ z) (drop_of_length-le (drop n x) {i = length x - n} (omega (arith, length-drop n x))) ∙ append-nil y)

-- chunks joined again, and one more list joined
pub concat_chunks : (n k : ℕ) (xs : List ℕ) → concat (first_chunks n k xs) ≡ take (k * n) xs
concat_chunks n zero xs = ap (λ (m : ℕ). take m xs) (sym (zero-mul n))
concat_chunks n (suc k) xs =
    let more : n + k * n ≡ suc k * n = omega arith in
    ap (λ ys. take n xs ++ ys) (concat_chunks n k (drop n xs)) ∙ sym (take-add n (k * n) xs) ∙ ap (λ (m : ℕ). take m xs) more

pub concat_push : (xs : List (List ℕ)) (x : List ℕ) → concat (xs ++ x ∷ []) ≡ concat xs ++ x
concat_push [] x = append-nil x
concat_push (y ∷ xs) x = ap (λ (l : List ℕ). y ++ l) (concat_push xs x) ∙ sym (append_assoc y (concat xs) x)
