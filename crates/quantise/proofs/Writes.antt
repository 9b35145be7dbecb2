-- A list of values written one by one over the front of another.
-- Assumes nothing.
use Rattle.std.proofs.Common.{◌≡◌, refl, sym, ◌∙◌, ap, ap₂, List, [], ◌∷◌, ◌++◌, map, ℕ, zero, suc, ◌+◌, ◌<◌, ◌≤◌, not-suc-le-zero, le_of_suc-le-suc, add-one, length, get_or, set, take, drop}

module _ {A B : Type 0} (f : A → B) (d : A) where
  -- the first i values are written
  abbrev pub upto : List A → List B → ℕ → List B
  upto xs out i = map f (take i xs) ++ drop i out

  next : (xs : List A) (out : List B) (i : ℕ) → i < length xs → length xs ≤ length out → set (upto xs out i) i (f (get_or xs i d)) ≡ upto xs out (suc i)
  next [] out i = λ h k. absurd (not-suc-le-zero h)
  next (x ∷ xs) [] i = λ h k. absurd (not-suc-le-zero k)
  next (x ∷ xs) (o ∷ out) zero = λ h k. refl
  next (x ∷ xs) (o ∷ out) (suc i) = λ h k. ap (λ (l : List B). f x ∷ l) (next xs out i (le_of_suc-le-suc h) (le_of_suc-le-suc k))

  pub upto_again : (xs : List A) (out l : List B) (i : ℕ) (v : B) → i < length xs → length xs ≤ length out → l ≡ upto xs out i → v ≡ f (get_or xs i d) → set l i v ≡ upto xs out (i + 1)
  upto_again xs out l i v h k e w = ap₂ (λ (m : List B) (y : B). set m i y) e w ∙ (next xs out i h k ∙ ap (upto xs out) (sym (add-one i)))
