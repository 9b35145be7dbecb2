-- Horner's rule: the product of p and the digits of m from j up, the highest first, goes on to the digit below.
-- Assumes nothing.
use Rattle.std.proofs.Common.{◌≡◌, sym, ap, ap₂, ◌∙◌, ℕ, zero, suc, ◌-◌, ◌*◌, ◌/◌, ◌%◌, ◌^◌, ◌≤◌, ◌<◌, not-suc-le-zero, add-one, arith, shr-shr}
use Rattle.laws.specs.Definitions.{◌⊕◌, clmul}

pub horner_next : (n m p j : ℕ) → 0 < j → j ≤ n → (m / 2 ^ (j - 1) % 2 * p) ⊕ (clmul (n - j) (m / 2 ^ j) p * 2) ≡ clmul (n - (j - 1)) (m / 2 ^ (j - 1)) p
unfolding clmul
horner_next n m p zero h le = absurd (not-suc-le-zero h)
horner_next n m p (suc j) h le =
    ap₂ (λ (k q : ℕ). (m / 2 ^ k % 2 * p) ⊕ (clmul (n - suc j) q p * 2)) less (sym below) ∙ ap₂ (λ (i k : ℕ). clmul i (m / 2 ^ k) p) (sym count) (sym less)
  where
    less : suc j - 1 ≡ j
    less = omega arith

    count : n - (suc j - 1) ≡ suc (n - suc j)
    count = omega arith

    below : m / 2 ^ j / 2 ≡ m / 2 ^ suc j
    below = shr-shr m j 1 ∙ ap (λ (k : ℕ). m / 2 ^ k) (add-one j)
