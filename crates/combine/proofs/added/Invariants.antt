use Rattle.std.proofs.Common.{◌≡◌, ℕ, ◌+◌, ◌≤◌, ◌<◌, ◌+ℤ◌, pos, nat_abs, length, get_or, List, ℤ}
use Rattle.combine.proofs.added.Given as goal

-- the first i places have their sums, and the others are as they were
pub record Going (s x s' : List ℤ) (i : ℕ) : Type 0 where
  pub long : length s' ≡ 16
  pub sums : (k : ℕ) → k < i → get_or s' k (pos 0) ≡ get_or s k (pos 0) +ℤ get_or x k (pos 0)
  pub sizes : (k : ℕ) → k < i → nat_abs (get_or s' k (pos 0)) ≤ nat_abs (get_or s k (pos 0)) + 128
  pub rest : (k : ℕ) → i ≤ k → get_or s' k (pos 0) ≡ get_or s k (pos 0)

abbrev pub invariant-loop-i : goal.invariant-loop-i
invariant-loop-i l = Going l.initial.s l.x l.s l.i
