-- Shift registers that generate a sequence, and the shortest of them.
use Rattle.std.specs.Prelude.{◌≡◌, ℕ, ◌≤◌, ◌<◌}
use Rattle.algebra.specs.Ring.{Ring}
use Rattle.algebra.specs.Series.{conv}

module _ {F : Type 0} (R : Ring F) where
  -- the register c of length l generates the first k of s: c_0 = 1, c_j = 0 past l,
  -- and the sum over j of c_j s_(n-j) is 0 for each n with l <= n < k, so that the first l of s give the others
  pub record Gen (s : ℕ → F) (k : ℕ) (c : ℕ → F) (l : ℕ) : Type 0 where
    pub head : c 0 ≡ R.𝟙
    pub supp : (i : ℕ) → l < i → c i ≡ R.𝟘
    pub zeros : (n : ℕ) → l ≤ n → n < k → conv R c s n ≡ R.𝟘

  -- it does, and no shorter one does: a shortest register that generates the first k of s
  pub record Shortest (s : ℕ → F) (k : ℕ) (c : ℕ → F) (l : ℕ) : Type 0 where
    pub gen : Gen s k c l
    pub short : (c' : ℕ → F) (l' : ℕ) → Gen s k c' l' → l ≤ l'
