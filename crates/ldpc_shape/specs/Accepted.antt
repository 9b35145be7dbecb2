-- What it says of a code that no refusal applies.
use Rattle.std.specs.Prelude.{◌≡◌, false, List, [], ◌∷◌, ℕ, zero, suc, ◌+◌, ◌*◌, ◌%◌, ◌≤◌, ◌<◌, ltb, length}
use Rattle.std.proofs.Common.{sym, subst, arith, ltb-false}
use Rattle.std.proofs.Math.Decide.{ℕ_discrete}
use Rattle.laws.specs.Choice.{or_left, or_right}
use Rattle.ldpc_shape.specs.declared.Sizes.{Sizes}
use Rattle.ldpc_shape.specs.Shape.{k_of, p_of, q_of, e_of, total, any_over, count_mod, counts_mod}

pub record Accepted (n : ℕ) (lens addrs : List ℕ) : Type 0 where
  pub whole : n % 374 ≡ 0
  pub small : n ≤ 44880
  pub rows : 374 * length lens < n
  pub short : any_over 128 lens ≡ false
  pub adds : total lens ≡ length addrs
  pub few : any_over 126 (counts_mod (q_of n lens) addrs (q_of n lens)) ≡ false

-- no number above the limit: the sum is at most the limit times how many there are
pub total_le : (m : ℕ) (xs : List ℕ) → any_over m xs ≡ false → total xs ≤ length xs * m
unfolding any_over total
total_le m [] e = omega arith
total_le m (x ∷ xs) e =
    let a = ltb-false m x (or_left (ltb m x) (any_over m xs) e) in
    let b = total_le m xs (or_right (ltb m x) (any_over m xs) e) in
    omega arith

few_le : (m q : ℕ) (addrs : List ℕ) (k : ℕ) → any_over m (counts_mod q addrs k) ≡ false → (l : ℕ) → l < k → count_mod q l addrs ≤ m
unfolding any_over counts_mod
few_le m q addrs zero e l h = absurd (omega arith)
few_le m q addrs (suc k) e l h =
    go (ℕ_discrete l k) (λ (g : l < k). few_le m q addrs k (or_right (ltb m (count_mod q k addrs)) (any_over m (counts_mod q addrs k)) e) l g)
  where
    go : Dec (l ≡ k) → (l < k → count_mod q l addrs ≤ m) → count_mod q l addrs ≤ m
    go (yes f) ih =
        subst (λ (z : ℕ). count_mod q z addrs ≤ m) (sym f)
        (ltb-false m (count_mod q k addrs) (or_left (ltb m (count_mod q k addrs)) (any_over m (counts_mod q addrs k)) e))
    go (no f) ih = ih (omega arith)

-- the numbers of an accepted code
module _ (n : ℕ) (lens addrs : List ℕ) (A : Accepted n lens addrs) where
  pub p_is : p_of n lens ≡ 374 * q_of n lens
  unfolding p_of q_of k_of
  p_is = omega (arith, A.whole, A.rows)

  pub p_pos : 0 < p_of n lens
  unfolding p_of k_of
  p_pos = omega (arith, A.rows)

  pub p_le : p_of n lens ≤ 44880
  unfolding p_of
  p_le = omega (arith, A.small)

  pub n_is : k_of lens + p_of n lens ≡ n
  unfolding p_of k_of
  n_is = omega (arith, A.rows)

  pub q_pos : 0 < q_of n lens
  unfolding p_of q_of k_of
  q_pos = omega (arith, A.whole, A.rows)

  pub q_le : q_of n lens ≤ 120
  unfolding p_of q_of k_of
  q_le = omega (arith, A.small)

  pub rows_le : length lens ≤ 119
  rows_le = omega (arith, A.rows, A.small)

  pub addrs_le : length addrs ≤ 15360
  addrs_le = omega (arith, A.adds, total_le 128 lens A.short, rows_le)

  pub few : (l : ℕ) → l < q_of n lens → count_mod (q_of n lens) l addrs ≤ 126
  few = few_le 126 (q_of n lens) addrs (q_of n lens) A.few

  pub e_pos : 0 < e_of n lens addrs
  unfolding e_of
  e_pos = omega (arith, p_pos)

  pub e_le : e_of n lens addrs ≤ 6000000
  unfolding e_of
  e_le = omega (arith, addrs_le, p_le)

-- what the numbers of an accepted code are to each other, and their bounds
pub record Bounded (s : Sizes) : Type 0 where
  pub n_is : s.n ≡ s.k + s.p
  pub p_is : s.p ≡ 374 * s.q
  pub n_le : s.n ≤ 44880
  pub q_pos : 0 < s.q
  pub q_le : s.q ≤ 120
  pub p_pos : 0 < s.p
  pub p_le : s.p ≤ s.n
  pub e_pos : 0 < s.e
  pub e_le : s.e ≤ 6000000
