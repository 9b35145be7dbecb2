-- `lane16::scan` meets its contract. Assumes nothing.
use Rattle.std.proofs.Common.{length, ◌≡◌, List, ℕ, ◌≤◌, ◌<◌, min, max, ℤ, nat_abs, ◌-ℤ◌}
use Rattle.laws.specs.Definitions.{negative, times}
use Rattle.iteration.specs.Value.{sat_z}
use Rattle.lane16.specs.Lanes.{int_at, nat_at}
use Rattle.lane16.proofs.scan.Given as goal

-- the first i lanes are done, and the others as they were
pub record Going (L r : List ℤ) (a b : List ℕ) (s : List ℤ) (a' b' : List ℕ) (s' t : List ℤ) (i : ℕ) : Type 0 where
  pub long : (length a' ≡ 16) × (length b' ≡ 16) × (length s' ≡ 16) × (length t ≡ 16)
  pub t_is : (k : ℕ) → k < i → int_at t k ≡ sat_z (int_at L k -ℤ int_at r k)
  pub min1_is : (k : ℕ) → k < i → nat_at a' k ≡ min (nat_at a k) (nat_abs (sat_z (int_at L k -ℤ int_at r k)))
  pub min2_is : (k : ℕ) → k < i → nat_at b' k ≡ max (nat_at a k) (min (nat_at b k) (nat_abs (sat_z (int_at L k -ℤ int_at r k))))
  pub sign_is : (k : ℕ) → k < i → negative (int_at s' k) ≡ times (negative (int_at s k)) (negative (sat_z (int_at L k -ℤ int_at r k)))
  pub min1_kept : (k : ℕ) → i ≤ k → nat_at a' k ≡ nat_at a k
  pub min2_kept : (k : ℕ) → i ≤ k → nat_at b' k ≡ nat_at b k
  pub sign_kept : (k : ℕ) → i ≤ k → int_at s' k ≡ int_at s k

abbrev pub invariant-loop-i : goal.invariant-loop-i
invariant-loop-i l = Going l.lv l.rv l.initial.st.min1 l.initial.st.min2 l.initial.st.sign l.st.min1 l.st.min2 l.st.sign l.st.t l.i
