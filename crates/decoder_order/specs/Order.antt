-- The input order's places.
use Rattle.std.specs.Prelude.{◌≡◌, ℕ, ◌≤◌, ◌<◌, length, get_or, take}
use Rattle.std.proofs.Common.{◌∙◌, arith, get_or-take, length-take-le}
use Rattle.schedule.specs.Run.{input_order}
use Rattle.schedule.proofs.Theorem.{length_counting, get_d_counting, input_is}

-- ---- the first words of the input order
pub input_length : (n : ℕ) → length (input_order n) ≡ n
unfolding input_order
input_length n = length_counting 0 n

pub input_at : (n k : ℕ) → k < n → get_or (input_order n) k 0 ≡ k
unfolding input_order
input_at n k h = get_d_counting 0 n k h ∙ omega arith

pub input_take : (m n : ℕ) → n ≤ m → take n (input_order m) ≡ input_order n
input_take m n h =
    input_is n (take n (input_order m)) (length-take-le n (input_order m) (omega (arith, input_length m)))
    (λ k g. get_or-take n (input_order m) k 0 g ∙ input_at m k (omega arith))
