-- `lane16::flip` meets its contract. Assumes nothing.
use Rattle.std.proofs.Common.{length, ◌≡◌, ℕ, ◌≤◌, ◌<◌}
use Rattle.laws.specs.Definitions.{negative, times}
use Rattle.lane16.specs.Lanes.{int_at}
use Rattle.lane16.proofs.flip.Given as goal

-- the first i lanes are multiplied, and the others as they were
abbrev pub invariant-loop-i : goal.invariant-loop-i
invariant-loop-i l =
    (length l.g ≡ 16)
    × ((k : ℕ) → k < l.i → negative (int_at l.g k) ≡ times (negative (int_at l.initial.g k)) (negative (int_at l.x k)))
    × ((k : ℕ) → l.i ≤ k → int_at l.g k ≡ int_at l.initial.g k)
