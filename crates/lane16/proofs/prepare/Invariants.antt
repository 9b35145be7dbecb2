-- `lane16::prepare` meets its contract. Assumes nothing.
use Rattle.std.proofs.Common.{length, ◌≡◌, ℕ, ◌<◌, min}
use Rattle.laws.specs.Definitions.{negative}
use Rattle.iteration.specs.Value.{reduced, signed}
use Rattle.lane16.specs.Lanes.{int_at, nat_at}
use Rattle.lane16.proofs.prepare.Given as goal

-- the first i lanes are ready
abbrev pub invariant-loop-i : goal.invariant-loop-i
invariant-loop-i l =
    (length l.m1 ≡ 16)
    × (length l.m2 ≡ 16)
    × ((k : ℕ) → k < l.i → int_at l.m1 k ≡ signed (negative (int_at l.st.sign k)) (reduced l.offset (min (nat_at l.st.min1 k) 127)))
    × ((k : ℕ) → k < l.i → int_at l.m2 k ≡ signed (negative (int_at l.st.sign k)) (reduced l.offset (min (nat_at l.st.min2 k) 127)))
