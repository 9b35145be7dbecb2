-- `lane16::reply` meets its contract. Assumes nothing.
use Rattle.std.proofs.Common.{length, ◌≡◌, ℕ, ◌<◌, ◌+ℤ◌}
use Rattle.iteration.specs.Value.{sat_z}
use Rattle.lane_math.specs.Reply.{replied}
use Rattle.lane16.specs.Lanes.{int_at, nat_at}
use Rattle.lane16.proofs.reply.Given as goal

-- the first i lanes are answered
abbrev pub invariant-loop-i : goal.invariant-loop-i
invariant-loop-i l =
    (length l.m ≡ 16)
    × (length l.y ≡ 16)
    × ((k : ℕ) → k < l.i → int_at l.m k ≡ replied (int_at l.t k) (nat_at l.ready.least k) (int_at l.ready.m1 k) (int_at l.ready.m2 k))
    × ((k : ℕ) → k < l.i → int_at l.y k ≡ sat_z (int_at l.t k +ℤ replied (int_at l.t k) (nat_at l.ready.least k) (int_at l.ready.m1 k) (int_at l.ready.m2 k)))
