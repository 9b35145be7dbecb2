-- `fixed_lanes::blank` meets its contract. Assumes nothing.
use Rattle.std.proofs.Common.{◌≡◌, ℕ, ◌<◌, length, cond, pos}
use Rattle.laws.specs.Definitions.{negative}
use Rattle.lane16.specs.Lanes.{int_at}
use Rattle.fixed_lanes.proofs.blank.Given as goal

abbrev pub invariant-loop-i : goal.invariant-loop-i
invariant-loop-i l = (length l.y ≡ 16) × ((k : ℕ) → k < l.i → int_at l.y k ≡ cond (negative (int_at l.q.keeps k)) (int_at l.x k) (pos 0))
