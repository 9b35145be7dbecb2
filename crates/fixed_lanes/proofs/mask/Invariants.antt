-- `fixed_lanes::mask` meets its contract. Assumes nothing.
use Rattle.std.proofs.Common.{◌≡◌, ℕ, ◌<◌, length, cond, ℤ, pos, negsuc}
use Rattle.laws.specs.Definitions.{negative}
use Rattle.lane16.specs.Lanes.{int_at}
use Rattle.fixed_lanes.specs.Clear.{on}
use Rattle.fixed_lanes.proofs.mask.Given as goal

-- 0 or -1
abbrev pub Masks : ℤ → Type 0
Masks y = y ≡ cond (negative y) (negsuc 0) (pos 0)

abbrev pub invariant-loop-i : goal.invariant-loop-i
invariant-loop-i l = (length l.q ≡ 16) × (((k : ℕ) → k < 16 → Masks (int_at l.q k)) × ((k : ℕ) → k < l.i → int_at l.q k ≡ cond (on l.fresh k) (pos 0) (negsuc 0)))
