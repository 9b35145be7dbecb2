use Rattle.std.proofs.Common.{◌≡◌, ℕ, ◌<◌, pos, length, get_or}
use Rattle.combine.specs.Combined.{clamped}
use Rattle.combine.proofs.clamp_all.Given as goal

-- the first i places are done
abbrev pub invariant-loop-i : goal.invariant-loop-i
invariant-loop-i l = (length l.x ≡ 16) × ((k : ℕ) → k < l.i → get_or l.x k (pos 0) ≡ clamped (get_or l.s k (pos 0)))
