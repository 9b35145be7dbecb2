use Rattle.std.proofs.Common.{◌≡◌, ℕ, ◌*◌, ◌<◌, pos, length, get_or}
use Rattle.combine.specs.Combined.{words_of, sum_at, clamped}
use Rattle.combine.proofs.Summands.write_sixteens.Given as goal

-- the first c sixteens are written
abbrev pub invariant-loop-c : goal.invariant-loop-c
invariant-loop-c l =
    (length l.out ≡ l.self.n)
    × ((i : ℕ) → i < l.c * 16 → get_or l.out i (pos 0) ≡ clamped (sum_at (words_of l.self.n l.self.count l.self.soft.now) i))
