use Rattle.std.proofs.Common.{◌≡◌, ℕ, ◌<◌, pos, length, get_or}
use Rattle.combine.specs.Combined.{words_of, sum_at, clamped}
use Rattle.combine.proofs.Summands.write.Given as goal

-- every place below i is written
abbrev pub invariant-loop-i : goal.invariant-loop-i
invariant-loop-i l =
    (length l.out ≡ l.self.n)
    × ((j : ℕ) → j < l.i → get_or l.out j (pos 0) ≡ clamped (sum_at (words_of l.self.n l.self.count l.self.soft.now) j))
