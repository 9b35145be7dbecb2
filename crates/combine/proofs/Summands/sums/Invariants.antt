use Rattle.std.proofs.Common.{◌≡◌, ℕ, ◌+◌, ◌*◌, ◌≤◌, ◌<◌, pos, nat_abs, get_or}
use Rattle.combine.specs.Combined.{words_of, sum_at}
use Rattle.combine.proofs.Summands.sums.Given as goal

-- the sums of the first k words, which fit 16 bits
abbrev pub invariant-loop-word : goal.invariant-loop-word
invariant-loop-word l =
    ((j : ℕ) → j < 16 → get_or l.s j (pos 0) ≡ sum_at (words_of l.self.n l.word l.self.soft.now) (l.at + j))
    × ((j : ℕ) → j < 16 → nat_abs (get_or l.s j (pos 0)) ≤ l.word * 128)
