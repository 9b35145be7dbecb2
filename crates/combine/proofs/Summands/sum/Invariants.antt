use Rattle.std.proofs.Common.{◌≡◌, ◌≤◌, ◌*◌, nat_abs}
use Rattle.combine.specs.Combined.{words_of, sum_at}
use Rattle.combine.proofs.Summands.sum.Given as goal

-- the sum of the first k words, which fits 16 bits
abbrev pub invariant-loop-k : goal.invariant-loop-k
invariant-loop-k l = (l.s ≡ sum_at (words_of l.self.n l.k l.self.soft.now) l.i) × (nat_abs l.s ≤ l.k * 128)
