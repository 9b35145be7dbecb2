use Rattle.std.proofs.Common.{pos, arith}
use Rattle.std.proofs.lemmas.List.FromFn.{fill_by_all}
use Rattle.combine.specs.Combined.{words_of, sum_at, clamped, combined}
use Rattle.combine.proofs.Summands.write.Goals as goal

pub returns : goal.returns
unfolding combined
returns c =
    let self = c.args.self in
    fill_by_all (λ i. clamped (sum_at (words_of self.n self.count self.soft.now) i)) c.loop-i.out self.n (pos 0) c.loop-i.invariant.0 (λ i h. c.loop-i.invariant.1 i (omega arith))
