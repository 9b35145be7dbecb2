use Rattle.std.proofs.Common.{refl, arith}
use Rattle.std.proofs.lemmas.Int.{ints}
use Rattle.combine.specs.Combined.{sum_at}
use Rattle.combine.specs.CombinedLaws.{sum_more}
use Rattle.combine.proofs.Summands.sum.Goals as goal

pub loop-k-init : goal.loop-k-init
unfolding sum_at
loop-k-init c = (refl, omega arith)

pub loop-k-preserved : goal.loop-k-preserved
loop-k-preserved c =
    let sum = c.plus-s.ensures.sum in
    let size = c.plus-s.ensures.size in
    let was = c.loop-k.invariant in
    let more = sum_more c.args.self.n c.loop-k.k c.args.i c.args.self.soft.now c.requires in
    (omega (arith, ints), omega (arith, ints))
