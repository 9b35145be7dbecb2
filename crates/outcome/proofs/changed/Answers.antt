use Rattle.std.proofs.Common.{ap, ◌+◌, ◌∙◌, min, length, arith}
use Rattle.outcome.specs.Laws.{bits_length}
use Rattle.outcome.specs.Outcome.{begin}
use Rattle.outcome.specs.Changed.{changed_bits, comparing_on, comparing_end}
use Rattle.outcome.proofs.changed.Goals as goal

pub returns : goal.returns
unfolding changed_bits
returns c =
    let n = length c.args.soft.now in
    comparing_end _ _ (min n c.loop-from.from) _ (omega (arith, bits_length n (begin n c.args.soft.now))) c.loop-from.invariant

pub returns-2 : goal.returns-2
unfolding changed_bits
returns-2 c =
    let n = length c.args.soft.now in
    ap (λ more. c.loop-from.count + more) c.from-count.ensures
    ∙ comparing_end _ _ n _ (omega (arith, bits_length n (begin n c.args.soft.now)))
    (comparing_on _ _ _ _ _ (omega arith) (omega arith) c.loop-from.invariant c.differing.ensures)
