use Rattle.std.proofs.Common.{arith, refl, rules, ◌∙◌}
use Rattle.std.proofs.lemmas.List.{get_or-replicate}
use Rattle.fixed_syndrome.specs.Chunk.{filled_start, filled_again}
use Rattle.fixed_syndrome.specs.Count.{no_unmet, UnmetIn, counted_lanes}
use Rattle.fixed_syndrome.proofs.count_lanes.Goals as goal

pub loop-at-init : goal.loop-at-init
loop-at-init c =
    (refl, filled_start no_unmet (UnmetIn c.args.code.n c.args.code.p c.args.lanes c.args.code.lists.now c.args.work.now) _ (omega arith) (λ i q. get_or-replicate 64 i c.default-unmet.result no_unmet q ∙ search (c.default-unmet.ensures, rules)))

pub loop-at-preserved : goal.loop-at-preserved
loop-at-preserved c =
    (omega (arith, c.put.ensures.long), filled_again (omega arith) (omega arith) c.loop-at.invariant.1 c.put.ensures (λ k q. c.count_rows.ensures.is k (omega arith)))

pub returns : goal.returns
returns c = counted_lanes (omega arith) c.loop-at.invariant.1

pub returns-2 : goal.returns-2
returns-2 c = counted_lanes refl (filled_again (omega arith) (omega arith) c.loop-at.invariant.1 c.put.ensures (λ k q. c.count_rows.ensures.is k (omega arith)))
