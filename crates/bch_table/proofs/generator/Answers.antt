use Rattle.std.proofs.Common.{ap, ◌∙◌}
use Rattle.std.proofs.lemmas.List.{nil_from_length}
use Rattle.bch_table.specs.Generator.{masks}
use Rattle.bch_table.proofs.Product.{generator_start, generator_again, generator_end}
use Rattle.bch_table.proofs.generator.Goals as goal

pub loop-mask-init : goal.loop-mask-init
unfolding masks
loop-mask-init c =
    generator_start _ (ap (λ r. r.iter.rest.now) c.into_iter-mask-iterator.ensures.into_iter_gives ∙ ap (λ i. i.rest.now) c.rev-mask-items.ensures.source ∙ c.iter.ensures.rest)

pub loop-mask-preserved : goal.loop-mask-preserved
loop-mask-preserved c = generator_again _ _ _ _ _ c.loop-mask.invariant c.in-Some.ensures.steps c.times-next.ensures

pub returns : goal.returns
returns c = generator_end _ _ c.loop-mask.invariant (nil_from_length _ c.in-None.ensures.steps.0)
