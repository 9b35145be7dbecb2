-- `decoder_rounds::Round::iterate` meets its contract, by the column laws of the two schedules.
use Rattle.std.proofs.Common.{ap, ◌∙◌, rules}
use Rattle.laws.specs.Signed.{plain}
use Rattle.decoder_plan.specs.Plan.{is_layered}
use Rattle.decoder_rounds.specs.Iterate.{by_sequence, by_layers, layered_words}
use Rattle.decoder_rounds.proofs.Round.iterate.Goals as goal

pub returns-in-Layered : goal.returns-in-Layered
returns-in-Layered c =
    λ l h. by_layers _ _ _ _ _ _ _ _ (plain c.args.self.run.plan.offset (search rules)) (ap is_layered c.in-Layered.is)
    (layered_words (c.args.self.spanning (ap is_layered c.in-Layered.is)) c.layered_iteration.ensures l h
    ∙ simp c.in-Layered.is)

pub returns-in-Sequential : goal.returns-in-Sequential
returns-in-Sequential c =
    λ l h. by_sequence _ _ _ _ _ _ _ _ (plain c.args.self.run.plan.offset (search rules)) (ap is_layered c.in-Sequential.is) ((rw (c.code.ensures.lists, c.code.ensures.sizes.0, c.code.ensures.sizes.1) at c.iteration.ensures).words l h)
