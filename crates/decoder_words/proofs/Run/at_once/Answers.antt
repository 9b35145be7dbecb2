-- `decoder_words::Run::at_once` meets its contract: the part of the soft values that is lent is the word's own.
-- Assumes nothing.
use Rattle.std.proofs.Common.{sym, ap, ◌∙◌, ◌||◌, eqb, Bool}
use Rattle.decoder_words.specs.Given.{own_met}
use Rattle.decoder_words.proofs.Run.at_once.Goals as goal

pub returns-then-soft_met : goal.returns-then-soft_met
returns-then-soft_met c =
    c.if-soft_met.true
    ∙ ap (λ (met : Bool). met || eqb 0 c.args.self.plan.limits.iterations)
    (sym c.if-soft_met.true ∙ c.soft_met.ensures ∙ own_met _ _ _ c.args.self.given c.args.w c.requires _ c.own_range.ensures _ _ c.code.ensures.lists c.code.ensures.sizes.1)

pub returns-else-soft_met : goal.returns-else-soft_met
returns-else-soft_met c =
    ap (λ (met : Bool). met || eqb 0 c.args.self.plan.limits.iterations)
    (sym c.if-soft_met.false ∙ c.soft_met.ensures ∙ own_met _ _ _ c.args.self.given c.args.w c.requires _ c.own_range.ensures _ _ c.code.ensures.lists c.code.ensures.sizes.1)
