-- `decoder_retire::Words::counted` meets its contract.
-- Assumes nothing.
use Rattle.std.proofs.Common.{rules, ◌∙◌}
use Rattle.std.proofs.lemmas.List.{get_or-replicate}
use Rattle.fixed_syndrome.specs.Count.{no_unmet}
use Rattle.decoder_retire.specs.Counts.{counts_asked, counts_none}
use Rattle.decoder_retire.proofs.Words.counted.Goals as goal

pub returns-then-not-asked : goal.returns-then-not-asked
returns-then-not-asked c = counts_none c.if-not-asked.true (λ l q. get_or-replicate 64 l c.default.result no_unmet q ∙ search (c.default.ensures, rules))

pub returns : goal.returns
returns c = counts_asked c.if-not-asked.false c.args.self.working.edges
    (rw (c.new-code.ensures.lists, c.new-code.ensures.sizes.0, c.new-code.ensures.sizes.1) at c.count_lanes.ensures)
