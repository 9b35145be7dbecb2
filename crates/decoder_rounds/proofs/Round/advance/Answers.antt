-- `decoder_rounds::Round::advance` meets its contract: every lane's word has its iteration, each verdict is its own word's, and the lanes have their turns.
-- Assumes nothing.
use Rattle.decoder_assign.specs.Taken.{held_in}
use Rattle.decoder_rounds.specs.Rounds.{judged}
use Rattle.decoder_rounds.proofs.Round.advance.Goals as goal

pub retire-requires-clause-judged : goal.retire-requires-clause-judged
retire-requires-clause-judged c =
    judged c.args.self.run.plan c.args.self.run.lists.now _ (held_in c.args.taken) _ _ c.requires.working.edges c.requires.working.stored.fair.few_lanes c.flags.ensures
    (rw (c.code.ensures.lists, c.code.ensures.sizes.0, c.code.ensures.sizes.1) at c.met-verdict.ensures)
