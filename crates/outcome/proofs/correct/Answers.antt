-- `outcome::correct` meets its contract. Assumes nothing.
use Rattle.std.proofs.Common.{◌∙◌}
use Rattle.outcome.proofs.Corrected.{result_whole, corrected_whole}
use Rattle.outcome.proofs.correct.Goals as goal

pub returns : goal.returns
returns c =
    record {
      result = c.result_of.ensures ∙ result_whole c.args.part c.args.word.now _ c.decode-answer.ensures.answer;
      bits = corrected_whole c.args.part c.args.word.now c.decode-answer.new.word c.decode-answer.ensures.word;
    }
