-- `decoder_words::read` meets its contract: the word's part of the records is lent from the middle.
-- Assumes nothing.
use Rattle.std.proofs.Common.{◌∙◌}
use Rattle.decoder_words.specs.Part.{own_record}
use Rattle.decoder_words.proofs.read.Goals as goal

pub returns : goal.returns
returns c =
    let first = rw c.unwrap.ensures at c.first_chunk.ensures.cases in
    c.from.ensures ∙ own_record c.args.w c.args.records.now c.unwrap.result.now _ c.own_range.ensures first.same
