-- `decoder_words::note` meets its contract: the word's part of the records is lent from the middle.
-- Assumes nothing.
use Rattle.std.proofs.Common.{ap, ◌∙◌, List, ℕ, ◌++◌, ◌-◌, take, drop}
use Rattle.decoder_words.specs.Fields.{fields}
use Rattle.decoder_words.specs.Noting.{numbers}
use Rattle.decoder_words.specs.Part.{back}
use Rattle.decoder_words.proofs.note.Goals as goal

pub returns : goal.returns
returns c =
    let r = c.own_range.result in
    ap (λ (ys : List ℕ). take r.start c.args.records.now ++ (ys ++ drop (r.end - r.start) (drop r.start c.args.records.now)))
    (c.copy_from_slice.ensures.after ∙ c.from.ensures)
    ∙ back fields c.args.w c.args.records.now (numbers c.args.r) r c.own_range.ensures
