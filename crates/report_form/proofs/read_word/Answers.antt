use Rattle.std.proofs.Common.{ap, ◌∙◌, length, replicate, rules}
use mir.Syntax.{w8}
use mir.ValLaws.{to_z-of_z}
use Rattle.report_form.specs.Form.{match_both}
use Rattle.report_form.proofs.Words.{no_pairs, word_found}
use Rattle.report_form.proofs.read_word.Goals as goal

pub returns : goal.returns
returns c =
    match_both c.read_pairs.result c.read_pairs.ensures
    (no_pairs (length c.args.word.now) c.fill.ensures.len c.in_ok-rest.ensures c.in_ok-value.ensures)
    (λ r. word_found (length c.args.word.now) c.fill.ensures.len c.in_ok-rest.ensures c.in_ok-value.ensures
    (c.fill.ensures.after (λ y h. h) ∙ ap (replicate (length c.args.word.now)) (to_z-of_z w8 c.in_ok-value.value (search rules))))
