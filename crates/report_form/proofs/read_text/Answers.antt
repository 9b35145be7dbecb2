use Rattle.std.proofs.Common.{arith}
use Rattle.report_form.proofs.Whole.{no_rows, no_words, one_description}
use Rattle.report_form.proofs.read_text.Goals as goal

pub returns-in_err-rows : goal.returns-in_err-rows
returns-in_err-rows c = rw c.from_residual-in_err-rows.ensures (no_rows c.in_ok-n.ensures c.in_err-rows.ensures)

pub returns-in_err-words : goal.returns-in_err-words
returns-in_err-words c =
    rw c.from_residual-in_err-words.ensures (no_words c.in_ok-n.ensures c.in_ok-rows.ensures c.in_ok-settings.ensures c.in_err-words.ensures)

pub returns : goal.returns
returns c = one_description _ c.in_ok-n.ensures c.in_ok-rows.ensures.0 c.in_ok-settings.ensures c.in_ok-words.ensures (omega arith)
