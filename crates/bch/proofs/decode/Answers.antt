use Rattle.std.proofs.Common.{sym, ◌∙◌, arith, eqb-true}
use Rattle.std.proofs.lemmas.Bool.{eqb-false}
use Rattle.bch_table.specs.Step.{value_of}
use Rattle.bch.proofs.Decodes.{decodes_refused, decodes_clean, decodes_located}
use Rattle.bch.proofs.Zero.{zero_words}
use Rattle.bch.proofs.decode.Goals as goal

pub returns-then-n-lt193 : goal.returns-then-n-lt193
returns-then-n-lt193 c = decodes_refused _ c.then-n-lt193.either

pub returns-then-eq : goal.returns-then-eq
returns-then-eq c =
    decodes_clean _ (omega arith) (omega arith)
    (sym c.remainder-r.ensures ∙ eqb-true (value_of c.remainder-r.result) 0 (sym (zero_words _ _ _) ∙ sym c.eq.ensures ∙ c.if-eq.true))

pub returns : goal.returns
returns c =
    decodes_located _ (omega arith) (omega arith)
    (λ n. eqb-false (value_of c.remainder-r.result) 0 (sym (zero_words _ _ _) ∙ sym c.eq.ensures ∙ c.if-eq.false) (c.remainder-r.ensures ∙ n)) _ _ c.correct.ensures
