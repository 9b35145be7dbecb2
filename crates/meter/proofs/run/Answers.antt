-- The core's run over the program's own numbers, its records written, and the tally.
use Rattle.std.proofs.Common.{refl, ◌∙◌, ◌*◌, Err, arith, rules}
use Rattle.std.proofs.lemmas.Result.{err_from_is_err_and}
use Rattle.decoder_words.specs.Fields.{fields}
use Rattle.meter.specs.Laws.{min_room, recorded_so, records_lent}
use Rattle.meter.proofs.Metering.{metered, metered_stored}
use Rattle.meter.proofs.run.Goals as goal

pub returns-in_err-ran : goal.returns-in_err-ran
returns-in_err-ran c =
    let p = err_from_is_err_and c.from_residual.result c.from_residual.ensures.1 in
    rw (p.1, p.2)
    (metered (Err c.in_err-ran.field-0.0)
    (recorded_so _ c.min-size.result (4096 * fields) _ c.core.new.records (c.min-size.ensures ∙ min_room _) refl c.core.auto.records c.in_err-ran.ensures) refl refl)

pub returns : goal.returns
returns c =
    metered_stored c.in_ok-ran.ran
    (recorded_so _ c.min-size.result (4096 * fields) _ c.core.new.records (c.min-size.ensures ∙ min_room _) refl c.core.auto.records c.in_ok-ran.ensures)
    c.in_ok-ran.ran.words
    (records_lent _ c.in_ok-ran.ran.words c.loop-w.w c.args.records.now c.loop-w.record-items (search rules) (omega arith) c.loop-w.invariant) refl c.from.ensures
