use Rattle.std.proofs.Common.{sym, ◌∙◌, rules}
use mir.Syntax.{w8}
use mir.ValLaws.{to_z-of_z}
use Rattle.report_form.specs.Form.{found_as}
use Rattle.report_form.proofs.Lines.{settings_found, no_letter, after_letter, after_lanes, no_iterations, after_iterations, no_offset, after_offset, no_schedule, after_schedule, no_rounds, after_rounds, no_first, after_first, no_length, after_length}
use Rattle.report_form.proofs.read_settings.Goals as goal

pub returns-in_err-rest : goal.returns-in_err-rest
returns-in_err-rest c = rw c.from_residual.ensures (no_letter c.in_err-rest.ensures)

pub returns-in_err-iterations : goal.returns-in_err-iterations
returns-in_err-iterations c =
    rw c.from_residual-in_err-iterations.ensures (after_letter c.in_ok-rest.ensures (after_lanes c.in_ok-lanes.ensures (no_iterations c.in_err-iterations.ensures)))

pub returns-in_err-offset : goal.returns-in_err-offset
returns-in_err-offset c =
    rw c.from_residual-in_err-offset.ensures
    (after_letter c.in_ok-rest.ensures (after_lanes c.in_ok-lanes.ensures (after_iterations c.in_ok-iterations.ensures (no_offset c.in_err-offset.ensures))))

pub returns-in_err-schedule : goal.returns-in_err-schedule
returns-in_err-schedule c =
    rw c.from_residual-in_err-schedule.ensures
    (after_letter c.in_ok-rest.ensures (after_lanes c.in_ok-lanes.ensures (after_iterations c.in_ok-iterations.ensures (after_offset c.in_ok-offset.ensures
    (no_schedule c.in_err-schedule.ensures)))))

pub returns-in_err-rounds : goal.returns-in_err-rounds
returns-in_err-rounds c =
    rw c.from_residual-in_err-rounds.ensures
    (after_letter c.in_ok-rest.ensures (after_lanes c.in_ok-lanes.ensures (after_iterations c.in_ok-iterations.ensures (after_offset c.in_ok-offset.ensures
    (after_schedule c.in_ok-schedule.ensures (no_rounds c.in_err-rounds.ensures))))))

pub returns-in_err-first : goal.returns-in_err-first
returns-in_err-first c =
    rw c.from_residual-in_err-first.ensures
    (after_letter c.in_ok-rest.ensures (after_lanes c.in_ok-lanes.ensures (after_iterations c.in_ok-iterations.ensures (after_offset c.in_ok-offset.ensures
    (after_schedule c.in_ok-schedule.ensures (after_rounds c.in_ok-rounds.ensures (no_first c.in_err-first.ensures)))))))

pub returns-in_err-length : goal.returns-in_err-length
returns-in_err-length c =
    rw c.from_residual-in_err-length.ensures
    (after_letter c.in_ok-rest.ensures (after_lanes c.in_ok-lanes.ensures (after_iterations c.in_ok-iterations.ensures (after_offset c.in_ok-offset.ensures
    (after_schedule c.in_ok-schedule.ensures (after_rounds c.in_ok-rounds.ensures (after_first c.in_ok-first.ensures (no_length c.in_err-length.ensures))))))))

pub returns-in_err-rest-2 : goal.returns-in_err-rest-2
returns-in_err-rest-2 c =
    rw c.from_residual-in_err-rest-2.ensures
    (after_letter c.in_ok-rest.ensures (after_lanes c.in_ok-lanes.ensures (after_iterations c.in_ok-iterations.ensures (after_offset c.in_ok-offset.ensures
    (after_schedule c.in_ok-schedule.ensures (after_rounds c.in_ok-rounds.ensures (after_first c.in_ok-first.ensures (after_length c.in_ok-length.ensures
    c.in_err-rest-2.ensures))))))))

pub returns : goal.returns
returns c =
    settings_found c.in_ok-rest.ensures c.in_ok-lanes.ensures c.in_ok-iterations.ensures (found_as c.in_ok-offset.ensures (λ x e. e ∙ sym (to_z-of_z w8 c.in_ok-offset.offset (search rules)))) c.in_ok-schedule.ensures
    c.in_ok-rounds.ensures c.in_ok-first.ensures c.in_ok-length.ensures c.in_ok-rest-2.ensures
