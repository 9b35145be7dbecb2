use Rattle.report_form.proofs.Schedules.{s_missing}
use Rattle.report_form.proofs.read_schedule.Goals as goal

pub returns-in-Some-read_digit : goal.returns-in-Some-read_digit
returns-in-Some-read_digit c = let d = c.in-Some-read_digit.ensures.some in s_missing c.in-Some.ensures d.0 d.1
