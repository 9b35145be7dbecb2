use Rattle.std.proofs.Common.{arith}
use Rattle.report_form.proofs.Spell.{zero_missing}
use Rattle.report_form.proofs.read_number.Goals as goal

pub returns-in-Some : goal.returns-in-Some
returns-in-Some c =
    let d = c.in_ok-first.ensures.some in
    let e = c.in-Some.ensures.some in
    zero_missing c.args.most (omega arith) d.1 e.0 e.1
