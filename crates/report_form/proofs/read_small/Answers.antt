use Rattle.std.proofs.Common.{rules}
use Rattle.report_form.proofs.Smalls.{minus_found}
use Rattle.report_form.proofs.read_small.Goals as goal

pub returns-else-value-eq0 : goal.returns-else-value-eq0
returns-else-value-eq0 c = minus_found c.in-Some.ensures c.if-value-eq0.false (search rules) c.in_ok-value-in-Some.ensures
