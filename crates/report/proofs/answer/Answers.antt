use Rattle.report_text.specs.Cut.{answered}
use Rattle.report.proofs.answer.Goals as goal

pub returns : goal.returns
returns c = answered c.report.ensures
