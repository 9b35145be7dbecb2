use Rattle.std.proofs.Common.{inr, Ok, Err}
use Rattle.report_text.specs.Report.{lines_of}
use Rattle.report_text.specs.Room.{run_so}
use Rattle.report_text.proofs.report.Goals as goal

pub returns-in-Ok-run : goal.returns-in-Ok-run
returns-in-Ok-run c =
    let d = c.in-Ok.ensures in
    inr (record {
      description = d.description;
      within = d.within;
      writes = d.writes;
      only = d.only;
      ran = Ok c.in-Ok-run.ran;
      records = c.run.new.records;
      run = run_so d c.in-Ok-run.ensures;
      answer = c.accepted.ensures;
    })

pub returns-in-Err-run : goal.returns-in-Err-run
unfolding lines_of
returns-in-Err-run c =
    let d = c.in-Ok.ensures in
    inr (record {
      description = d.description;
      within = d.within;
      writes = d.writes;
      only = d.only;
      ran = Err c.in-Err-run.refusal;
      records = c.run.new.records;
      run = run_so d c.in-Err-run.ensures;
      answer = c.refused-in-Err-run.ensures;
    })
