-- `fixed_layered::CheckRun::write_row` meets its contract. Assumes nothing.
use Rattle.std.proofs.Common.{sym, ◌∙◌, true≢false}
use Rattle.fixed_layered.specs.Rows.{row_written}
use Rattle.fixed_layered.specs.Layers.{grouped}
use Rattle.fixed_layered.proofs.CheckRun.write_row.Goals as goal

pub invariant_of-row : goal.invariant_of-row
invariant_of-row c = record { grouped = grouped c.args.g c.if-not-self-g.false c.args.self.some c.args.self.shares c.span.ensures.0 c.span-2.ensures.0 }

pub returns : goal.returns
returns c =
    record {
      flagged = λ f. row_written c.gather_row.ensures.1 c.settle_row.ensures;
      plain = λ f. absurd (true≢false (sym c.if-not-self-g.false ∙ f));
    }
