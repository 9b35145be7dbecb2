-- `fixed_conflicts::RowSpans::shared` meets its contract. Assumes nothing.
use Rattle.fixed_conflicts.specs.Table.{Flagged}
use Rattle.fixed_conflicts.proofs.RowSpans.shared.Given as goal

abbrev pub invariant-loop-g : goal.invariant-loop-g
invariant-loop-g l = Flagged l.self.table.now l.rows l.q l.l l.g l.flags l.any
