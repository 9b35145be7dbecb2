-- `fixed_conflicts::advance` meets its contract. Assumes nothing.
use Rattle.fixed_conflicts.specs.Marks.{NextRow}
use Rattle.fixed_conflicts.proofs.advance.Given as goal

abbrev pub invariant-loop-l : goal.invariant-loop-l
invariant-loop-l l = NextRow l.initial.table l.counts l.g l.l l.table
