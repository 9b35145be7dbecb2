-- `fixed_syndrome::Words::count_rows` meets its contract. Assumes nothing.
use Rattle.std.proofs.Common.{min}
use Rattle.fixed_syndrome.specs.Count.{Counting}
use Rattle.fixed_syndrome.proofs.Words.count_rows.Given as goal

abbrev pub invariant-loop-from : goal.invariant-loop-from
invariant-loop-from l = Counting l.self.code.n l.self.code.p l.self.lanes l.self.code.lists.now l.self.work.now l.self.at (min l.self.code.p l.from) l.u.counts l.u.checks
