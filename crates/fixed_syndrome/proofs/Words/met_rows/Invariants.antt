-- `fixed_syndrome::Words::met_rows` meets its contract. Assumes nothing.
use Rattle.fixed_syndrome.specs.Met.{Seen}
use Rattle.fixed_syndrome.proofs.Words.met_rows.Given as goal

abbrev pub invariant-loop-c : goal.invariant-loop-c
invariant-loop-c l = Seen l.self.code.n l.self.code.p l.self.lanes l.self.code.lists.now l.self.work.now l.self.at l.initial.v l.c l.v
