use Rattle.std.proofs.Common.{arith}
use Rattle.std.proofs.lemmas.Bool.{eqb-false}
use Rattle.fixed_syndrome.specs.Met.{seen_again, seen_none}
use Rattle.fixed_syndrome.proofs.Words.met_rows.Goals as goal

pub returns-then-not-contains : goal.returns-then-not-contains
returns-then-not-contains c =
    seen_none (omega arith) (λ k q. eqb-false _ 0 (c.if-not-contains.ensures.cases k 0 (omega arith) (omega arith))) (seen_again c.loop-c.invariant c.check_bits.ensures c.larger-v.ensures)
