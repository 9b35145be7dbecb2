-- `outcome::soft_unmet` meets its contract. Assumes nothing.
use Rattle.std.proofs.Common.{length}
use Rattle.iteration.specs.Lists.{code_in}
use Rattle.iteration.specs.CountLaws.{UnmetCounted}
use Rattle.outcome.specs.Outcome.{begin}
use Rattle.outcome.proofs.soft_unmet.Given as goal

abbrev pub invariant-loop-c : goal.invariant-loop-c
invariant-loop-c l = UnmetCounted (code_in l.code.p l.code.lists.now) l.c (begin (length l.soft) l.soft) l.count l.check
