-- `outcome::soft_met` meets its contract. Assumes nothing.
use Rattle.std.proofs.Common.{◌≡◌, length}
use Rattle.iteration.specs.Lists.{code_in}
use Rattle.outcome.specs.Outcome.{begin, unmet_of}
use Rattle.outcome.proofs.soft_met.Given as goal

abbrev pub invariant-loop-c : goal.invariant-loop-c
invariant-loop-c l = unmet_of (code_in l.code.p l.code.lists.now) l.c (begin (length l.soft) l.soft) ≡ 0
