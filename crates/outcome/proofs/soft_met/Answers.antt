use Rattle.std.proofs.Common.{sym, ◌∙◌, arith}
use Rattle.outcome.specs.Scan.{met_start, met_again, met_end, met_not}
use Rattle.outcome.proofs.soft_met.Goals as goal

pub loop-c-init : goal.loop-c-init
loop-c-init c = met_start _ _

pub returns-then-odd : goal.returns-then-odd
returns-then-odd c = sym (met_not _ _ c.loop-c.c _ c.loop-c-test.true (sym c.odd.ensures ∙ c.if-odd.true))

pub loop-c-preserved : goal.loop-c-preserved
loop-c-preserved c = met_again _ _ c.loop-c.c (sym c.odd.ensures ∙ c.if-odd.false) c.loop-c.invariant

pub returns : goal.returns
returns c = sym (met_end _ _ c.loop-c.c _ (omega arith) c.loop-c.invariant)
