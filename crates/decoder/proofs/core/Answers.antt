-- `decoder::core` meets its contract: the refusal, or else the accepted run.
use Rattle.std.proofs.Common.{sym}
use Rattle.std.proofs.lemmas.Result.{err_from_is_err_and}
use Rattle.decoder.specs.Refused.{run_refusal}
use Rattle.decoder.specs.Core.{refused_so, planned, accepted_so}
use Rattle.decoder.proofs.core.Goals as goal

pub returns-in_err-plan : goal.returns-in_err-plan
unfolding run_refusal
returns-in_err-plan c =
    let p = err_from_is_err_and c.from_residual.result c.from_residual.ensures.1 in
    rw (p.1, p.2) (refused_so _ _ _ _ _ _ _ _ _ c.in_err-plan.field-0.0 c.in_err-plan.ensures.number)

pub accepted-requires : goal.accepted-requires
unfolding run_refusal
accepted-requires c = planned _ _ _ _ _ _ _ _ _ (sym c.in_ok-plan.ensures.number) _ c.in_ok-plan.ensures.plan

pub returns : goal.returns
unfolding run_refusal
returns c = accepted_so _ _ _ _ _ _ _ _ _ (sym c.in_ok-plan.ensures.number) _ c.in_ok-plan.ensures.plan _ _ _ _ _ c.accepted.ensures
