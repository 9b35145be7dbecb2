use Rattle.std.proofs.Common.{length, inl, inr, arith, rules}
use mir.Syntax.{w8}
use mir.ValLaws.{to_z-of_z}
use Rattle.report_form.specs.Form.{match_both}
use Rattle.report_form.proofs.Pairs.{pairs_again, pairs_none, pairs_wrong, pairs_unended, pairs_found}
use Rattle.report_form.proofs.read_pairs.Goals as goal

pub returns-in-Some : goal.returns-in-Some
returns-in-Some c = pairs_found (length c.args.word.now) c.loop.invariant c.in-Some.ensures

pub returns-in_err-position : goal.returns-in_err-position
returns-in_err-position c = rw c.from_residual.ensures (pairs_none (length c.args.word.now) c.loop.invariant c.in_default.ensures c.in_err-position.ensures)

pub returns-then-place-least : goal.returns-then-place-least
returns-then-place-least c = pairs_wrong (length c.args.word.now) c.loop.invariant c.in_ok-position.ensures (inl c.if-place-least.true)

pub returns-then-word-place : goal.returns-then-word-place
returns-then-word-place c = pairs_wrong (length c.args.word.now) c.loop.invariant c.in_ok-position.ensures (inr (omega arith))

pub loop-preserved : goal.loop-preserved
loop-preserved c =
    pairs_again (length c.args.word.now) c.loop.invariant c.in_ok-position.ensures (to_z-of_z w8 c.in_ok-position.value (search rules)) c.loop-test.true (omega arith) (omega arith)

pub returns : goal.returns
returns c =
    match_both c.expect-2.result c.expect-2.ensures (pairs_unended (length c.args.word.now) c.loop.invariant (omega arith)) (λ r. pairs_found (length c.args.word.now) c.loop.invariant)
