use Rattle.std.proofs.Common.{◌≡◌, subst, ◌++◌, ℕ, ◌+◌, ◌*◌, arith}
use Rattle.laws.specs.Definitions.{decimal}
use Rattle.report_form.proofs.Spell.{Spelled, spelled_again, spelled_over}
use Rattle.report_form.proofs.read_digits.Goals as goal

pub returns-in_err-checked_mul : goal.returns-in_err-checked_mul
returns-in_err-checked_mul c =
    let s = spelled_again c.loop-digit.invariant c.in-Some.ensures.some.0 c.in-Some.ensures.some.1 in
    rw c.from_residual.ensures (spelled_over c.args.most s (omega (arith, c.in_err-checked_mul.ensures, c.ranges.most.fits)))

pub returns-in_err-value : goal.returns-in_err-value
returns-in_err-value c =
    let s = spelled_again c.loop-digit.invariant c.in-Some.ensures.some.0 c.in-Some.ensures.some.1 in
    rw c.from_residual-in_err-value.ensures
    (spelled_over c.args.most s (omega (arith, c.in_ok-checked_mul.ensures, c.in_err-value.ensures, c.ranges.most.fits)))

pub loop-digit-preserved : goal.loop-digit-preserved
loop-digit-preserved c =
    let s = spelled_again c.loop-digit.invariant c.in-Some.ensures.some.0 c.in-Some.ensures.some.1 in
    let e : c.loop-digit.value * 10 + c.in-Some.digit ≡ c.in_ok-value.value = omega (arith, c.in_ok-checked_mul.ensures, c.in_ok-value.ensures) in
    subst (λ (k : ℕ). Spelled (decimal c.args.first ++ c.args.text.now) k c.in-Some.after.now) e s

pub returns-else-value-most : goal.returns-else-value-most
returns-else-value-most c = spelled_over c.args.most c.loop-digit.invariant (omega arith)
