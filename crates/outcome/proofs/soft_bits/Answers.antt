use Rattle.std.proofs.Common.{◌≡◌, refl, sym, ap, ◌∙◌, ℕ, ℤ, arith, rules}
use Rattle.iteration.specs.Iteration.{hard}
use Rattle.outcome.specs.Soft.{values, begin_values}
use Rattle.outcome.specs.Laws.{bits_start, bits_again}
use Rattle.outcome.proofs.soft_bits.Goals as goal

pub loop-i-init : goal.loop-i-init
loop-i-init c = bits_start _

pub loop-i-preserved : goal.loop-i-preserved
loop-i-preserved c =
    let e : c.bit.result ≡ hard (values c.args.soft.now c.loop-i.i) = search rules in
    bits_again _ c.loop-i.i c.bit.result c.loop-i.out (omega (arith, c.requires)) c.loop-i.invariant
    (e ∙ ap (λ (L : ℕ → ℤ). hard (L c.loop-i.i)) (sym (begin_values _ c.args.soft.now refl)))
