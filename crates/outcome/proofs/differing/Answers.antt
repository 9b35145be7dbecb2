use Rattle.std.proofs.Common.{refl, sym, ap, ◌∙◌, ℕ, ◌+◌, ◌%◌, ◌≡◌, ◌<◌, ℤ, get_or, length, arith, rules}
use Rattle.laws.specs.Modulo.{xor_parity}
use Rattle.iteration.specs.Iteration.{hard}
use Rattle.outcome.specs.Outcome.{begin}
use Rattle.outcome.specs.Soft.{values, begin_values}
use Rattle.outcome.specs.Laws.{bits_length, bits_at}
use Rattle.outcome.specs.Changed.{comparing_again}
use Rattle.outcome.proofs.differing.Goals as goal

pub loop-k-preserved : goal.loop-k-preserved
loop-k-preserved c =
    let k = c.loop-k.k in
    let n = length c.args.soft.now in
    let x = begin n c.args.soft.now in
    let value_is : c.bit.result ≡ hard (x.L k) =
    let e : c.bit.result ≡ hard (values c.args.soft.now k) = search rules in
    e ∙ ap (λ (L : ℕ → ℤ). hard (L k)) (sym (begin_values n c.args.soft.now refl)) in
    let below : k < n = omega arith in
    comparing_again _ _ c.args.from k c.loop-k.count _ (omega (arith, bits_length n x)) (omega (arith, c.requires.0))
    (xor_parity c.bit.result _ ∙ ap (λ b. (b + get_or c.args.bits.now k 0) % 2) (value_is ∙ sym (bits_at n x k below)))
    c.loop-k.invariant
