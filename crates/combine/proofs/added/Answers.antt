use Rattle.std.proofs.Common.{◌≡◌, arith, length-set, ℕ, ℤ, pos, nat_abs, get_or, ◌+◌, ◌≤◌, ◌+ℤ◌, ◌∙◌}
use Rattle.std.proofs.lemmas.Int.{ints}
use Rattle.laws.specs.Stores.{grown, kept}
use Rattle.combine.proofs.added.Goals as goal

pub loop-i-preserved : goal.loop-i-preserved
loop-i-preserved c =
    let now = c.loop-i.invariant in
    let i = c.loop-i.i in
    let was = now.rest i (omega arith) in
    let sum = c.plus.ensures.sum in
    let size = c.plus.ensures.size in
    record {
      long = length-set _ _ _ ∙ now.long;
      sums = grown (pos 0) (λ (k : ℕ) (z : ℤ). z ≡ get_or c.args.s k (pos 0) +ℤ get_or c.args.x k (pos 0)) _ i _ (omega (arith, now.long)) now.sums (omega (arith, ints));
      sizes = grown (pos 0) (λ (k : ℕ) (z : ℤ). nat_abs z ≤ nat_abs (get_or c.args.s k (pos 0)) + 128) _ i _ (omega (arith, now.long)) now.sizes (omega (arith, ints));
      rest = kept (pos 0) _ _ i _ now.rest;
    }
