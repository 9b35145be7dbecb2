use Rattle.std.proofs.Common.{refl, rules}
use Rattle.bch_locator.proofs.Horner.{squaring_again}
use Rattle.bch_locator.proofs.squares.Goals as goal

pub loop-k-preserved : goal.loop-k-preserved
loop-k-preserved c = squaring_again c.loop-k.s _ c.loop-k.k _ _ (search rules) c.loop-k.invariant refl c.mul.ensures
