use Rattle.std.proofs.Common.{sym, refl, get_or}
use Rattle.laws.specs.Definitions.{◌⊕◌}
use Rattle.bch.proofs.FlipLoop.{flip_all_none, flip_again}
use Rattle.bch.proofs.flip.Goals as goal

pub loop-p-init : goal.loop-p-init
loop-p-init c = sym (flip_all_none _ _)

pub loop-p-preserved : goal.loop-p-preserved
unfolding ◌⊕◌
loop-p-preserved c = flip_again c.args.word.now c.loop-p.word (λ k. get_or c.args.powers.now k 0) c.loop-p.p-index _ refl c.loop-p.invariant
