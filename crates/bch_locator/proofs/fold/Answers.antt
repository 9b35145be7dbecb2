-- `bch_locator::fold` meets its contract.
-- Assumes nothing.
use Rattle.std.proofs.Common.{refl}
use Rattle.laws.specs.Definitions.{◌⊕◌}
use Rattle.bch_locator.proofs.AtAlpha.{quotient, high, fold_is}
use Rattle.bch_locator.proofs.fold.Goals as goal

pub returns : goal.returns
unfolding quotient high ◌⊕◌
returns c = fold_is c.args.x _ c.requires refl
