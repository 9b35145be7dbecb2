-- `bch_locator::syndromes` meets its contract.
-- Assumes nothing.
use Rattle.bch_locator.proofs.Horner.{joined_values, all_powers}
use Rattle.bch_locator.proofs.syndromes.Goals as goal

pub returns : goal.returns
returns c = all_powers _ _ _ c.squares.ensures (joined_values _ _ _ _ _ _ c.digits-high.ensures c.digits-upper.ensures c.digits-all.ensures)
