-- `bch_locator::Register::chien` meets its contract.
-- Assumes nothing.
use Rattle.bch_locator.proofs.Search.{places_length}
use Rattle.bch_locator.proofs.Register.chien.Goals as goal

pub returns-then-self-eq1 : goal.returns-then-self-eq1
returns-then-self-eq1 c = places_length _ _ 1 _ _ c.if-self-eq1.true c.root.ensures
