-- `bch_locator::Register::roots` meets its contract.
-- Assumes nothing.
use Rattle.bch_locator.specs.Places.{PlacesOf}
use Rattle.bch_locator.proofs.Search.{Terms}
use Rattle.bch_locator.proofs.Register.roots.Given as goal

abbrev pub invariant-loop-p : goal.invariant-loop-p
invariant-loop-p l = Terms l.t l.self.c l.self.len l.p × PlacesOf l.found.items l.self.c l.self.len l.p
