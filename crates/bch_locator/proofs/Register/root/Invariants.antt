-- `bch_locator::Register::root` meets its contract.
-- Assumes nothing.
use Rattle.std.proofs.Common.{◌≡◌, ◌<◌, []}
use Rattle.algebra.specs.Series.{pow}
use Rattle.gf16.specs.Field16.{R16, α}
use Rattle.bch_locator.specs.Element.{to_el}
use Rattle.bch_locator.specs.Places.{PlacesOf}
use Rattle.bch_locator.proofs.Register.root.Given as goal

abbrev pub invariant-loop-p : goal.invariant-loop-p
invariant-loop-p l = (to_el l.x ≡ pow R16 α l.p) × (l.found.items ≡ []) × PlacesOf l.found.items l.self.c 1 l.p × (l.x < 65536)
