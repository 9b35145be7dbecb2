-- `bch_locator::lane_sum` meets its contract.
-- Assumes nothing.
use Rattle.std.proofs.Common.{◌≡◌}
use Rattle.algebra.specs.SeriesLaws.{sum}
use Rattle.gf16.specs.Field16.{R16}
use Rattle.bch_locator.specs.Element.{to_el, poly}
use Rattle.bch_locator.proofs.lane_sum.Given as goal

abbrev pub invariant-loop-x : goal.invariant-loop-x
invariant-loop-x l = to_el l.r ≡ sum R16 l.x-index (poly l.x-items)
