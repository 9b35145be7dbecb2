-- `bch_locator::mul` meets its contract. The loop: x is the product of a and the digits of b from i up.
-- Assumes nothing.
use Rattle.std.proofs.Common.{◌≡◌, ◌-◌, ◌/◌, ◌^◌}
use Rattle.laws.specs.Definitions.{clmul}
use Rattle.bch_locator.proofs.mul.Given as goal

abbrev pub invariant-loop-i : goal.invariant-loop-i
invariant-loop-i l = l.x ≡ clmul (16 - l.i) (l.b / 2 ^ l.i) l.a
