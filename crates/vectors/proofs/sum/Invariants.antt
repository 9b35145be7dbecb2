-- The sum stays below its modulus, and goes on to that of all bytes.
use Rattle.std.proofs.Common.{◌≡◌, ◌<◌, drop}
use Rattle.std.specs.List.{fold}
use Rattle.vectors.specs.Made.{sum_step}
use Rattle.vectors.proofs.sum.Given as goal

abbrev pub invariant-loop-b : goal.invariant-loop-b
invariant-loop-b l = (l.h < 281474976710597) × (fold sum_step l.h (drop l.b-index l.bytes) ≡ fold sum_step 0 l.bytes)
