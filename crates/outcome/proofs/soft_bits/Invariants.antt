-- `outcome::soft_bits` meets its contract. Assumes nothing.
use Rattle.std.proofs.Common.{◌≡◌, length, take}
use Rattle.outcome.specs.Outcome.{begin, bits_of}
use Rattle.outcome.proofs.soft_bits.Given as goal

abbrev pub invariant-loop-i : goal.invariant-loop-i
invariant-loop-i l = take l.i l.out ≡ bits_of l.i (begin (length l.soft) l.soft)
