-- `bch_remainder::pack` meets its contract. The loop: v is the number of the eights and of the bits passed.
-- Assumes nothing.
use Rattle.bch_remainder.proofs.Bits.{Packed}
use Rattle.bch_remainder.proofs.pack.Given as goal

abbrev pub invariant-loop-bit : goal.invariant-loop-bit
invariant-loop-bit l = Packed l.bits l.rest l.v l.bit-index
