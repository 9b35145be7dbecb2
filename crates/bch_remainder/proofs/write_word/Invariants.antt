-- `bch_remainder::write_word` meets its contract. The loop: the upper 8 i digits are written.
-- Assumes nothing.
use Rattle.std.proofs.Common.{◌≡◌}
use Rattle.bch_remainder.proofs.Bits.{written}
use Rattle.bch_remainder.proofs.write_word.Given as goal

abbrev pub invariant-loop-i : goal.invariant-loop-i
invariant-loop-i l = l.out ≡ written l.initial.out l.v l.i
