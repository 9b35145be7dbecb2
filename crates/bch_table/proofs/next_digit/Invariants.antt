-- `bch_table::next_digit` meets its contract. The loop: after i turns the first i digits are those of the sum, and `below` is what comes into digit i.
-- Assumes nothing.
use Rattle.bch_table.proofs.Product.{Summed}
use Rattle.bch_table.proofs.next_digit.Given as goal

abbrev pub invariant-loop-i : goal.invariant-loop-i
invariant-loop-i l = Summed l.digit l.a l.g l.initial.out l.out l.below l.i
