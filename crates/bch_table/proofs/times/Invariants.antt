-- `bch_table::times` meets its contract. The loop is Horner's rule over the digits of the mask from j up.
-- Assumes nothing.
use Rattle.bch_table.proofs.Product.{Multiplied}
use Rattle.bch_table.proofs.times.Given as goal

abbrev pub invariant-loop-j : goal.invariant-loop-j
invariant-loop-j l = Multiplied l.mask l.g l.out l.j
