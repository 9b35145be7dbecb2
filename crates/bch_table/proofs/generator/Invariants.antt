-- `bch_table::generator` meets its contract. The loop: g is the product of the entries passed.
-- Assumes nothing.
use Rattle.bch_table.proofs.Product.{Multiplying}
use Rattle.bch_table.proofs.generator.Given as goal

abbrev pub invariant-loop-mask : goal.invariant-loop-mask
invariant-loop-mask l = Multiplying l.g l.mask-iterator.iter.rest.now
