-- `bch_remainder::parity_register` meets its contract. The loop: r is the parity of the bits passed, and whole sixteens are left.
-- Assumes nothing.
use Rattle.std.proofs.Common.{◌≡◌}
use Rattle.bch_table.specs.Step.{value_of}
use Rattle.bch_remainder.proofs.Parity.{Divided}
use Rattle.bch_remainder.proofs.parity_register.Given as goal

abbrev pub invariant-loop-bits : goal.invariant-loop-bits
invariant-loop-bits l = Divided l.message (value_of l.r) l.bits-iterator.rest.now × (l.bits-iterator.size ≡ 16)
