-- `outcome::differing` meets its contract. The loop's invariant: the positions from `from` up to k are compared.
-- Assumes nothing.
use Rattle.std.proofs.Common.{length}
use Rattle.outcome.specs.Outcome.{begin, bits_of}
use Rattle.outcome.specs.Changed.{Comparing}
use Rattle.outcome.proofs.differing.Given as goal

abbrev pub invariant-loop-k : goal.invariant-loop-k
invariant-loop-k l = Comparing (bits_of (length l.soft) (begin (length l.soft) l.soft)) l.bits l.from l.k l.count
