-- `outcome::changed` meets its contract, block by block. The loop's invariant: the positions before `from` are compared.
-- Assumes nothing.
use Rattle.std.proofs.Common.{min}
use Rattle.outcome.specs.Outcome.{begin, bits_of}
use Rattle.outcome.specs.Changed.{Comparing}
use Rattle.outcome.proofs.changed.Given as goal

abbrev pub invariant-loop-from : goal.invariant-loop-from
invariant-loop-from l = Comparing (bits_of l.n (begin l.n l.soft)) l.bits 0 (min l.n l.from) l.count
