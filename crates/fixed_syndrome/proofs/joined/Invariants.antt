-- `fixed_syndrome::joined` meets its contract. Assumes nothing.
use Rattle.std.proofs.Common.{◌≡◌, length}
use Rattle.fixed_syndrome.specs.Count.{BlockJoined}
use Rattle.fixed_syndrome.proofs.joined.Given as goal

abbrev pub invariant-loop-i : goal.invariant-loop-i
invariant-loop-i l = (length l.counts ≡ 16) × ((length l.checks ≡ 16) × BlockJoined l.u.counts l.u.checks l.b.counts l.b.places l.from l.i l.counts l.checks)
