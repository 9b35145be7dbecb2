use Rattle.std.proofs.Common.{◌≡◌}
use Rattle.std.specs.Float.{nan}
use Rattle.quantise.specs.Soft.{soft_of}
use Rattle.quantise.proofs.Writes.{upto}
use Rattle.quantise.proofs.write.Given as goal

-- the first values are written
abbrev pub invariant-loop-i : goal.invariant-loop-i
invariant-loop-i l = (l.out ≡ upto (soft_of l.scale) nan l.llr l.initial.out l.i)
