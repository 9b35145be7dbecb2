-- `simd::sign_parity` meets its contract. Assumes nothing.
use Rattle.iteration.specs.Lists.{var}
use Rattle.simd.specs.Pass.{Signs}
use Rattle.simd.proofs.sign_parity.Given as goal

abbrev pub invariant-loop-k : goal.invariant-loop-k
invariant-loop-k l = Signs (var l.check.rows.now) l.check.s l.check.lanes l.at l.work l.k l.g
