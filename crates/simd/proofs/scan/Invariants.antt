-- `simd::scan` meets its contract. Assumes nothing.
use Rattle.std.proofs.Common.{◌≡◌, length}
use Rattle.simd.specs.Memory.{Scanning}
use Rattle.simd.proofs.scan.Given as goal

abbrev pub invariant-loop-k : goal.invariant-loop-k
invariant-loop-k l = (length l.t ≡ length l.initial.t) × Scanning l.check l.at l.work l.k l.t l.st
