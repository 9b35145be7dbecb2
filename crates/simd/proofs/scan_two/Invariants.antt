-- `simd::scan_two` meets its contract. Assumes nothing.
use Rattle.std.proofs.Common.{◌≡◌, ◌+◌, length}
use Rattle.simd.specs.Memory.{Scanning}
use Rattle.simd.proofs.scan_two.Given as goal

abbrev pub invariant-loop-k : goal.invariant-loop-k
invariant-loop-k l =
    (length l.t ≡ length l.initial.t)
    × (length l.u ≡ length l.initial.u)
    × Scanning l.check l.at l.work l.k l.t l.one
    × Scanning l.check (l.at + 16) l.work l.k l.u l.two
