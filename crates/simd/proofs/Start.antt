-- The first pass at its start.
use Rattle.std.proofs.Common.{ℕ, List, ℤ, pos, replicate}
use Rattle.std.proofs.lemmas.List.{get_or-replicate}
use Rattle.simd.specs.Pass.{Scan, scan_start}

pub start : (v : ℕ → ℕ) (s base lanes at : ℕ) (a t : List ℤ) → Scan v s base lanes at a 0 t (replicate 16 127) (replicate 16 127) (replicate 16 (pos 0))
start v s base lanes at a t =
    scan_start v s base lanes at a t _ _ _ (λ k q. get_or-replicate 16 k 127 0 q) (λ k q. get_or-replicate 16 k 127 0 q)
    (λ k q. get_or-replicate 16 k (pos 0) (pos 0) q)
