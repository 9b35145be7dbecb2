-- The arrays are too long to be counted one by one.
use Rattle.std.proofs.Common.{ℕ, ℤ, pos, sym}
use Rattle.std.proofs.lemmas.List.{length-replicate}
use Rattle.vectors_run.proofs.main.Goals as goal

pub slice_bounds-memory-end : goal.slice_bounds-memory-end
slice_bounds-memory-end c = sym (length-replicate {A = ℤ} 1532300 (pos 0))

pub slice_bounds-memory-end-2 : goal.slice_bounds-memory-end-2
slice_bounds-memory-end-2 c = sym (length-replicate {A = ℕ} 1532300 0)

pub slice_bounds-memory-end-4 : goal.slice_bounds-memory-end-4
slice_bounds-memory-end-4 c = sym (length-replicate {A = ℤ} 1300000 (pos 0))
