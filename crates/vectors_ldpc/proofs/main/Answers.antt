-- The array is too long to be counted one by one.
use Rattle.std.proofs.Common.{ℕ, sym}
use Rattle.std.proofs.lemmas.List.{length-replicate}
use Rattle.vectors_ldpc.proofs.main.Goals as goal

pub slice_bounds-memory-end-5 : goal.slice_bounds-memory-end-5
slice_bounds-memory-end-5 c = sym (length-replicate {A = ℕ} 600000 0)
