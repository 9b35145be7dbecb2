-- The lengths at rate r / 120 are those of a code: n 44,880 and r rows. It holds of every r, so of the eleven rates.
use Rattle.std.specs.Prelude.{◌≡◌, List, ℕ, length}
use Rattle.std.proofs.Common.{arith}
use Rattle.ldpc_shape.specs.Shape as shape
use Rattle.params.specs.Lengths.{k_of, p_of, q_of}

pub rate_lengths : (r : ℕ) (lens : List ℕ) → length lens ≡ r → (k_of r ≡ shape.k_of lens) × (p_of r ≡ shape.p_of 44880 lens) × (q_of r ≡ shape.q_of 44880 lens)
unfolding shape.k_of shape.p_of shape.q_of
rate_lengths r lens e = (omega (arith, e), omega (arith, e), omega (arith, e))
