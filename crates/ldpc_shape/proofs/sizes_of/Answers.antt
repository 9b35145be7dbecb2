use Rattle.std.proofs.Common.{arith, refl}
use Rattle.ldpc_shape.specs.Shape.{k_of, p_of, q_of, e_of}
use Rattle.ldpc_shape.specs.Accepted.{rows_le, addrs_le}
use Rattle.ldpc_shape.proofs.Accepted.{accepted}
use Rattle.ldpc_shape.proofs.sizes_of.Goals as goal

pub overflow_mul-k : goal.overflow_mul-k
overflow_mul-k c = let A = accepted _ _ _ c.requires in omega (arith, rows_le _ _ _ A)

pub overflow_sub-p : goal.overflow_sub-p
overflow_sub-p c = let A = accepted _ _ _ c.requires in omega (arith, A.rows)

pub overflow_mul-result : goal.overflow_mul-result
overflow_mul-result c = let A = accepted _ _ _ c.requires in omega (arith, addrs_le _ _ _ A)

pub overflow_add-result : goal.overflow_add-result
overflow_add-result c = let A = accepted _ _ _ c.requires in omega (arith, addrs_le _ _ _ A, A.small)

pub overflow_sub-result : goal.overflow_sub-result
overflow_sub-result c = let A = accepted _ _ _ c.requires in omega (arith, A.rows)

pub returns : goal.returns
unfolding k_of p_of q_of e_of
returns c = refl
