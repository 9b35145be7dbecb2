-- `ldpc_check::degree_of` meets its contract. Assumes nothing.
use Rattle.std.proofs.Common.{ℕ, ◌+◌, ◌%◌, get_or, sym, ap, ◌∙◌, arith, mod-lt}
use Rattle.ldpc_shape.proofs.Accepted.{table_bounded, table_addrs}
use Rattle.ldpc_check.proofs.Loops.{degree_is}
use Rattle.ldpc_check.proofs.degree_of.Goals as goal

pub overflow_cast-q : goal.overflow_cast-q
overflow_cast-q c = omega (arith, table_bounded c.args.of)

pub counts-r-requires : goal.counts-r-requires
counts-r-requires c = let b = table_bounded c.args.of in (b.q_pos, b.q_le, table_addrs c.args.of)

pub nonzero_rem-met : goal.nonzero_rem-met
nonzero_rem-met c = omega (arith, table_bounded c.args.of)

pub bounds-r-c : goal.bounds-r-c
bounds-r-c c = let b = table_bounded c.args.of in omega (arith, mod-lt c.args.c b.q_pos)

pub returns : goal.returns
returns c =
    ap (λ (z : ℕ). get_or c.counts-r.result (c.args.c % c.args.of.sizes.q) 0 + z) c.parity_bits.ensures.0
    ∙ sym (degree_is c.args.of c.counts-r.result c.counts-r.ensures.below c.args.c c.requires)
