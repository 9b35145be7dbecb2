-- `ldpc_lists::build` meets its contract. Assumes nothing.
use Rattle.std.proofs.Common.{◌≡◌, length, suc, arith}
use Rattle.ldpc_shape.proofs.Accepted.{table_bounded, table_addrs}
use Rattle.ldpc_lists.proofs.Built.{counts_few, stairs_ready, meets_ready, build_done}
use Rattle.ldpc_lists.proofs.build.Goals as goal

pub overflow_cast-checks : goal.overflow_cast-checks
overflow_cast-checks c = omega (arith, table_bounded c.args.of)

pub overflow_cast-checks-2 : goal.overflow_cast-checks-2
overflow_cast-checks-2 c = omega (arith, table_bounded c.args.of)

pub overflow_cast-q : goal.overflow_cast-q
overflow_cast-q c = omega (arith, table_bounded c.args.of)

pub overflow_cast-k : goal.overflow_cast-k
overflow_cast-k c = omega (arith, table_bounded c.args.of)

pub counts-counts-requires : goal.counts-counts-requires
counts-counts-requires c = let b = table_bounded c.args.of in (b.q_pos, b.q_le, table_addrs c.args.of)

pub ends-requires : goal.ends-requires
ends-requires c = (omega (arith, c.split_at_mut-starts.ensures.front_len), counts_few c.args.of _ c.counts-counts.ensures.below)

pub invariant_of-checks : goal.invariant_of-checks
invariant_of-checks c = let b = table_bounded c.args.of in record { some = b.p_pos; within = omega (arith, b); turns = b.q_pos; few = b.q_le }

pub put_stairs-requires : goal.put_stairs-requires
put_stairs-requires c =
    let long : length c.ends.new.starts ≡ suc c.args.of.sizes.p = omega (arith, c.ends.auto.starts, c.split_at_mut-starts.ensures.front_len) in
    let wide : length c.split_at_mut-starts.result.1.now ≡ c.args.of.sizes.e = omega (arith, c.split_at_mut-starts.ensures.back_len, c.requires) in
    (omega (arith, table_bounded c.args.of), stairs_ready c.args.of _ _ _ c.counts-counts.ensures.below long wide c.ends.ensures.0 c.ends.ensures.1)

pub put_rows-requires : goal.put_rows-requires
put_rows-requires c =
    let long : length c.ends.new.starts ≡ suc c.args.of.sizes.p = omega (arith, c.ends.auto.starts, c.split_at_mut-starts.ensures.front_len) in
    let wide : length c.split_at_mut-starts.result.1.now ≡ c.args.of.sizes.e = omega (arith, c.split_at_mut-starts.ensures.back_len, c.requires) in
    meets_ready c.args.of _ _ _ c.counts-counts.ensures.below long wide c.ends.ensures.0 c.ends.ensures.1 _ _ c.put_stairs.ensures

pub returns : goal.returns
returns c =
    let long : length c.ends.new.starts ≡ suc c.args.of.sizes.p = omega (arith, c.ends.auto.starts, c.split_at_mut-starts.ensures.front_len) in
    let wide : length c.split_at_mut-starts.result.1.now ≡ c.args.of.sizes.e = omega (arith, c.split_at_mut-starts.ensures.back_len, c.requires) in
    build_done c.args.of _ _ _ c.counts-counts.ensures.below long wide c.ends.ensures.0 c.ends.ensures.1 _ _ c.put_stairs.ensures _ _ c.put_rows.ensures
