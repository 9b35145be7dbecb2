use Rattle.std.proofs.Common.{◌∙◌, rules, arith}
use Rattle.ldpc_shape.proofs.Accepted.{table_bounded}
use Rattle.ldpc_encode.proofs.Residue.{below_start, below_next, below_end, parity_part, parity_size, from_zeros}
use Rattle.ldpc_encode.proofs.weight_of.Goals as goal

pub slice_bounds-p-start : goal.slice_bounds-p-start
slice_bounds-p-start c = omega (arith, table_bounded c.args.of, c.requires)

pub slice_bounds-p-count : goal.slice_bounds-p-count
slice_bounds-p-count c = omega (arith, table_bounded c.args.of, c.requires)

pub loop-l-init : goal.loop-l-init
loop-l-init c = record { few = omega arith; counted = below_start c.args.of c.args.bits.now }

pub invariant_of-class : goal.invariant_of-class
invariant_of-class c = record { below = search rules; few = (table_bounded c.args.of).q_le }

pub add_rows-requires : goal.add_rows-requires
add_rows-requires c = omega (arith, table_bounded c.args.of, c.requires)

pub odd_checks-u-requires : goal.odd_checks-u-requires
odd_checks-u-requires c = parity_size c.args.of c.args.bits.now c.requires

pub loop-l-preserved : goal.loop-l-preserved
loop-l-preserved c = record {
  few = omega (arith, c.odd_checks-u.ensures.1, c.loop-l.invariant.few);
  counted = below_next c.args.of c.args.bits.now c.add_rows.new.x c.loop-l.l c.loop-l.u c.odd_checks-u.result (from_zeros c.add_rows.new.x _ c.add_rows.ensures) c.loop-l.invariant.counted
      (c.odd_checks-u.ensures.0 ∙ parity_part c.args.of c.args.bits.now c.loop-l.l c.add_rows.new.x);
}

pub returns : goal.returns
returns c = below_end c.args.of c.args.bits.now c.loop-l.l c.loop-l.u (omega arith) c.loop-l.invariant.counted
