-- `ldpc_check::check_of` meets its contract. Assumes nothing.
use Rattle.std.proofs.Common.{arith, length-take, length-drop}
use Rattle.ldpc_shape.proofs.Accepted.{table_bounded}
use Rattle.ldpc_check.proofs.Loops.{info_room, stairs_room, check_done}
use Rattle.ldpc_check.proofs.check_of.Goals as goal

pub overflow_cast-q : goal.overflow_cast-q
overflow_cast-q c = omega (arith, table_bounded c.args.of)

pub invariant_of-rows : goal.invariant_of-rows
invariant_of-rows c = let b = table_bounded c.args.of in record { few = b.q_le; within = omega (arith, b, c.requires.0) }

pub rows-d-requires : goal.rows-d-requires
rows-d-requires c = info_room c.args.of c.args.c c.args.out.now c.requires.1

pub overflow_cast-of : goal.overflow_cast-of
overflow_cast-of c = omega (arith, table_bounded c.args.of)

pub put_stairs-requires : goal.put_stairs-requires
put_stairs-requires c =
    let fit = stairs_room c.args.of c.args.c c.rows-d.result c.args.out.now c.rows-d.new.out c.rows-d.ensures.0 c.rows-d.auto.out c.requires.1 in
    (omega (arith, table_bounded c.args.of, c.requires.0), simp (length-take, length-drop) (omega arith))

pub returns : goal.returns
returns c =
    let fit = stairs_room c.args.of c.args.c c.rows-d.result c.args.out.now c.rows-d.new.out c.rows-d.ensures.0 c.rows-d.auto.out c.requires.1 in
    check_done c.args.of c.args.c c.rows-d.result c.put_stairs.result c.args.out.now c.rows-d.new.out c.put_stairs.new.out c.rows-d.ensures.0 c.rows-d.ensures.1
    c.put_stairs.ensures.0 c.put_stairs.ensures.1 (omega (arith, c.put_stairs.ensures.0))
