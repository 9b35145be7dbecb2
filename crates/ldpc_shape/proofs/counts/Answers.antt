use Rattle.std.proofs.Common.{arith, refl, ◌∙◌, length-set}
use Rattle.ldpc_shape.proofs.Loops.{counted_start, counted_again, counted_room}
use Rattle.ldpc_shape.proofs.counts.Goals as goal

pub loop-a-init : goal.loop-a-init
loop-a-init c = (refl, counted_start c.args.q c.args.addrs.now)

pub overflow_add-r : goal.overflow_add-r
overflow_add-r c =
    let room = counted_room c.args.q c.args.addrs.now c.loop-a.r c.loop-a.a-index c.residue.result c.residue.ensures.1 (omega arith) c.requires.2 c.loop-a.invariant.1.below in
    omega arith

pub loop-a-preserved : goal.loop-a-preserved
loop-a-preserved c =
    let m = c.residue.ensures.1 in (
      length-set c.loop-a.r _ _ ∙ c.loop-a.invariant.0,
      counted_again c.args.q c.args.addrs.now c.loop-a.r c.loop-a.a-index c.residue.result (omega arith) c.residue.ensures.0 (omega arith) m c.loop-a.invariant.1,
    )
