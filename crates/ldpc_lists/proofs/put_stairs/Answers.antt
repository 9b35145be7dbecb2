use Rattle.std.proofs.Common.{◌+◌, ◌-◌, arith}
use Rattle.ldpc_lists.specs.Build.{as_lists}
use Rattle.ldpc_lists.proofs.Loops.{fill_end, fill_room, fill_next}
use Rattle.ldpc_lists.proofs.Stairs.{stairs_step, stairs_end, stair_inside, narrow}
use Rattle.ldpc_lists.proofs.put_stairs.Goals as goal

pub put_stair-requires : goal.put_stair-requires
put_stair-requires c = (
  omega arith,
  narrow c.args.checks (c.loop-c.c - 1) _ _ (omega arith)
      (fill_room c.args.checks _ _ (as_lists c.args.starts.now c.args.rows.now) (as_lists c.loop-c.starts c.loop-c.rows) c.loop-c.invariant _ _
      (stairs_step c.args.k c.loop-c.c (omega arith))),
)

pub loop-c-preserved : goal.loop-c-preserved
loop-c-preserved c =
    fill_next c.args.checks _ _ (as_lists c.args.starts.now c.args.rows.now) (as_lists c.loop-c.starts c.loop-c.rows) c.loop-c.invariant _ _ (stairs_step c.args.k c.loop-c.c (omega arith))
    (c.args.k + c.args.checks) (as_lists c.put_stair.new.starts c.put_stair.new.rows) (stair_inside c.args.checks c.args.k (c.loop-c.c - 1) (omega arith)) c.put_stair.ensures

pub returns : goal.returns
returns c =
    fill_end c.args.checks _ _ (as_lists c.args.starts.now c.args.rows.now) (as_lists c.loop-c.starts c.loop-c.rows) (stairs_end c.args.k c.loop-c.c (omega arith)) c.loop-c.invariant
