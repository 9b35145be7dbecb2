use Rattle.std.proofs.Common.{◌+◌, ◌-◌, arith}
use Rattle.ldpc_edges.proofs.Inside.{met_inside}
use Rattle.ldpc_lists.specs.Build.{as_lists}
use Rattle.ldpc_lists.proofs.Loops.{fill_end, fill_room, fill_next, bits_step, bits_end}
use Rattle.ldpc_lists.proofs.Checks.put_row.Goals as goal

pub put_met-requires : goal.put_met-requires
put_met-requires c = (
  omega arith,
  fill_room c.args.self.count _ _ (as_lists c.args.starts.now c.args.rows.now) (as_lists c.loop-j.starts c.loop-j.rows) c.loop-j.invariant _ _
      (bits_step c.args.self.count c.args.self.q c.args.row.first c.loop-j.j c.args.row.addrs.now (omega arith)),
)

pub loop-j-preserved : goal.loop-j-preserved
loop-j-preserved c =
    let m = c.args.row.first + (c.loop-j.j - 1) in
    fill_next c.args.self.count _ _ (as_lists c.args.starts.now c.args.rows.now) (as_lists c.loop-j.starts c.loop-j.rows) c.loop-j.invariant _ _
    (bits_step c.args.self.count c.args.self.q c.args.row.first c.loop-j.j c.args.row.addrs.now (omega arith)) (m + 1) (as_lists c.put_met.new.starts c.put_met.new.rows)
    (met_inside c.args.self.count c.args.self.q (m + 1) m (c.loop-j.j - 1) c.args.row.addrs.now c.args.self.some (omega arith)) c.put_met.ensures

pub returns : goal.returns
returns c =
    fill_end c.args.self.count _ _ (as_lists c.args.starts.now c.args.rows.now) (as_lists c.loop-j.starts c.loop-j.rows)
    (bits_end c.args.self.count c.args.self.q c.args.row.first c.loop-j.j c.args.row.addrs.now (omega arith)) c.loop-j.invariant
