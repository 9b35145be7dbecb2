use Rattle.ldpc_lists.specs.Build.{as_lists}
use Rattle.ldpc_lists.proofs.Loops.{fill_end, met_ready, met_next, met_none}
use Rattle.ldpc_lists.proofs.Checks.put_met.Goals as goal

pub put_one-requires : goal.put_one-requires
put_one-requires c =
    met_ready c.args.self.count c.args.self.q c.args.m c.args.j c.args.row.now _ _ (as_lists c.args.starts.now c.args.rows.now) (as_lists c.loop-a.starts c.loop-a.rows) c.in-Some.field-0.now c.meets.result c.args.self.some
    c.loop-a.invariant c.in-Some.ensures.steps c.meets.ensures

pub loop-a-preserved : goal.loop-a-preserved
loop-a-preserved c =
    met_next c.args.self.count c.args.self.q c.args.m c.args.j c.args.row.now _ _ (as_lists c.args.starts.now c.args.rows.now) (as_lists c.loop-a.starts c.loop-a.rows) c.in-Some.field-0.now c.meets.result c.args.self.some
    c.loop-a.invariant c.in-Some.ensures.steps c.meets.ensures (as_lists c.put_one.new.starts c.put_one.new.rows) c.put_one.ensures

pub returns : goal.returns
returns c =
    fill_end c.args.self.count _ _ (as_lists c.args.starts.now c.args.rows.now) (as_lists c.loop-a.starts c.loop-a.rows)
    (met_none c.args.self.count c.args.self.q c.args.m c.args.j _ c.in-None.ensures.steps.0) c.loop-a.invariant
