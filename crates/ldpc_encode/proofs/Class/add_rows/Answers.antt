use Rattle.std.proofs.Common.{rules, arith, length, ap}
use Rattle.ldpc_rows.proofs.Edges.{below_start, below_first}
use Rattle.ldpc_encode.specs.Sums.{info_bit}
use Rattle.ldpc_encode.proofs.Residue.{k_fits}
use Rattle.ldpc_encode.proofs.Rows.{info_start, info_add, info_end}
use Rattle.ldpc_encode.proofs.Class.add_rows.Goals as goal

pub loop-row-init : goal.loop-row-init
loop-row-init c =
    let n = c.from-row-items in
    let it = c.into_iter-row-iterator in
    let e = n.ensures in
    record {
      long = search rules;
      within = below_start _ it.result n.result it.ensures.into_iter_gives e.0 (omega (arith, ap length e.1, k_fits c.args.of c.args.w.now c.requires));
      sums = info_start c.args.self.q c.args.self.l c.args.w.now it.result n.result c.args.of.lens.now c.args.of.addrs.now c.args.x.now it.ensures.into_iter_gives e.0 e.1 e.2;
    }

pub loop-row-preserved : goal.loop-row-preserved
loop-row-preserved c = record {
  long = c.add_row.ensures.long;
  within = (below_first _ c.loop-row.row-iterator c.next.new.self c.in-Some.row c.in-Some.ensures.steps c.loop-row.invariant.within).1;
  sums = info_add c.args.self.q c.args.self.l c.args.w.now c.loop-row.row-iterator c.next.new.self c.in-Some.row c.args.self.below c.loop-row.x _ c.args.x.now
      (info_bit c.args.self.q c.args.self.l c.args.w.now c.args.of.lens.now c.args.of.addrs.now) c.in-Some.ensures.steps c.add_row.ensures c.loop-row.invariant.sums;
}

pub returns : goal.returns
returns c =
    info_end c.args.self.q c.args.self.l c.args.w.now c.loop-row.row-iterator c.loop-row.x c.args.x.now
    (info_bit c.args.self.q c.args.self.l c.args.w.now c.args.of.lens.now c.args.of.addrs.now) c.loop-row.invariant.long c.in-None.ensures.steps.0 c.loop-row.invariant.sums
