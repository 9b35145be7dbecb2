use Rattle.std.proofs.Common.{◌+◌, ◌-◌, length, refl, rules, arith}
use Rattle.iteration.specs.Lists.{var, rows_in, edges_in}
use Rattle.fixed_layered.specs.Rows.{sum_at, gathers_start, gathers_again}
use Rattle.fixed_layered.proofs.RunRow.gather_check.Goals as goal

pub loop-k-init : goal.loop-k-init
loop-k-init c =
    let t = c.args.self.run.turns in (
      search rules,
      gathers_start t.code.n (edges_in t.code.p t.code.lists.now) t.lanes (var (rows_in t.code.p t.code.lists.now)) c.args.self.base c.args.s c.args.place c.args.work.now
          (sum_at t.lanes c.args.seen.now c.args.sums.now) (λ i j. refl) c.requires.smalls,
    )

pub gather_edge-requires-clause-edge : goal.gather_edge-requires-clause-edge
gather_edge-requires-clause-edge c = let w = c.requires.edges.2 c.loop-k.k c.loop-k-test.true in (omega arith, omega arith, w.0, w.1)

pub loop-k-preserved : goal.loop-k-preserved
loop-k-preserved c =
    let t = c.args.self.run.turns in
    let rows = rows_in t.code.p t.code.lists.now in
    let w = c.requires.edges.2 c.loop-k.k c.loop-k-test.true in (
      search rules,
      gathers_again t.code.n (length rows) t.lanes (var rows) c.args.self.base c.args.s c.args.place c.args.work.now
          (sum_at t.lanes c.args.seen.now c.args.sums.now) c.loop-k.k (var rows (c.args.s + c.loop-k.k) - c.args.self.base) (omega (arith, w.0)) (omega (arith, w))
          c.loop-k.invariant.0 c.loop-k.invariant.1 c.gather_edge.ensures,
    )
