use Rattle.std.proofs.Common.{◌/◌, arith, true, false, replicate}
use Rattle.fixed_conflicts.specs.Table.{zeros}
use Rattle.fixed_layered.specs.Layers.{runs_again, runs_end, inside_part, in_run_lem, whole_layer, shares_part}
use Rattle.fixed_layered.specs.Checks.{layer_made}
use Rattle.fixed_layered.proofs.Layering.runs.Goals as goal

pub turns-requires-in-loop-at : goal.turns-requires-in-loop-at
turns-requires-in-loop-at c = inside_part c.loop-at.at c.min-m.result (omega (arith, c.min-m.ensures)) c.requires.layer c.args.self.layers

pub invariant_of-run : goal.invariant_of-run
invariant_of-run c =
    let e = c.turns-in-loop-at.ensures in
    record {
      in_run =
          rw (e.of.0, e.which.0, e.which.1, e.which.2)
          (in_run_lem c.loop-at.at c.min-m.result (omega (arith, c.min-m.ensures)) c.requires.layer c.args.self.code.right c.args.self.layers);
      some = omega (arith, e.which.2, c.min-m.ensures, c.args.self.layers.step);
      layer = omega (arith, c.requires.layer, c.args.self.sharing.few_layers);
      shares =
          rw (e.of.0, e.which.0, e.which.1, e.which.2)
          (shares_part c.loop-at.at c.min-m.result (omega (arith, c.min-m.ensures))
          (c.args.self.sharing.shares c.args.l c.requires.layer c.in-Some.flags true (rw c.in-Some.is at c.shared.ensures)));
    }

pub loop-at-preserved : goal.loop-at-preserved
loop-at-preserved c =
    let e = c.turns-in-loop-at.ensures in
    runs_again c.loop-at-test.true c.min-m.ensures c.loop-at.invariant (rw (e.of.0, e.of.1, e.of.2, e.which.0, e.which.1, e.which.2) at c.run.ensures)

pub returns-in-Some : goal.returns-in-Some
returns-in-Some c = runs_end c.args.self.layers.step c.loop-at-test.false c.loop-at.invariant

pub returns-in-Some-2 : goal.returns-in-Some-2
returns-in-Some-2 c =
    let e = c.turns-in-loop-at.ensures in
    runs_end c.args.self.layers.step (omega arith)
    (runs_again c.loop-at-test.true c.min-m.ensures c.loop-at.invariant (rw (e.of.0, e.of.1, e.of.2, e.which.0, e.which.1, e.which.2) at c.run.ensures))

pub returns-in_default : goal.returns-in_default
returns-in_default c =
    let shares = c.args.self.sharing.shares c.args.l c.requires.layer (replicate 120 false) false (rw c.in_default.is at c.shared.ensures) in
    let e = c.turns.ensures in
    layer_made c.args.self.step _ (whole_layer c.requires.layer c.args.self.code.right c.args.self.layers) (λ v. shares.once v (zeros 120 (v / 374))) c.args.self.layers.step
    (rw (e.of.0, e.of.1, e.of.2, e.which.0, e.which.1, e.which.2) at c.checks.ensures)
