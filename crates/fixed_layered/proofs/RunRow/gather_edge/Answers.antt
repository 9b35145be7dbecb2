use Rattle.std.proofs.Common.{arith, ap, ◌∙◌, ℕ, List, length}
use Rattle.iteration.specs.Lists.{var}
use Rattle.fixed_layered.specs.Rows.{sums_room, sums_few, edge_done}
use Rattle.fixed_layered.proofs.RunRow.gather_edge.Goals as goal

pub gather-requires-clause-small : goal.gather-requires-clause-small
gather-requires-clause-small c =
    let is = c.variable.ensures ∙ ap (λ (l : List ℕ). var l c.args.e) c.args.self.run.turns.code.second in
    sums_few c.args.seen.now _ c.requires.smalls (omega (arith, c.requires.edge.2, c.requires.edge.3, is)) (omega arith)
    (sums_room _ _ _ _ _ is c.requires.edge.2 c.requires.edge.3 c.requires.room.1) (omega (arith, c.requires.edge.1, c.args.self.run.in_run.few_edges))

pub returns : goal.returns
returns c =
    edge_done _ (ap length c.args.self.run.turns.code.second) (c.variable.ensures ∙ ap (λ (l : List ℕ). var l c.args.e) c.args.self.run.turns.code.second) c.requires.edge.2 c.requires.edge.3 c.requires.room.1
    (omega arith) c.requires.smalls c.row-t.ensures c.row-new.ensures c.row-old.ensures c.gather.ensures
