use Rattle.std.proofs.Common.{arith, ap, ◌∙◌, ◌+◌, ◌*◌, get_or, pos, drop, take}
use Rattle.std.proofs.lemmas.List.{get_or-take, get_or-drop}
use Rattle.lane16.specs.ColumnLaws.{column_at}
use Rattle.lane16.proofs.load.Goals as goal

pub returns : goal.returns
returns c = λ k q.
    let base = c.args.u * c.args.lanes + c.args.at in
    let first = rw c.unwrap.ensures at c.first_chunk.ensures.cases in
    ap (λ l. get_or l k (pos 0)) first.same
    ∙ get_or-take _ _ k (pos 0) q
    ∙ get_or-take _ (drop base c.args.work.now) k (pos 0) (omega arith)
    ∙ get_or-drop base c.args.work.now k (pos 0)
    ∙ column_at c.args.lanes c.args.work.now c.args.u c.args.at k
