-- `fixed_layered::row` meets its contract. Assumes nothing.
use Rattle.std.proofs.Common.{arith, ◌∙◌, ◌*◌, ℤ, pos, length-take, length-drop, drop}
use Rattle.std.proofs.lemmas.List.{get_or-take, get_or-drop}
use Rattle.lane16.specs.Column.{column}
use Rattle.fixed_layered.proofs.row.Goals as goal

pub returns : goal.returns
unfolding column
returns c =
    let base = c.args.u * c.args.lanes in
    record {
      long = omega (arith, length-take {A = ℤ}, length-drop {A = ℤ});
      is = λ i q. get_or-take _ (drop base c.args.work.now) i (pos 0) (omega arith) ∙ get_or-drop base c.args.work.now i (pos 0);
    }
