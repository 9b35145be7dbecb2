use Rattle.std.proofs.Common.{sym, ◌∙◌, rules, tests, ltb}
use Rattle.std.proofs.lemmas.Iterator.{YieldsList-from_slice}
use Rattle.std.proofs.lemmas.Iterator.Search.{any_from_yields_List}
use Rattle.ldpc_shape.proofs.Loops.{over_any}
use Rattle.ldpc_shape.proofs.any_over.Goals as goal

pub returns : goal.returns
returns c =
    any_from_yields_List (ltb c.args.limit) _ _ c.any.result c.any.ensures.ran (YieldsList-from_slice c.args.xs.now cc) (λ x b q k. search (rules, tests))
    ∙ sym (over_any c.args.limit c.args.xs.now)
