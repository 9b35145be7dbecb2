use Rattle.std.proofs.Common.{rules, tests, eqb, not}
use Rattle.std.proofs.lemmas.Iterator.{YieldsList-from_slice}
use Rattle.std.proofs.lemmas.Iterator.Search.{any_from_yields_List}
use Rattle.combine.specs.Answers.{any_other}
use Rattle.combine.proofs.any_other.Goals as goal

pub returns : goal.returns
unfolding any_other
returns c = any_from_yields_List (λ l. not (eqb l c.args.n)) _ _ c.any.result c.any.ensures.ran (YieldsList-from_slice c.args.lengths.now cc) (λ x b q k. search (rules, tests))
