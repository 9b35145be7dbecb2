-- `outcome::negative` meets its contract. Assumes nothing.
use Rattle.std.proofs.Common.{◌≡◌}
use Rattle.iteration.specs.Lists.{var}
use Rattle.iteration.specs.Iteration.{negatives}
use Rattle.outcome.specs.Soft.{values}
use Rattle.outcome.proofs.negative.Given as goal

abbrev pub invariant-loop-v : goal.invariant-loop-v
invariant-loop-v l = l.count ≡ negatives (var l.rows) 0 l.v-index (values l.soft)
