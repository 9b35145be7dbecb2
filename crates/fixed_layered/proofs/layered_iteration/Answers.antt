-- `fixed_layered::layered_iteration` meets its contract. Assumes nothing.
use Rattle.std.proofs.Common.{rules}
use Rattle.fixed_layered.proofs.layered_iteration.Goals as goal

pub invariant_of-layering-2 : goal.invariant_of-layering-2
invariant_of-layering-2 c =
    let code = c.new.ensures in
    rw (code.lists, code.sizes.0, code.sizes.1) (search rules)
