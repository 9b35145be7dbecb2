-- `fixed_layered::gathered` meets its contract. Assumes nothing.
use Rattle.std.proofs.Common.{arith}
use Rattle.std.proofs.lemmas.Grind.{common_steps}
use Rattle.fixed_layered.specs.Bounds.{diff_fits32, more_fits32}
use Rattle.fixed_layered.proofs.gathered.Goals as goal

pub overflow_add-result : goal.overflow_add-result
overflow_add-result c = grind (arith, common_steps, more_fits32 _ _ c.ranges.new c.ranges.old c.args.sum (c.requires c.if-seen.true), diff_fits32 _ _ c.ranges.new c.ranges.old)

pub returns-then-seen : goal.returns-then-seen
returns-then-seen c = grind (arith, common_steps, more_fits32 _ _ c.ranges.new c.ranges.old c.args.sum (c.requires c.if-seen.true), diff_fits32 _ _ c.ranges.new c.ranges.old)
