-- `fixed_lanes::Block::clear` meets its contract. Assumes nothing.
use Rattle.std.proofs.Common.{◌-◌, ◌≤◌, length}
use Rattle.fixed_lanes.specs.Part.{BlockCleared}
use Rattle.fixed_lanes.proofs.Block.clear.Given as goal

abbrev pub invariant-loop-at : goal.invariant-loop-at
invariant-loop-at l = (l.at ≤ length l.self.fresh.now) × BlockCleared l.self.u (length l.self.fresh.now) l.at l.self.fresh.now l.initial.work l.self.m l.work

abbrev pub decreases-loop-at : goal.decreases-loop-at
decreases-loop-at l = length l.self.fresh.now - l.at
