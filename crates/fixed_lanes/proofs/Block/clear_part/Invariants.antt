-- `fixed_lanes::Block::clear_part` meets its contract. Assumes nothing.
use Rattle.fixed_lanes.specs.Part.{PartMasked}
use Rattle.fixed_lanes.proofs.Block.clear_part.Given as goal

abbrev pub invariant-loop-k : goal.invariant-loop-k
invariant-loop-k l = PartMasked l.self.u l.lanes l.at l.w l.q.keeps l.initial.work l.k l.work
