use Rattle.std.proofs.Common.{arith}
use Rattle.fixed_lanes.specs.Part.{block_again}
use Rattle.fixed_lanes.proofs.Block.clear.Goals as goal

pub loop-at-preserved : goal.loop-at-preserved
loop-at-preserved c = (omega arith, block_again c.loop-at.invariant.1 c.clear_chunk.ensures)
