use Rattle.std.proofs.Common.{◌≡◌, sym, arith}
use Rattle.fixed_lanes.specs.Part.{part_kept}
use Rattle.fixed_lanes.proofs.Block.clear_chunk.Goals as goal

pub returns-in-16 : goal.returns-in-16
returns-in-16 c = part_kept (sym c.in-16.is) c.requires.w_bound.0 c.mask-q.ensures c.clear_part.ensures

pub returns-in-8 : goal.returns-in-8
returns-in-8 c = part_kept (sym c.in-8.is) c.requires.w_bound.0 c.mask-q.ensures c.clear_part-in-8.ensures

pub returns-in-4 : goal.returns-in-4
returns-in-4 c = part_kept (sym c.in-4.is) c.requires.w_bound.0 c.mask-q.ensures c.clear_part-in-4.ensures

pub returns-in_default : goal.returns-in_default
returns-in_default c = let e : 1 ≡ c.args.w = omega arith in part_kept e c.requires.w_bound.0 c.mask-q.ensures c.clear_part-in_default.ensures
