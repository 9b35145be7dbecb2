-- What the refusals leave of a plan.
use Rattle.std.specs.Prelude.{◌≡◌, true, ◌+◌, ◌≤◌, ◌<◌}
use Rattle.ldpc_shape.specs.Accepted.{Bounded}
use Rattle.decoder_plan.specs.Plan.{is_layered, step_of}
use Rattle.decoder_plan.specs.declared.Plan.{Plan}

pub record Fair (plan : Plan) : Type 0 where
  pub code : Bounded plan.sizes
  pub some_lanes : 0 < plan.lanes
  pub few_lanes : plan.lanes ≤ 64
  pub few_words : plan.words ≤ 4096
  pub limit_fits : plan.limits.iterations ≤ 65535
  pub step_some : is_layered plan.schedule ≡ true → 0 < step_of plan.schedule
  pub part_long : 193 ≤ plan.part.length
  pub part_short : plan.part.length ≤ 65535
  pub part_within : plan.part.first + plan.part.length ≤ plan.sizes.n
