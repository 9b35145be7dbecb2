-- A run's schedule taken apart, and what an accepted run goes by.
use Rattle.std.specs.Prelude.{Bool, true, false, ℕ, ◌/◌}
use Rattle.ldpc_shape.specs.declared.Sizes.{Sizes}
use Rattle.decoder_plan.specs.declared.Schedule.{Schedule}
use Rattle.decoder_plan.specs.declared.Schedule.TheVariants.{Sequential, Layered}
use Rattle.decoder_plan.specs.declared.Settings.{Settings}
use Rattle.decoder_plan.specs.declared.Plan.{Plan}

-- whether the schedule is layered, and its step (0 for the sequential one, which has none)
abbrev pub is_layered : Schedule → Bool
is_layered Sequential = false
is_layered (Layered step) = true

abbrev pub step_of : Schedule → ℕ
step_of Sequential = 0
step_of (Layered step) = step

-- what a run of a code with these numbers goes by, over so many soft values
abbrev pub plan_of : Sizes → ℕ → Settings → Plan
plan_of sizes soft set =
    record {
      sizes = sizes;
      words = soft / sizes.n;
      lanes = set.lanes;
      limits = set.limits;
      schedule = set.schedule;
      offset = set.offset;
      part = set.part;
    }
