-- The refusals of a run: "A call checks those that concern it, in this order, returns the first that applies". Also without words.
use Rattle.std.specs.Prelude.{Bool, true, false, not, ◌||◌, List, ℕ, zero, suc, ◌+◌, ◌*◌, ◌/◌, ◌%◌, eqb, ltb}
use Rattle.ldpc_shape.specs.Shape.{sizes_of, code_refusal}
use Rattle.ldpc_shape.specs.declared.Sizes.{Sizes}
use Rattle.decoder_plan.specs.declared.Schedule.{Schedule}
use Rattle.decoder_plan.specs.declared.Schedule.TheVariants.{Sequential, Layered}
use Rattle.decoder_plan.specs.declared.Part.{Part}
use Rattle.decoder_plan.specs.declared.Settings.{Settings}
use Rattle.decoder_refuse.specs.declared.Lent.{Lent}

-- 7: "Lanes are not 1 to 64."
unfoldable pub bad_lanes : ℕ → Bool
bad_lanes lanes = eqb lanes 0 || ltb 64 lanes

-- 8: "The soft values are not a whole number of n-long words, or make over 4,096 words."
unfoldable pub bad_words : ℕ → ℕ → Bool
bad_words n soft = not (eqb (soft % n) 0) || ltb 4096 (soft / n)

-- 9: "The iteration limit is above 65,535."
unfoldable pub bad_limit : ℕ → Bool
bad_limit iteration_limit = ltb 65535 iteration_limit

-- 10: "The schedule is layered with step 0."
abbrev pub bad_step : Schedule → Bool
bad_step Sequential = false
bad_step (Layered step) = eqb step 0

-- 11: "A BCH word is not 193 to 65,535 bits .. or a run's BCH part passes the end of its word."
unfoldable pub bad_part : ℕ → Part → Bool
bad_part n part = ltb part.length 193 || (ltb 65535 part.length || ltb n (part.first + part.length))

-- what a run needs: n bits of output and a record for each word; "Run work needs (n + 3E) times lanes i8s and E + P + 1 u32s"
unfoldable pub out_need : ℕ → ℕ → ℕ
out_need n words = words * n

unfoldable pub work_need : Sizes → ℕ → ℕ
work_need of lanes = (of.n + 3 * of.e) * lanes

unfoldable pub lists_need : Sizes → ℕ
lists_need of = of.e + of.p + 1

-- 13: "A lent output or work slice is too short."
unfoldable pub too_short : Sizes → ℕ → Lent → Bool
too_short of lanes lent =
    ltb lent.out (out_need of.n (lent.soft / of.n))
    || (ltb lent.room (lent.soft / of.n)
    || (ltb lent.work (work_need of lanes)
    || ltb lent.lists (lists_need of)))

-- the first that applies, 0 for none: 2 to 6 are the code's
unfoldable pub first_of : ℕ → Bool → Bool → Bool → Bool → Bool → Bool → ℕ
first_of (suc code) lanes words limit step part short = suc code
first_of zero true words limit step part short = 7
first_of zero false true limit step part short = 8
first_of zero false false true step part short = 9
first_of zero false false false true part short = 10
first_of zero false false false false true short = 11
first_of zero false false false false false true = 13
first_of zero false false false false false false = 0

unfoldable pub first_refusal : ℕ → List ℕ → List ℕ → Settings → Lent → ℕ
first_refusal n lens addrs set lent =
    first_of (code_refusal n lens addrs) (bad_lanes set.lanes) (bad_words n lent.soft) (bad_limit set.limits.iterations) (bad_step set.schedule)
    (bad_part n set.part) (too_short (sizes_of n lens addrs) set.lanes lent)
