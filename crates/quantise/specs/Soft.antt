-- "One f32 product, rounded to the nearest whole number with halves away from zero, clamped to ±127. A NaN gives 0."
use Rattle.std.specs.Prelude.{Bool, true, false, cond, List, map, ◌++◌, ℕ, ◌+◌, ◌*◌, ◌/◌, min, eqb, ltb, ℤ, pos, neg_ℤ, Float, length, drop}
use Rattle.std.specs.Float.{nan, inf, fin, binary32}
use Rattle.std.specs.Float.Ieee.{up, down, mul}

-- n with a sign, negative where s is true
abbrev pub signed : Bool → ℕ → ℤ
signed false n = pos n
signed true n = neg_ℤ (pos n)

-- the whole number nearest to num / den, a half upwards: num / den + 1 / 2 without its fraction
abbrev pub nearest : ℕ → ℕ → ℕ
nearest num den = (num * 2 + den) / (den * 2)

-- The soft value of a float: its size m * 2 ^ e, that is m * up e / down e, rounded by itself, so that a half goes away from zero, and clamped.
-- An infinity is clamped, a NaN gives 0.
abbrev pub soft_value : Float → ℤ
soft_value nan = pos 0
soft_value (inf s) = signed s 127
soft_value (fin s m e) = signed s (min (nearest (m * up e) (down e)) 127)

-- one f32 product, rounded once to an f32, and its soft value
abbrev pub soft_of : Float → Float → ℤ
soft_of scale x = soft_value (mul binary32 x scale)

-- "13. A lent output or work slice is too short": here where the output is shorter than the input. 0 where nothing is refused
abbrev pub quantise_refusal : List Float → List ℤ → ℕ
quantise_refusal llr out = cond (ltb (length out) (length llr)) 13 0

-- a soft value for each float, then the rest of the output as it was
abbrev pub written_of : List Float → Float → List ℤ → List ℤ
written_of llr scale out = map (soft_of scale) llr ++ drop (length llr) out

-- the output at exit: a refusal changes nothing
abbrev pub output_of : List Float → Float → List ℤ → List ℤ
output_of llr scale out = cond (eqb (quantise_refusal llr out) 0) (written_of llr scale out) out
