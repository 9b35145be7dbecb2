-- The scope's listing: its output.
use Rattle.std.specs.Prelude.{◌≡◌, refl, false, [], ◌∷◌}
use Rattle.decoder_plan.specs.declared.Ending.TheVariants.{Finished}
use Rattle.laws.specs.Definitions.{decimal, digits}
use Rattle.report_lines.specs.Lines.{result_with, render_result, refused_line}

-- finished→0, 0→met→0→0→0→0 and 1→unmet→0→1→1→0, each with its newline: "both words .. then end in 0"
pub listing_output : render_result Finished 0 (result_with 2 0 0 false 0 0 ∷ result_with 3 0 1 false 1 0 ∷ []) ≡ 102 ∷ 105 ∷ 110 ∷ 105 ∷ 115 ∷ 104 ∷ 101 ∷ 100 ∷ 9 ∷ 48 ∷ 10 ∷ 48 ∷ 9 ∷ 109 ∷ 101 ∷ 116 ∷ 9 ∷ 48 ∷ 9 ∷ 48 ∷ 9 ∷ 48 ∷ 9 ∷ 48 ∷ 10 ∷ 49 ∷ 9 ∷ 117 ∷ 110 ∷ 109 ∷ 101 ∷ 116 ∷ 9 ∷ 48 ∷ 9 ∷ 49 ∷ 9 ∷ 49 ∷ 9 ∷ 48 ∷ 10 ∷ []
unfolding decimal digits
listing_output = refl

-- refused→11
pub refused_eleven : refused_line 11 ≡ 114 ∷ 101 ∷ 102 ∷ 117 ∷ 115 ∷ 101 ∷ 100 ∷ 9 ∷ 49 ∷ 49 ∷ 10 ∷ []
unfolding decimal digits
refused_eleven = refl
