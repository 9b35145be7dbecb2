-- The scope's listing: its lines are those of two words' records, of which the tally counts the first as kept and the second as doubtful.
use Rattle.std.specs.Prelude.{◌≡◌, refl, false, List, [], ◌∷◌, ℕ}
use Rattle.schedule.specs.Status.{sum}
use Rattle.schedule.specs.Run.{counting, input_order}
use Rattle.outcome.specs.Outcome.{is_finished, is_lost, lost, kept_of, doubtful_of, lost_of, unless_lost}
use Rattle.decoder_words.specs.Fields.{own_part, record_at}
use Rattle.decoder_words.specs.Tally.{kept_by, doubtful_by, kept_in, lost_in, doubtful_in}
use Rattle.report_lines.specs.Lines.{result_with}
use Rattle.report_text.specs.Report.{result_for, result_in, results_in}

-- The records whose results `listing_output` (report_lines, Listing) writes: a met word with 0 in all else, and an unmet word with one unsatisfied check,
-- any, and one bit corrected.
abbrev records : ℕ → List ℕ
records check = 2 ∷ 0 ∷ 0 ∷ 0 ∷ 0 ∷ 0 ∷ 3 ∷ 0 ∷ 1 ∷ check ∷ 1 ∷ 0 ∷ []

pub listing_results : (check : ℕ) → results_in (records check) 0 2 ≡ result_with 2 0 0 false 0 0 ∷ result_with 3 0 1 false 1 0 ∷ []
unfolding results_in result_in result_for record_at own_part unless_lost is_lost lost
listing_results check = refl

-- "01's listing has its second word doubtful": what each word adds to the tally, and the tally
pub listing_words : (check : ℕ) → (kept_by (record_at (records check) 0) ≡ 1) × (doubtful_by (record_at (records check) 1) ≡ 1)
unfolding record_at own_part kept_of doubtful_of is_lost lost
listing_words check = (refl, refl)

pub listing_tally : (check : ℕ) → (kept_in (records check) 2 ≡ 1) × ((doubtful_in (records check) 2 ≡ 1) × (lost_in (records check) 2 ≡ 0))
unfolding kept_in doubtful_in lost_in sum input_order counting record_at own_part kept_of doubtful_of lost_of is_finished is_lost lost
listing_tally check = (refl, (refl, refl))
