-- The archive's numbers in C's order, computed: a run's tally, and a window before and after a doubtful word.
use Rattle.std.specs.Prelude.{◌≡◌, refl, List, [], ◌∷◌, ℕ, Ok}
use Rattle.decoder_plan.specs.declared.Ending.TheVariants.{Finished}
use Rattle.outcome.specs.Outcome.{is_finished, is_lost, lost_of, doubtful_of, lost}
use Rattle.window.specs.Figures.{lost_by, iterations_by, corrected_by, doubtful_by}
use Rattle.window.specs.Push.{record_in, written, slot_of, next_at, next_words, leaving, slid, moved, taken, pushed, push_refusal, pushed_of}
use Rattle.raxdov.specs.Numbers.{handed_of, record_of, window_into}
use Rattle.raxdov.specs.Run.{tally_by}

-- rounds, words loaded, iterations given, kept, lost, doubtful
pub tally_order : (was : List ℕ)
    → tally_by (Ok (record { ending = Finished; words = 9; rounds = 1; loaded = 2; given = 3; kept = 4; lost = 5; doubtful = 6 })) was ≡ 1 ∷ 2 ∷ 3 ∷ 4 ∷ 5 ∷ 6 ∷ []
tally_order was = refl

-- the next place, words, lost, iterations, corrected bits, doubtful: a word with 7 iterations and 5 corrected bits comes to a window that is not full
abbrev before : List ℕ
before = 1 ∷ 2 ∷ 100 ∷ 200 ∷ 300 ∷ 400 ∷ []

pub window_order : window_into (pushed_of 4 (handed_of before (0 ∷ 0 ∷ 0 ∷ 0 ∷ 0 ∷ 0 ∷ 0 ∷ 0 ∷ 0 ∷ 0 ∷ 0 ∷ 0 ∷ [])) (record_of (3 ∷ 7 ∷ 1 ∷ 0 ∷ 5 ∷ 0 ∷ []))) before
    ≡ 2 ∷ 3 ∷ 100 ∷ 207 ∷ 305 ∷ 401 ∷ []
unfolding pushed_of push_refusal pushed taken moved slid leaving record_in written slot_of next_at next_words lost_by iterations_by corrected_by doubtful_by is_finished is_lost lost_of doubtful_of lost
window_order = refl
