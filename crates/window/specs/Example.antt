-- A small series, computed: at width 3, from a ring that holds something, five records, of which one is held, one lost and three doubtful; the first of
-- these leaves.
use Rattle.std.specs.Prelude.{◌≡◌, ℕ, List, [], ◌∷◌, refl}
use Rattle.std.proofs.Common.{arith}
use Rattle.outcome.specs.Outcome.{is_finished, is_lost, lost_of, doubtful_of, lost}
use Rattle.window.specs.declared.Record.{Record}
use Rattle.window.specs.Figures.{finished_in, last_of, lost_by, iterations_by, corrected_by, doubtful_by}
use Rattle.window.specs.Push.{record_in, written, slot_of, next_at, next_words, leaving, slid, moved, empty, taken, pushed, series, push_refusal, Fit}

abbrev with : ℕ → ℕ → ℕ → Record
with state iterations bch = record { state = state; iterations = iterations; bch = bch }

abbrev records : List Record
records = with 3 5 3 ∷ with 3 7 4294967295 ∷ with 1 9 0 ∷ with 3 1 4 ∷ with 3 2 0 ∷ []

-- the last three finished ones are the lost word and the two behind the held word
last : last_of 3 (finished_in records) ≡ with 3 7 4294967295 ∷ with 3 1 4 ∷ with 3 2 0 ∷ []
unfolding last_of finished_in is_finished
last = refl

after : series 3 (empty (11 ∷ 12 ∷ 13 ∷ 14 ∷ 15 ∷ 16 ∷ 17 ∷ 18 ∷ 19 ∷ 20 ∷ [])) records ≡ record {
  window = record { at = 1; words = 3; lost = 1; iterations = 10; corrected = 4; doubtful = 2 };
  ring = 3 ∷ 2 ∷ 0 ∷ 3 ∷ 7 ∷ 4294967295 ∷ 3 ∷ 1 ∷ 4 ∷ 20 ∷ [];
}
unfolding series pushed taken moved slid leaving record_in written slot_of next_at next_words lost_by iterations_by corrected_by doubtful_by is_finished is_lost lost_of doubtful_of lost
after = refl

-- 14 comes first; the limits of the width
refusals : (push_refusal 0 0 ∷ push_refusal 4097 0 ∷ push_refusal 4096 12287 ∷ push_refusal 4096 12288 ∷ push_refusal 1 2 ∷ push_refusal 1 3 ∷ []) ≡ 14 ∷ 14 ∷ 13 ∷ 0 ∷ 13 ∷ 0 ∷ []
unfolding push_refusal
refusals = refl

-- the greatest numbers that can be handed in fit
greatest : Fit (with 4294967295 4294967295 4294967295 ∷ [])
greatest = (omega arith, (omega arith, tt))

-- a window that was altered: a place that is none is 0, more words than the width are a full window, sums are modulo 2^64
altered : pushed 2 (record {
  window = record { at = 18446744073709551615; words = 18446744073709551615; lost = 0; iterations = 0; corrected = 0; doubtful = 0 };
  ring = 2 ∷ 7 ∷ 4294967295 ∷ 3 ∷ 8 ∷ 8 ∷ [];
}) (with 3 3 4) ≡ record {
  window = record { at = 1; words = 2; lost = 18446744073709551615; iterations = 18446744073709551612; corrected = 4; doubtful = 1 };
  ring = 3 ∷ 3 ∷ 4 ∷ 3 ∷ 8 ∷ 8 ∷ [];
}
unfolding pushed taken moved slid leaving record_in written slot_of next_at next_words lost_by iterations_by corrected_by doubtful_by is_finished is_lost lost_of doubtful_of lost
altered = refl
