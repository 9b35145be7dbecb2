-- The tally's sums over the words' records: "iterations given (the sum of the records'), kept, lost", and "the tally gains doubtful".
use Rattle.std.specs.Prelude.{List, ℕ}
use Rattle.schedule.specs.Status.{sum}
use Rattle.schedule.specs.Run.{input_order}
use Rattle.outcome.specs.Outcome.{kept_of, doubtful_of, lost_of}
use Rattle.decoder_words.specs.Fields.{record_at}
use Rattle.decoder_words.specs.declared.Noted.{Noted}

-- over the first words' records: iterations given, words kept, lost and doubtful
unfoldable pub given_in : List ℕ → ℕ → ℕ
given_in records words = sum (λ w. (record_at records w).iterations) (input_order words)

abbrev pub kept_by : Noted → ℕ
kept_by r = kept_of r.state r.bch

abbrev pub lost_by : Noted → ℕ
lost_by r = lost_of r.state r.bch

abbrev pub doubtful_by : Noted → ℕ
doubtful_by r = doubtful_of r.state r.bch

unfoldable pub kept_in : List ℕ → ℕ → ℕ
kept_in records words = sum (λ w. kept_by (record_at records w)) (input_order words)

unfoldable pub lost_in : List ℕ → ℕ → ℕ
lost_in records words = sum (λ w. lost_by (record_at records w)) (input_order words)

unfoldable pub doubtful_in : List ℕ → ℕ → ℕ
doubtful_in records words = sum (λ w. doubtful_by (record_at records w)) (input_order words)
