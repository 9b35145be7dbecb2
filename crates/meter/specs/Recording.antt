-- A run recorded in numbers of the program's own.
use Rattle.std.specs.Prelude.{cond, List, ◌++◌, ℕ, ◌-◌, ◌*◌, ◌≤◌, ℤ, ltb, length, Result}
use Rattle.decoder_plan.specs.declared.Settings.{Settings}
use Rattle.decoder_words.specs.Fields.{fields, first_records}
use Rattle.decoder.specs.Runs.{Runs}
use Rattle.decoder.specs.Refused.{words_ran}
use Rattle.decoder.specs.declared.Ran.{Ran}
use Rattle.refusal.specs.declared.Refusal.{Refusal}
use Rattle.meter.specs.Metered.{blank}

-- Of numbers with the records of so many words in front: those, and behind them blank ones for the rest of the room.
abbrev pub numbers_of : ℕ → ℕ → List ℕ → List ℕ
numbers_of room words numbers = first_records words numbers ++ blank (room - words)

-- The program has numbers for 4,096 records at most: a run with more words is refused by 8, whatever the room (decoder_refuse: `enough_room`).
abbrev pub room_for : ℕ → ℕ
room_for room = cond (ltb 4096 room) 4096 room

-- What the core leaves there: a run over blank records with room for so many words, the words' records in front of the numbers.
pub record RecordedRun (n : ℕ) (lens addrs : List ℕ) (soft : List ℤ) (set : Settings) (room : ℕ) (out out' : List ℕ) (numbers : List ℕ) (work work' : List ℤ) (lists lists' : List ℕ) (a : Result Ran Refusal) : Type 0 where
  pub runs : Runs n lens addrs soft set out out' (blank room) (numbers_of room (words_ran a) numbers) work work' lists lists' a
  pub numbers_long : words_ran a * fields ≤ length numbers
