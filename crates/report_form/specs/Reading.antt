-- What the reader of a text answers: the description that the text is the rendering of, or refusal 1, and the words' soft values. Definitions only;
-- Accepted has the laws.
use Rattle.std.specs.Prelude.{◌≡◌, List, ◌++◌, map, ℕ, ℤ, Result, Ok, Err, length, take, drop}
use Rattle.decoder_plan.specs.declared.Schedule as run
use Rattle.decoder_plan.specs.declared.Schedule.TheVariants.{Sequential, Layered}
use Rattle.decoder_plan.specs.declared.Settings as asked
use Rattle.refusal.specs.declared.Refusal.{Refusal}
use Rattle.refusal.specs.declared.Refusal.TheVariants as refusal
use Rattle.report_form.specs.Description.{Schedule, sequential, layered, Settings, Description, Within, render, flat, soft_words}
use Rattle.report_form.specs.declared.Reading.{Reading}
use Rattle.report_form.specs.declared.table.Rows.{Rows}

-- the schedule and the settings that a run is given
abbrev pub schedule_of : run.Schedule → Schedule
schedule_of Sequential = sequential
schedule_of (Layered step) = layered step

abbrev pub settings_of : asked.Settings → Settings
settings_of s =
    record {
      lanes = s.lanes;
      iteration_limit = s.limits.iterations;
      offset = s.offset;
      schedule = schedule_of s.schedule;
      round_limit = s.limits.rounds;
      part_first = s.part.first;
      part_length = s.part.length;
    }

-- the rows' lengths, and their addresses: what of the places is used
abbrev pub lengths_in : Rows → List ℕ
lengths_in r = take r.count r.lengths

abbrev pub addresses_in : Rows → List ℕ
addresses_in r = take r.total r.addresses

-- a description's numbers: the rows by their lengths, and their addresses one after another
pub record Gives (d : Description) (r : Reading) : Type 0 where
  pub n : r.n ≡ d.n
  pub lengths : lengths_in r.rows ≡ map length d.rows
  pub addresses : addresses_in r.rows ≡ flat d.rows
  pub settings : settings_of r.settings ≡ d.settings
  pub words : r.words ≡ length d.words

-- the beginning of a list written over
abbrev pub overlaid : List ℤ → List ℤ → List ℤ
overlaid xs ys = xs ++ drop (length xs) ys

-- no description within the limits has this text
abbrev pub NoText : List ℕ → Type 0
NoText text = (d : Description) → Within d → render d ≡ text → ⊥

-- refused (1) if no description within the limits has this text, and then nothing is written
pub record NoDescription (text : List ℕ) (words : List ℤ) (r : Refusal) (words' : List ℤ) : Type 0 where
  pub none : NoText text
  pub answer : r ≡ refusal.Form
  pub kept : words' ≡ words

-- otherwise the one description that has this text, its numbers, and its words' soft values at the start of the slice
pub record OneDescription (text : List ℕ) (words : List ℤ) (r : Reading) (words' : List ℤ) : Type 0 where
  pub description : Description
  pub within : Within description
  pub writes : render description ≡ text
  pub only : (d : Description) → Within d → render d ≡ text → d ≡ description
  pub answer : Gives description r
  pub values : words' ≡ overlaid (soft_words description.n description.words) words

abbrev pub RightReading : List ℕ → List ℤ → Result Reading Refusal → List ℤ → Type 0
RightReading text words (Err r) words' = NoDescription text words r words'
RightReading text words (Ok r) words' = OneDescription text words r words'
