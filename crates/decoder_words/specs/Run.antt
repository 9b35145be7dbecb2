-- A run's words as the schedule takes them, their run and its ending, and one iteration by the plan.
use Rattle.std.specs.Prelude.{List, ℕ, ℤ}
use Rattle.iteration.specs.Check.{Word}
use Rattle.iteration.specs.Iteration.{Code, iteration_of}
use Rattle.schedule.specs.Run.{Words, Ending as RunEnding, finished, stopped, Result, run}
use Rattle.outcome.specs.Outcome.{begin, met_of}
use Rattle.decoder_plan.specs.Plan.{is_layered, step_of}
use Rattle.decoder_plan.specs.declared.Plan.{Plan}
use Rattle.decoder_plan.specs.declared.Ending.{Ending}
use Rattle.decoder_plan.specs.declared.Ending.TheVariants.{Finished, Stopped}
use Rattle.decoder_words.specs.Fields.{own_part}

-- "A word taken starts with its soft values as L and every message 0"; it is met if every check is; the iteration limit
unfoldable pub words_of : Code → (Word → Word) → Plan → List ℤ → Words Word
words_of code iterate plan soft =
    record {
      begin = λ w. begin plan.sizes.n (own_part plan.sizes.n w soft);
      iterate = iterate;
      met = met_of code plan.sizes.p;
      iteration_limit = plan.limits.iterations;
    }

-- the run of these words in an order of loading, with the plan's lanes and round limit
abbrev pub run_of : Code → (Word → Word) → Plan → List ℤ → List ℕ → Result Word
run_of code iterate plan soft order = run (words_of code iterate plan soft) order plan.lanes plan.limits.rounds

-- how it ended, as a run answers it
abbrev pub ending_of : RunEnding → Ending
ending_of finished = Finished
ending_of stopped = Stopped

-- one iteration of a word, by the plan's schedule and offset
abbrev pub iterate_of : Plan → Code → Word → Word
iterate_of plan code = iteration_of (is_layered plan.schedule) (step_of plan.schedule) plan.offset code plan.sizes.p
