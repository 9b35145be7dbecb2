-- Two runs, computed: a word's values are what it has left to do, 2, 0, 1, 3 and 0 iterations for five words; two lanes, iteration limit 2.
-- Word 3 leaves unmet, with 1 left.
use Rattle.std.specs.Prelude.{◌≡◌, refl, [], ◌∷◌, ℕ, ◌-◌, eqb, get_or}
use Rattle.schedule.specs.Status.{lane_words, log_words, queue_words, all_words, seek, status}
use Rattle.schedule.specs.Iterations.{state_at, held_in, rounds_held}
use Rattle.schedule.specs.Run.{Words, empty, holds, Left, finished, stopped, each, held, over, logged, load, fill, iterated, leave, refill, round, go, start, run}

five : Words ℕ
five = record { begin = λ w. get_or (2 ∷ 0 ∷ 1 ∷ 3 ∷ 0 ∷ []) w 0; iterate = λ x. x - 1; met = λ x. eqb x 0; iteration_limit = 2 }

left : ℕ → ℕ → ℕ → Left ℕ
left w x i = record { word = w; values = x; iterations = i }

example_finished : run five (0 ∷ 1 ∷ 2 ∷ 3 ∷ 4 ∷ []) 2 1_000_000
    ≡ record {
      ending = finished;
      last =
          record {
            lanes = empty ∷ empty ∷ [];
            stock = record { queue = []; log = left 3 1 2 ∷ left 4 0 0 ∷ left 0 0 2 ∷ left 2 0 1 ∷ left 1 0 0 ∷ [] };
            rounds = 3;
          };
    }
unfolding run go start refill round each fill load iterated leave logged over held five left
example_finished = refl

example_stopped : run five (0 ∷ 1 ∷ 2 ∷ 3 ∷ 4 ∷ []) 2 1
    ≡ record {
      ending = stopped;
      last =
          record {
            lanes = holds 0 1 1 ∷ holds 3 3 0 ∷ [];
            stock = record { queue = 4 ∷ []; log = left 2 0 1 ∷ left 1 0 0 ∷ [] };
            rounds = 1;
          };
    }
unfolding run go start refill round each fill load iterated leave logged over held five left
example_stopped = refl

-- in the first run word 3 is held in rounds 1 and 2 of the rounds 0 to 2
example_held : (held_in five (0 ∷ 1 ∷ 2 ∷ 3 ∷ 4 ∷ []) 2 3 0 ≡ 0) × (held_in five (0 ∷ 1 ∷ 2 ∷ 3 ∷ 4 ∷ []) 2 3 1 ≡ 1) × (rounds_held five (0 ∷ 1 ∷ 2 ∷ 3 ∷ 4 ∷ []) 2 3 3 ≡ 2)
unfolding held_in rounds_held state_at status seek all_words lane_words log_words queue_words start refill round each fill load iterated leave logged over held five left
example_held = (refl, refl, refl)
