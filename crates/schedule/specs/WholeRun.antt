-- The claim of demand 3 as far as the schedule goes, "a single claim about a whole run". It joins the run (Run) and the word alone (Alone),
-- whose definitions know nothing of each other. Theorem shows it for every order of loading that has each word at most once, every lane count of
-- 1 or more and every round limit: it holds of the run's definition, whatever a program does.
use Rattle.std.specs.Prelude.{◌≡◌, ◌↔◌, List, [], ◌∷◌, ◌++◌, ℕ, ◌+◌, ◌-◌, ◌*◌, ◌≤◌, ◌<◌, length}
use Rattle.laws.specs.Choice.{same}
use Rattle.schedule.specs.Run.{Words, State, Result, finished, stopped, held}
use Rattle.schedule.specs.Alone.{after, ends}
use Rattle.schedule.specs.Status.{Status, waiting, holding, done, spent, lane_words, log_words, all_words, status, sum, largest}

-- how often the word v stands in an order
unfoldable pub count : ℕ → List ℕ → ℕ
count v [] = 0
count v (w ∷ ws) = same v w + count v ws

module _ {X : Type 0} where
  -- how often it stands among words with their status
  unfoldable pub times : ℕ → List (ℕ × Status X) → ℕ
  times v [] = 0
  times v (e ∷ es) = same v e.0 + times v es

  -- one number for each status: waiting, held, finished
  abbrev pub case : ℕ → ℕ → ℕ → Status X → ℕ
  case a b c waiting = a
  case a b c (holding x i) = b
  case a b c (done x i) = c

  abbrev pub Finished : Status X → Type 0
  Finished waiting = ⊥
  Finished (holding x i) = ⊥
  Finished (done x i) = Unit {0}

  -- how often a word stands in the queue, in lanes, in the log; and by its status it stands in one of them, once
  abbrev pub Places : State X → ℕ → ℕ → ℕ → ℕ → Type 0
  Places s v a b c = (count v s.stock.queue ≡ a) × (times v (lane_words s.lanes) ≡ b) × (times v (log_words s.stock.log) ≡ c)

  abbrev pub Where : State X → ℕ → Status X → Type 0
  Where s v waiting = Places s v 1 0 0
  Where s v (holding x i) = Places s v 0 1 0
  Where s v (done x i) = Places s v 0 0 1

-- "iterations given are their sum over all words, and the longest word's is the largest of them"
module _ {X : Type 0} (order : List ℕ) (s : State X) where
  unfoldable pub given : ℕ
  given = sum (λ w. spent (status s w)) order

  unfoldable pub longest : ℕ
  longest = largest (λ w. spent (status s w)) order

module _ {X : Type 0} (words : Words X) where
  -- the words of a run, each alone: word w's values after i iterations, and its iterations at its end
  abbrev pub after_alone : ℕ → ℕ → X
  after_alone w i = after (words.begin w) words.iterate i

  abbrev pub ends_alone : ℕ → ℕ
  ends_alone w = ends (words.begin w) words.iterate words.met words.iteration_limit

  -- a finished word has the values and the iterations that it has alone at its end; a held word the values that it has alone after its
  -- iterations, "fewer than those at its end"
  abbrev pub AsAlone : ℕ → Status X → Type 0
  AsAlone w waiting = Unit {0}
  AsAlone w (holding x i) = (x ≡ after_alone w i) × (i < ends_alone w)
  AsAlone w (done x i) = (x ≡ after_alone w (ends_alone w)) × (i ≡ ends_alone w)

  pub record WholeRun (order : List ℕ) (lanes round_limit : ℕ) (r : Result X) : Type 0 where
    -- "finished if no lane is held; stopped if the round limit is used up"
    pub rounds_within : r.last.rounds ≤ round_limit
    pub finished_when : r.ending ≡ finished ↔ held r.last.lanes ≡ 0
    pub stopped_when : r.ending ≡ stopped → r.last.rounds ≡ round_limit
    -- a run finishes exactly if every word does, and it does if the limit allows the words' iterations one after another
    pub all_finished : r.ending ≡ finished ↔ ((w : ℕ) → count w order ≡ 1 → Finished (status r.last w))
    pub enough : sum ends_alone order ≤ round_limit → r.ending ≡ finished
    -- each word waits, is held, or is finished: one of them, in one place; and there are no other words
    pub all_there : (w : ℕ) → times w (all_words r.last) ≡ count w order
    pub place : (w : ℕ) → count w order ≡ 1 → Where r.last w (status r.last w)
    pub as_alone : (w : ℕ) → AsAlone w (status r.last w)
    -- words are loaded in their order; words loaded = held + finished
    pub loaded : (front : List ℕ) × (order ≡ front ++ r.last.stock.queue) × (length front ≡ held r.last.lanes + length r.last.stock.log)
    pub lane_count : length r.last.lanes ≡ lanes
    pub held_count : sum (λ w. case 0 1 0 (status r.last w)) order ≡ held r.last.lanes
    pub finished_count : sum (λ w. case 0 0 1 (status r.last w)) order ≡ length r.last.stock.log
    -- if a word waits, the iterations given are lanes times rounds; if all are finished, lanes times rounds are at most all iterations and
    -- (lanes - 1) times the longest word's (this holds of a run that stopped, too)
    pub waits : (w : ℕ) → count w order ≡ 1 → status r.last w ≡ waiting → given order r.last ≡ lanes * r.last.rounds
    pub most : lanes * r.last.rounds ≤ given order r.last + (lanes - 1) * longest order r.last
