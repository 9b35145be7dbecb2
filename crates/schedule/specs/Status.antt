-- What a run's last state says of each word: "A word waits until a lane takes it, is held until it leaves, and is then finished" (the scope, "A word alone").
use Rattle.std.specs.Prelude.{cond, List, [], ◌∷◌, ◌++◌, ℕ, ◌+◌, max, eqb}
use Rattle.schedule.specs.Run.{Lane, empty, holds, Left, State}

pub data Status (X : Type 0) : Type 0 where
  waiting : Status X
  holding done : X → ℕ → Status X

module _ {X : Type 0} where
  -- a word's iterations
  abbrev pub spent : Status X → ℕ
  spent waiting = 0
  spent (holding x i) = i
  spent (done x i) = i

  -- the words in lanes, the words that have left, the words that wait, each with its status
  unfoldable pub lane_words : List (Lane X) → List (ℕ × Status X)
  lane_words [] = []
  lane_words (empty ∷ ls) = lane_words ls
  lane_words (holds w x i ∷ ls) = (w, holding x i) ∷ lane_words ls

  unfoldable pub log_words : List (Left X) → List (ℕ × Status X)
  log_words [] = []
  log_words (e ∷ es) = (e.word, done e.values e.iterations) ∷ log_words es

  unfoldable pub queue_words : List ℕ → List (ℕ × Status X)
  queue_words [] = []
  queue_words (w ∷ ws) = (w, waiting) ∷ queue_words ws

  unfoldable pub all_words : State X → List (ℕ × Status X)
  all_words s = lane_words s.lanes ++ (log_words s.stock.log ++ queue_words s.stock.queue)

  -- the status of the word v: what stands beside it
  unfoldable pub seek : ℕ → List (ℕ × Status X) → Status X
  seek v [] = waiting
  seek v (e ∷ es) = cond (eqb v e.0) e.1 (seek v es)

  unfoldable pub status : State X → ℕ → Status X
  status s v = seek v (all_words s)

-- ---- numbers over a list of words, or of anything
unfoldable pub sum : {A : Type 0} → (A → ℕ) → List A → ℕ
sum f [] = 0
sum f (w ∷ ws) = f w + sum f ws

unfoldable pub largest : (ℕ → ℕ) → List ℕ → ℕ
largest f [] = 0
largest f (w ∷ ws) = max (f w) (largest f ws)
