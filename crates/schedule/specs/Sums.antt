-- What a turn for each lane keeps. In order: sums over the words in lanes, queue and log; facts of every lane and of the log; any turn (`each-..`);
-- then of loading, of an iteration and of leaving: sums, facts that the test `over` decides, lanes full while a word waits, the queue handed out
-- from its front, words just taken. Not here: from round to round (Rounds).
use Rattle.std.proofs.Common.{List, [], ◌∷◌, ℕ, ◌+◌}
use Rattle.schedule.specs.Run.{Lane, empty, holds, Left, Stock}

-- ---- sums over words: f w i for a word w that has had i iterations
module _ {X : Type 0} where
  unfoldable pub in_lane : (ℕ → ℕ → ℕ) → Lane X → ℕ
  in_lane f empty = 0
  in_lane f (holds w x i) = f w i

  unfoldable pub in_lanes : (ℕ → ℕ → ℕ) → List (Lane X) → ℕ
  in_lanes f [] = 0
  in_lanes f (l ∷ ls) = in_lane f l + in_lanes f ls

  unfoldable pub in_log : (ℕ → ℕ → ℕ) → List (Left X) → ℕ
  in_log f [] = 0
  in_log f (e ∷ es) = f e.word e.iterations + in_log f es

unfoldable pub in_queue : (ℕ → ℕ → ℕ) → List ℕ → ℕ
in_queue f [] = 0
in_queue f (w ∷ ws) = f w 0 + in_queue f ws

unfoldable pub in_stock : {X : Type 0} → (ℕ → ℕ → ℕ) → Stock X → ℕ
in_stock f s = in_queue f s.queue + in_log f s.log

abbrev pub one : ℕ → ℕ → ℕ
one w i = 1

abbrev pub iterations_of : ℕ → ℕ → ℕ
iterations_of w i = i

-- a fact of every word held, of every lane, of every word that has left; a list with a word in it
module _ {X : Type 0} where
  abbrev pub Held : (ℕ → X → ℕ → Type 0) → Lane X → Type 0
  Held P empty = Unit {0}
  Held P (holds w x i) = P w x i

  abbrev pub AllLanes : (Lane X → Type 0) → List (Lane X) → Type 0
  AllLanes P [] = Unit {0}
  AllLanes P (l ∷ ls) = P l × AllLanes P ls

  abbrev pub AllLog : (ℕ → X → ℕ → Type 0) → List (Left X) → Type 0
  AllLog P [] = Unit {0}
  AllLog P (e ∷ es) = P e.word e.values e.iterations × AllLog P es

abbrev pub Some : List ℕ → Type 0
Some [] = ⊥
Some (w ∷ ws) = Unit {0}
