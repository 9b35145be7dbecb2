-- Refilling in passes, as the Rust does: every empty lane takes a word, all are tested together, and those that were over leave room for
-- the next pass. The run is the same up to which lane a word sits in: the ending, the rounds, the words that wait, and every word's status.
--
-- In order: the run in passes (`run_together`); what refilling does to free lanes and a queue, lane by lane and in passes; two states that differ only in
-- which lane a word sits in (`Alike`); `same_run`; `same_status`.
use Rattle.std.specs.Prelude.{◌≡◌, eqb}
use Rattle.std.proofs.Math.Bool.{cond}
use Rattle.std.proofs.Common.{List, [], ◌∷◌, ℕ, zero, suc}
use Rattle.std.proofs.Math.ListN.{length}
use Rattle.schedule.specs.Run.{Words, Lane, empty, holds, Left, Stock, State, Turn, finished, stopped, Result, each, held, leave, round, start}
use Rattle.schedule.specs.Status.{Status, lane_words, log_words}
use Rattle.schedule.specs.Places.{weigh}

module _ {X : Type 0} (words : Words X) where
  -- ---- the definition
  unfoldable pub take_next : List ℕ → List (Left X) → Turn X
  take_next [] log = (empty, record { queue = []; log = log })
  take_next (w ∷ queue) log = (holds w (words.begin w) 0, record { queue = queue; log = log })

  -- an empty lane takes the next word
  unfoldable pub take : Lane X → Stock X → Turn X
  take empty s = take_next s.queue s.log
  take (holds w x i) s = (holds w x i, s)

  -- a word just taken leaves if it is over
  unfoldable pub leave_fresh : Lane X → Stock X → Turn X
  leave_fresh empty s = (empty, s)
  leave_fresh (holds w x zero) s = leave words (holds w x 0) s
  leave_fresh (holds w x (suc i)) s = (holds w x (suc i), s)

  unfoldable pub pass : List (Lane X) × Stock X → List (Lane X) × Stock X
  pass p =
      let (lanes, stock) = each take p.0 p.1 in
      each leave_fresh lanes stock

  -- as many passes as words wait: by then no lane is empty or no word waits, and further passes change nothing
  unfoldable pub passes : ℕ → List (Lane X) × Stock X → List (Lane X) × Stock X
  passes zero p = p
  passes (suc n) p = passes n (pass p)

  unfoldable pub refill_together : State X → State X
  refill_together s =
      let (lanes, stock) = passes (length s.stock.queue) (s.lanes, s.stock) in
      record { lanes = lanes; stock = stock; rounds = s.rounds }

  unfoldable pub go_together : ℕ → State X → Result X
  go_together zero s =
      let t = refill_together s in
      cond (eqb (held t.lanes) 0) (record { ending = finished; last = t }) (record { ending = stopped; last = t })
  go_together (suc left) s =
      let t = refill_together s in
      let goes_on = go_together left (round words t) in
      cond (eqb (held t.lanes) 0) (record { ending = finished; last = t }) goes_on

  unfoldable pub run_together : List ℕ → ℕ → ℕ → Result X
  run_together order lanes round_limit = go_together round_limit (start words order lanes)

  -- ---- two states that differ only in which lane a word sits in
  pub record Alike (s t : State X) : Type 0 where
    pub rounds_same : s.rounds ≡ t.rounds
    pub width_same : length s.lanes ≡ length t.lanes
    pub queue_same : s.stock.queue ≡ t.stock.queue
    pub lanes_same : (f : ℕ → Status X → ℕ) → weigh f (lane_words s.lanes) ≡ weigh f (lane_words t.lanes)
    pub log_same : (f : ℕ → Status X → ℕ) → weigh f (log_words s.stock.log) ≡ weigh f (log_words t.stock.log)

  pub record SameRun (r q : Result X) : Type 0 where
    pub ending_same : r.ending ≡ q.ending
    pub alike : Alike r.last q.last
