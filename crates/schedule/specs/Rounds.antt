-- What a run keeps from round to round, and what holds at its end, of every order of loading, lane count and round limit. In order: sums over the
-- words of a state; a word in a lane is as alone (`Running`, `Testing`, `Ended`); sums through refilling and a round; the invariant `Inv`, through
-- both; `Good`, what holds at the end (`run_good`). Not here: each word by itself (Places, Iterations).
use Rattle.std.proofs.Math.Path.{◌≡◌}
use Rattle.std.specs.Prelude.{cond, ltb, length}
use Rattle.std.proofs.Common.{List, ◌++◌, ℕ, suc, ◌+◌, ◌*◌, ◌≤◌, ◌<◌}
use Rattle.schedule.specs.Run.{Words, Lane, State, finished, stopped, Result, held}
use Rattle.schedule.specs.WholeRun.{after_alone, ends_alone}
use Rattle.schedule.specs.Sums.{in_lanes, in_queue, in_log, in_stock, iterations_of, Held, AllLanes, AllLog, Some}

-- every word of a state, once
unfoldable pub total : {X : Type 0} → (ℕ → ℕ → ℕ) → State X → ℕ
total f s = in_lanes f s.lanes + in_stock f s.stock

-- the iterations given so far, by the words' places
unfoldable pub spent_so_far : {X : Type 0} → State X → ℕ
spent_so_far s = in_lanes iterations_of s.lanes + in_log iterations_of s.stock.log

-- 1 for a word that has had more than m iterations
unfoldable pub above : ℕ → ℕ → ℕ → ℕ
above m w i = cond (ltb m i) 1 0

-- ---- a run's words, each alone
module _ {X : Type 0} (words : Words X) where
  -- a word in a lane has its values alone after its iterations, and has not reached its end; a word that has left was at its end
  abbrev pub Running : ℕ → X → ℕ → Type 0
  Running w x i = (x ≡ after_alone words w i) × (i < ends_alone words w)

  abbrev pub Ended : ℕ → X → ℕ → Type 0
  Ended w x i = (x ≡ after_alone words w i) × (i ≡ ends_alone words w)

  -- in a round, after the iteration
  abbrev pub Testing : ℕ → X → ℕ → Type 0
  Testing w x i = (x ≡ after_alone words w i) × (i ≤ ends_alone words w)

  module _ (order : List ℕ) (others : ℕ) where
    -- when a word in a lane was loaded a word had waited all along
    abbrev pub Since : ℕ → ℕ → Lane X → Type 0
    Since r g = Held (λ w x i. suc others * r + i ≤ g + suc others * i)

    pub record Inv (s : State X) : Type 0 where
      pub width : length s.lanes ≡ suc others
      pub running : AllLanes (Held Running) s.lanes
      pub ended : AllLog Ended s.stock.log
      pub words_kept : (f : ℕ → ℕ) → total (λ w i. f w) s ≡ in_queue (λ w i. f w) order
      pub suffix : (front : List ℕ) × (order ≡ front ++ s.stock.queue)
      pub busy : s.rounds ≤ spent_so_far s
      pub full : Some s.stock.queue → spent_so_far s ≡ suc others * s.rounds
      pub since : AllLanes (Since s.rounds (spent_so_far s)) s.lanes
      pub most : (m : ℕ) → total (above m) s ≡ 0 → suc others * s.rounds ≤ spent_so_far s + others * m

    -- ---- the run
    pub record Good (round_limit : ℕ) (r : Result X) : Type 0 where
      pub inv : Inv r.last
      pub in_limit : r.last.rounds ≤ round_limit
      pub filled : Some r.last.stock.queue → held r.last.lanes ≡ suc others
      pub finishes : r.ending ≡ finished → held r.last.lanes ≡ 0
      pub stops : r.ending ≡ stopped → (r.last.rounds ≡ round_limit) × (0 < held r.last.lanes)
