-- The run as code does it: refill, test, a round, again. In order: what a round may rely on (`Safe`, `Ready`); what arrays and memory are at the
-- end (`ResultStands`); before refilling (`Going`) and after it (`Pausing`), and the ways from one to the other and to the end.
use Rattle.std.proofs.Math.Path.{◌≡◌}
use Rattle.std.specs.Prelude.{◌≢◌, Bool, ltb, length, get_or}
use Rattle.std.proofs.Math.Bool.{cond}
use Rattle.std.proofs.Common.{List, ℕ, zero, suc, ◌+◌, ◌-◌, ◌≤◌, ◌<◌}
use Rattle.std.proofs.Math.Dec.{eqb}
unfoldable pub use Rattle.schedule.specs.Run.{is_stopped}
use Rattle.schedule.specs.Run.{Words, Lane, Left, Stock, State, finished, stopped, Result, held, round, go, run}
use Rattle.schedule.specs.Sums.{in_lanes, in_stock, Held, AllLanes}
use Rattle.schedule.specs.Lanes.{Setup, rows, any_held, Kept, stock, Stands, Sized}

-- 1 for a word that is not below n
unfoldable pub outside : ℕ → ℕ → ℕ → ℕ
outside n w i = cond (ltb w n) 0 1

-- ---- what a round may rely on: a held word is one of the n words, and has had fewer iterations than the limit
module _ {X : Type 0} (words : Words X) (n : ℕ) where
  abbrev pub Short : ℕ → X → ℕ → Type 0
  Short w x i = i < words.iteration_limit

  pub record Safe (ls : List (Lane X)) (s : Stock X) : Type 0 where
    pub short : AllLanes (Held Short) ls
    pub known : in_lanes (outside n) ls + in_stock (outside n) s ≡ 0

module _ {X M : Type 0} (R : Setup X M) (n round_limit : ℕ) where
  abbrev pub result : Result X
  result = run R.words R.order R.lanes round_limit

  -- ending, rounds, lanes, queue and log are the run's
  pub record ResultStands (ended : Bool) (rounds : ℕ) (held' iters : List ℕ) (col : ℕ → X) (next : ℕ) (memory : ℕ → M) : Type 0 where
    pub ending_is : ended ≡ is_stopped result.ending
    pub rounds_are : rounds ≡ result.last.rounds
    pub in_order : next ≤ length R.order
    pub stands : Stands R (result.last.lanes, result.last.stock) held' iters col next memory

  unfoldable pub made : List ℕ → List ℕ → (ℕ → X) → ℕ → ℕ → List (Left X) → State X
  made held' iters col next rounds log = record { lanes = rows R.lanes held' iters col; stock = stock R next log; rounds = rounds }

  -- what is left to do of a state that is refilled
  unfoldable pub settle : ℕ → State X → Result X
  settle zero t = cond (eqb (held t.lanes) 0) (record { ending = finished; last = t }) (record { ending = stopped; last = t })
  settle (suc left) t = cond (eqb (held t.lanes) 0) (record { ending = finished; last = t }) (go R.words left (round R.words t))

  -- what is true of the lanes by number
  pub record Ready (held' iters : List ℕ) : Type 0 where
    pub held_known : (l : ℕ) → l < R.lanes → get_or held' l 0 ≢ 0 → get_or held' l 0 - 1 < n
    pub iters_short : (l : ℕ) → l < R.lanes → get_or held' l 0 ≢ 0 → get_or iters l 0 < R.words.iteration_limit

  -- ---- before refilling
  pub record Going (held' iters : List ℕ) (col : ℕ → X) (next rounds : ℕ) (memory : ℕ → M) : Type 0 where
    pub sized : Sized held' iters
    pub in_order : next ≤ length R.order
    pub in_limit : rounds ≤ round_limit
    pub begun : (l : ℕ) → l < R.lanes → get_or held' l 0 ≢ 0 → get_or iters l 0 ≢ 0
    pub log : List (Left X)
    pub log_is : Kept R log memory
    pub safe : Safe R.words n (rows R.lanes held' iters col) (stock R next log)
    pub goes : go R.words (round_limit - rounds) (made held' iters col next rounds log) ≡ result

  -- ---- after refilling
  pub record Pausing (held' iters : List ℕ) (col : ℕ → X) (next rounds : ℕ) (busy : Bool) (memory : ℕ → M) : Type 0 where
    pub sized : Sized held' iters
    pub in_order : next ≤ length R.order
    pub in_limit : rounds ≤ round_limit
    pub busy_is : busy ≡ any_held held' R.lanes
    pub is_ready : Ready held' iters
    pub log : List (Left X)
    pub log_is : Kept R log memory
    pub safe : Safe R.words n (rows R.lanes held' iters col) (stock R next log)
    pub goes : settle (round_limit - rounds) (made held' iters col next rounds log) ≡ result
