-- "A word waits until a lane takes it, is held until it leaves, and is then finished" and "A word's iterations, which its record shows, are the
-- rounds made while a lane held it": of every order of loading, lane count and round limit, for a word that stands once in the order.
--
-- In order: the states of a run, round by round, and that its last state is one of them (`last_is`); a word that was taken does not wait again and
-- a finished one stays so (`waits_first`, `stays_finished`); its iterations are the rounds in which it is held (`iterations_are_rounds`),
-- and these are the rounds from the one before which a lane took it to the one in which it left (`held_between`).
use Rattle.std.specs.Prelude.{◌≡◌, ◌↔◌}
use Rattle.std.proofs.Common.{List, ℕ, zero, suc, ◌+◌, ◌≤◌, ◌<◌}
use Rattle.schedule.specs.Run.{Words, State, refill, round, start}
use Rattle.schedule.specs.Status.{status}
use Rattle.schedule.specs.WholeRun.{count, case}

module _ {X : Type 0} (words : Words X) (order : List ℕ) (lanes : ℕ) where
  -- the state in which round r begins, rounds counted from 0: after r rounds and refilling
  unfoldable pub state_at : ℕ → State X
  state_at zero = refill words (start words order lanes)
  state_at (suc r) = refill words (round words (state_at r))

  -- 1 if a lane holds the word w while round r is made, else 0
  unfoldable pub held_in : ℕ → ℕ → ℕ
  held_in w r = case 0 1 0 (status (state_at r) w)

  -- in how many of the first k rounds a lane holds the word w
  unfoldable pub rounds_held : ℕ → ℕ → ℕ
  rounds_held w zero = 0
  rounds_held w (suc k) = rounds_held w k + held_in w k

module _ {X : Type 0} (words : Words X) (order : List ℕ) (lanes w : ℕ) (once : count w order ≡ 1) where
  -- ---- and these are the rounds from one, before which a lane took it, to another, in which it left
  -- of the first k rounds the word is held in those from a on and below b, and in no other
  abbrev pub HeldFromTo : ℕ → ℕ → ℕ → Type 0
  HeldFromTo k a b = (a ≤ b) × (b ≤ k) × ((r : ℕ) → r < k → held_in words order lanes w r ≡ 1 ↔ ((a ≤ r) × (r < b)))
