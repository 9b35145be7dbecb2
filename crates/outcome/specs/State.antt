-- A word's state and its number in a record.
use Rattle.std.specs.Prelude.{◌≡◌, refl, Bool, true, false, cond, ℕ}
use Rattle.outcome.specs.declared.State.{State}
use Rattle.outcome.specs.declared.State.TheVariants.{Waiting, Held, Met, Unmet}
use Rattle.outcome.specs.Outcome.{state_of}

-- "state (0 waiting, 1 held, 2 met, 3 unmet)"
abbrev pub number : State → ℕ
number Waiting = 0
number Held = 1
number Met = 2
number Unmet = 3

-- a finished word's
abbrev pub ended : Bool → State
ended met = cond met Met Unmet

-- whose number is the finished word's
pub ended_number : (met : Bool) → number (ended met) ≡ state_of met
ended_number true = refl
ended_number false = refl
