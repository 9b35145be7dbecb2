-- A word's outcome, from its values: "its hard decisions at the end, with the BCH part as BCH leaves it; met if every check was met before
-- BCH, else unmet; its iterations; how many checks were unsatisfied before BCH; the BCH result"; and the bits that the LDPC step changed.
use Rattle.std.specs.Prelude.{Bool, cond, ◌||◌, List, [], ◌∷◌, ◌++◌, ℕ, zero, suc, ◌+◌, eqb, ℤ, pos, get_or, take, drop, Option, Some, None, Result, Ok, Err}
use Rattle.iteration.specs.Check.{Word, within}
use Rattle.iteration.specs.Iteration.{Code, hard, unsatisfied_count}
use Rattle.schedule.specs.Alone.{after, ends}
use Rattle.decoder_plan.specs.declared.Part.{Part}
use Rattle.bch.specs.Distance.{distance}
use Rattle.bch.specs.Answers.{decoded_of, word_out}
use Rattle.refusal.specs.declared.Refusal.{Refusal}

-- "A word alone starts with its soft values as L, every message 0": its n soft values
unfoldable pub begin : ℕ → List ℤ → Word
begin n soft = record { L = within n (λ v. get_or soft v (pos 0)); r = λ e. pos 0 }

-- its hard decisions, "1 where L < 0": m of them from variable v on
unfoldable pub bits_from : Word → ℕ → ℕ → List ℕ
bits_from x v zero = []
bits_from x v (suc m) = hard (x.L v) ∷ bits_from x (suc v) m

unfoldable pub bits_of : ℕ → Word → List ℕ
bits_of n x = bits_from x 0 n

-- "positions where the hard decisions, before BCH, differ from those of the input": of a word that began with the values x₀ and has the values x
unfoldable pub changed_of : ℕ → Word → Word → ℕ
changed_of n x₀ x = distance (bits_of n x₀) (bits_of n x)

-- how many of the p checks its values leave unsatisfied, and whether they meet every check
unfoldable pub unmet_of : Code → ℕ → Word → ℕ
unmet_of code p x = unsatisfied_count code p x.L

unfoldable pub met_of : Code → ℕ → Word → Bool
met_of code p x = eqb (unmet_of code p x) 0

-- "A finished word's BCH part, `first` and `length`, is then corrected inside the output."
abbrev pub part_of : Part → List ℕ → List ℕ
part_of part b = take part.length (drop part.first b)

unfoldable pub corrected : Part → List ℕ → List ℕ
corrected part b = take part.first b ++ (word_out (part_of part b) ++ drop (part.first + part.length) b)

-- "BCH result (corrected count, or lost)": lost is 4,294,967,295. A run's part is never refused (proofs/Corrected: `answered`)
unfoldable pub lost : ℕ
lost = 4294967295

unfoldable pub bch_result : Result (Option ℕ) Refusal → ℕ
bch_result (Ok (Some k)) = k
bch_result (Ok None) = lost
bch_result (Err refusal) = lost

unfoldable pub bch_of : Part → List ℕ → ℕ
bch_of part b = bch_result (decoded_of (part_of part b))

-- a finished word's state: "2 met, 3 unmet"
abbrev pub state_of : Bool → ℕ
state_of met = cond met 2 3

unfoldable pub is_finished : ℕ → Bool
is_finished state = eqb state 2 || eqb state 3

-- whether a record's BCH result says that the word is lost; a word that waits or is held has 0 there
unfoldable pub is_lost : ℕ → Bool
is_lost bch = eqb bch lost

-- the bits that BCH corrected, if the word is not lost
unfoldable pub unless_lost : ℕ → Option ℕ
unless_lost bch = cond (is_lost bch) None (Some bch)

-- "Kept now needs state met and BCH accepted"; "BCH accepted it but LDPC left checks unmet. Such a word becomes doubtful"; "A finished word is lost if
-- BCH refuses", whatever its state: what a word's record adds to the tally's `kept`, `doubtful` and `lost`. Words that wait or are held are none of them.
unfoldable pub kept_of : ℕ → ℕ → ℕ
kept_of state bch = cond (eqb state 2) (cond (is_lost bch) 0 1) 0

unfoldable pub doubtful_of : ℕ → ℕ → ℕ
doubtful_of state bch = cond (eqb state 3) (cond (is_lost bch) 0 1) 0

unfoldable pub lost_of : ℕ → ℕ → ℕ
lost_of state bch = cond (is_finished state) (cond (is_lost bch) 1 0) 0

-- all of a finished word's record but the named check, and its bits
pub record Outcome : Type 0 where
  pub bits : List ℕ
  pub state : ℕ
  pub iterations : ℕ
  pub unsatisfied : ℕ
  pub bch : ℕ
  pub changed : ℕ

-- the outcome of a word that began with the values x₀ and ends with the values x after i iterations
unfoldable pub outcome_of : Code → ℕ → ℕ → Part → Word → Word → ℕ → Outcome
outcome_of code n p part x₀ x i =
    record {
      bits = corrected part (bits_of n x);
      state = state_of (met_of code p x);
      iterations = i;
      unsatisfied = unmet_of code p x;
      bch = bch_of part (bits_of n x);
      changed = changed_of n x₀ x;
    }

-- Its outcome alone: from its soft values, the code and the settings. Lane count, round limit and other words cannot occur here.
unfoldable pub alone : Code → ℕ → ℕ → (Word → Word) → ℕ → Part → List ℤ → Outcome
alone code n p iterate iteration_limit part soft =
    let e = ends (begin n soft) iterate (met_of code p) iteration_limit in
    outcome_of code n p part (begin n soft) (after (begin n soft) iterate e) e
