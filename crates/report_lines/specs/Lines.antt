-- What the report writes: the scope's "Report text", behind the input.
use Rattle.std.specs.Prelude.{Bool, cond, List, [], ◌∷◌, ◌++◌, ℕ, zero, suc, Option, Some, None}
use Rattle.laws.specs.Definitions.{decimal}
use Rattle.decoder_plan.specs.declared.Ending.{Ending}
use Rattle.decoder_plan.specs.declared.Ending.TheVariants.{Finished, Stopped}
use Rattle.report_form.specs.Description.{line}
use Rattle.report_lines.specs.declared.WordResult.{WordResult}

-- "ending (`finished` or `stopped`)"
abbrev pub ending_text : Ending → List ℕ
ending_text Stopped = 115 ∷ 116 ∷ 111 ∷ 112 ∷ 112 ∷ 101 ∷ 100 ∷ []
ending_text Finished = 102 ∷ 105 ∷ 110 ∷ 105 ∷ 115 ∷ 104 ∷ 101 ∷ 100 ∷ []

-- "state (`waiting`, `held`, `met`, `unmet`)", by the record's numbers 0, 1, 2, 3
abbrev pub state_text : ℕ → List ℕ
state_text zero = 119 ∷ 97 ∷ 105 ∷ 116 ∷ 105 ∷ 110 ∷ 103 ∷ []
state_text (suc zero) = 104 ∷ 101 ∷ 108 ∷ 100 ∷ []
state_text (suc (suc zero)) = 109 ∷ 101 ∷ 116 ∷ []
state_text (suc (suc (suc n))) = 117 ∷ 110 ∷ 109 ∷ 101 ∷ 116 ∷ []

-- "BCH (`-` if lost)", else the corrected count
abbrev pub bch_text : Option ℕ → List ℕ
bch_text None = 45 ∷ []
bch_text (Some corrected) = decimal corrected

abbrev pub unless_lost : Bool → ℕ → Option ℕ
unless_lost lost corrected = cond lost None (Some corrected)

-- what a line says of a word
abbrev pub result_with : ℕ → ℕ → ℕ → Bool → ℕ → ℕ → WordResult
result_with state iterations unsatisfied lost corrected changed =
    record {
      state = state;
      iterations = iterations;
      unsatisfied = unsatisfied;
      corrected = unless_lost lost corrected;
      changed = changed;
    }

-- "First line: ending, rounds"
abbrev pub first_line : Ending → ℕ → List ℕ
first_line ending rounds = line (ending_text ending) (decimal rounds ∷ [])

-- "Then word, state, iterations, unsatisfied, BCH"; of the bits changed by LDPC: "Report lines gain it as a last field"
abbrev pub result_line : ℕ → WordResult → List ℕ
result_line word r = line (decimal word) (state_text r.state ∷ decimal r.iterations ∷ decimal r.unsatisfied ∷ bch_text r.corrected ∷ decimal r.changed ∷ [])

abbrev pub result_lines : ℕ → List WordResult → List ℕ
result_lines word [] = []
result_lines word (r ∷ rs) = result_line word r ++ result_lines (suc word) rs

-- the whole output of an accepted run, its words numbered from 0
abbrev pub render_result : Ending → ℕ → List WordResult → List ℕ
render_result ending rounds rs = first_line ending rounds ++ result_lines 0 rs

-- "A refusal prints `refused`, tab, number"
abbrev pub refused_line : ℕ → List ℕ
refused_line number = line (114 ∷ 101 ∷ 102 ∷ 117 ∷ 115 ∷ 101 ∷ 100 ∷ []) (decimal number ∷ [])
