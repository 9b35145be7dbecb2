-- What a record's numbers are written from (Fields: what they are read as): a record's conversion to numbers, `before_bch` and `with_results` go by it.
use Rattle.std.specs.Prelude.{List, [], ◌∷◌, ℕ}
use Rattle.decoder_words.specs.declared.Noted.{Noted}

-- the numbers of a record
abbrev pub numbers : Noted → List ℕ
numbers r = r.state ∷ r.iterations ∷ r.unsatisfied ∷ r.check ∷ r.bch ∷ r.changed ∷ []

-- "BCH result (corrected count, or lost; 0 before finishing)": a record to which it and the count of changed bits have not come yet
abbrev pub before_bch : ℕ → ℕ → ℕ → ℕ → Noted
before_bch state iterations unsatisfied check = record { state = state; iterations = iterations; unsatisfied = unsatisfied; check = check; bch = 0; changed = 0 }

-- a record with both
abbrev pub with_results : Noted → ℕ → ℕ → Noted
with_results r bch changed =
    record { state = r.state; iterations = r.iterations; unsatisfied = r.unsatisfied; check = r.check; bch = bch; changed = changed }
