-- When a run is refused, by what is lent, and what a refused run answers.
use Rattle.std.specs.Prelude.{List, ℕ, ℤ, length, Result, Ok, Err}
use Rattle.refusal.specs.Number.{refusal_of}
use Rattle.refusal.specs.declared.Refusal.{Refusal}
use Rattle.decoder_plan.specs.declared.Settings.{Settings}
use Rattle.decoder_refuse.specs.Refusal.{first_refusal}
use Rattle.decoder_refuse.specs.declared.Lent.{Lent}
use Rattle.decoder.specs.declared.Ran.{Ran}

-- how much is lent, with room for the records of so many words
abbrev pub lent_of : List ℤ → ℕ → List ℕ → List ℤ → List ℕ → Lent
lent_of soft room out work lists = record { soft = length soft; room = room; out = length out; work = length work; lists = length lists }

-- the first refusal that applies, 0 for none
unfoldable pub run_refusal : ℕ → List ℕ → List ℕ → List ℤ → Settings → ℕ → List ℕ → List ℤ → List ℕ → ℕ
run_refusal n lens addrs soft set room out work lists = first_refusal n lens addrs set (lent_of soft room out work lists)

-- what a refused run answers
abbrev pub nothing : ℕ → Result Ran Refusal
nothing number = Err (refusal_of number)

-- how many words a run has, none where it is refused
abbrev pub words_ran : Result Ran Refusal → ℕ
words_ran (Ok r) = r.words
words_ran (Err e) = 0
