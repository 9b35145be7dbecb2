-- From the core's run to the metered one. Proofs, not specs, since a wrong `tally_of` shall be refused for what it means
-- (must-fail/refused_run_clears_the_tally.edit).
use Rattle.std.specs.Prelude.{List, ◌≡◌, ◌≢◌, refl, ℕ, ◌/◌, ℤ, length, Result, Ok, Err}
use Rattle.std.proofs.Common.{sym, ◌∙◌, ap, arith}
use Rattle.refusal.specs.Number.{number_of}
use Rattle.refusal.specs.declared.Refusal.{Refusal}
use Rattle.decoder_plan.specs.declared.Settings.{Settings}
use Rattle.decoder_words.specs.Fields.{fields}
use Rattle.decoder_words.specs.declared.Noted.{Noted}
use Rattle.decoder.specs.Refused.{run_refusal, nothing, words_ran}
use Rattle.decoder.specs.declared.Ran.{Ran}
use Rattle.meter.specs.declared.Tally.{Tally}
use Rattle.meter.specs.Metered.{Metered, blank, answer_of, records_from, records_of, counted, tally_of}
use Rattle.meter.specs.Recording.{RecordedRun, numbers_of}
use Rattle.meter.specs.Laws.{records_same, blank_room, numbers_record}

answer_number : (x : Result Ran Refusal) → number_of (answer_of x) ≡ number_of x
answer_number (Ok r) = refl
answer_number (Err e) = refl

-- an accepted run counts afresh, whatever the tally was
pub counted_afresh : (r : Ran) (t : Tally) → tally_of (Ok r) t ≡ record { rounds = r.rounds; loaded = r.loaded; iterations = r.given; kept = r.kept; lost = r.lost; doubtful = r.doubtful }
counted_afresh r t = refl

-- a refused run leaves the tally as it was
pub counted_refused : (x : Result Ran Refusal) (t : Tally) → number_of x ≢ 0 → tally_of x t ≡ t
counted_refused (Ok r) t some = absurd (some refl)
counted_refused (Err e) t some = refl

-- it has no words, and so changes no records
pub metered : {n : ℕ} {lens addrs : List ℕ} {soft : List ℤ} {set : Settings} {out out' : List ℕ} {rs rs' : List Noted} {t t' : Tally} {own : List ℕ} {work work' : List ℤ} {lists lists' : List ℕ}
    (x : Result Ran Refusal) → RecordedRun n lens addrs soft set (length rs) out out' own work work' lists lists' x → rs' ≡ records_of x own rs → t' ≡ tally_of x t
    → Metered n lens addrs soft set out out' rs rs' t t' work work' lists lists' (answer_of x)
metered {n} {lens} {addrs} {soft} {set} {out} {out'} {rs} {rs'} {t} {t'} {own} {work} {work'} {lists} {lists'} x R records tallies =
    let words = words_ran x in
    let numbers = numbers_of (length rs) words own in
    let number : ℕ = run_refusal n lens addrs soft set (length rs) out work lists in
    let is : run_refusal n lens addrs soft set (length (blank (length rs)) / fields) out work lists ≡ number =
    ap (λ (k : ℕ). run_refusal n lens addrs soft set k out work lists) (blank_room (length rs)) in
    let number_is = answer_number x ∙ R.runs.number ∙ is in
    record {
      ran = x;
      numbers = numbers;
      runs = R.runs;
      answers = refl;
      number = number_is;
      records = records ∙ records_same own numbers 0 words rs (λ i h. numbers_record (length rs) words own R.numbers_long i (omega (arith, h)));
      tallies = tallies;
      refused = λ some.
          let q = R.runs.refused (λ z. some (sym is ∙ z)) in
          let answer_is = q.answer ∙ ap nothing is in (
            ap answer_of answer_is,
            q.out_is,
            records ∙ ap (λ (y : Result Ran Refusal). records_of y own rs) answer_is,
            tallies ∙ counted_refused x t (λ z. some (sym is ∙ sym R.runs.number ∙ z)),
            q.work_is,
            q.lists_is,
          );
    }

-- an accepted run whose records are stored one by one
pub metered_stored : {n : ℕ} {lens addrs : List ℕ} {soft : List ℤ} {set : Settings} {out out' : List ℕ} {rs rs' : List Noted} {t t' : Tally} {own : List ℕ} {work work' : List ℤ} {lists lists' : List ℕ}
    (r : Ran) → RecordedRun n lens addrs soft set (length rs) out out' own work work' lists lists' (Ok r) → (w : ℕ) → rs' ≡ records_from own 0 w rs → w ≡ r.words → t' ≡ counted r
    → Metered n lens addrs soft set out out' rs rs' t t' work work' lists lists' (Ok r.ending)
metered_stored {rs = rs} {own = own} r R w stored all tallies = metered (Ok r) R (stored ∙ ap (λ (k : ℕ). records_from own 0 k rs) all) tallies
