-- An accepted run, and what it says of a word: what the auditor's two questions are asked of (Audit has the answers).
use Rattle.std.specs.Prelude.{◌≡◌, List, [], ℕ, ◌/◌, ℤ, length, Ok}
use Rattle.iteration.specs.Check.{Word}
use Rattle.ldpc_shape.specs.Shape.{p_of, sizes_of}
use Rattle.iteration.specs.Code.{code_of}
use Rattle.schedule.specs.Alone.{after, ends}
use Rattle.outcome.specs.Outcome.{Outcome, begin, bits_of, changed_of, met_of, alone}
use Rattle.decoder_plan.specs.Plan.{plan_of}
use Rattle.decoder_plan.specs.declared.Plan.{Plan}
use Rattle.decoder_plan.specs.declared.Settings.{Settings}
use Rattle.decoder_words.specs.Fields.{fields, first_records}
use Rattle.decoder_words.specs.Book.{View, book, view}
use Rattle.decoder_words.specs.Run.{iterate_of}
use Rattle.decoder.specs.Refused.{run_refusal}
use Rattle.decoder.specs.Runs.{Runs}
use Rattle.decoder.specs.declared.Ran.{Ran}

-- "The settings are iteration limit, schedule, step, offset, `first` and `length`; lane count, round limit and other words play no part."
pub record SameSettings (s t : Settings) : Type 0 where
  pub limit : s.limits.iterations ≡ t.limits.iterations
  pub schedule : s.schedule ≡ t.schedule
  pub offset : s.offset ≡ t.offset
  pub part : s.part ≡ t.part

module _ (n : ℕ) (lens addrs : List ℕ) where
  -- an accepted run of the code: its words, its settings, the slices before and after it, and what it gave
  pub record AcceptedRun : Type 0 where
    pub soft : List ℤ
    pub set : Settings
    pub out : List ℕ
    pub out' : List ℕ
    pub records : List ℕ
    pub records' : List ℕ
    pub work : List ℤ
    pub work' : List ℤ
    pub lists : List ℕ
    pub lists' : List ℕ
    pub ran : Ran
    pub runs : Runs n lens addrs soft set out out' records records' work work' lists lists' (Ok ran)
    pub accepted : run_refusal n lens addrs soft set (length records / fields) out work lists ≡ 0

  -- what a run says of word w: its record's fields and its bits
  abbrev pub says : AcceptedRun → ℕ → View
  says A w = view n (book (first_records (length A.soft / n) A.records') A.out') w

  -- the plan of so many soft values; one iteration of a word by the settings
  abbrev pub plan_by : Settings → List ℤ → Plan
  plan_by set soft = plan_of (sizes_of n lens addrs) (length soft) set

  abbrev pub iterate_by : Settings → Word → Word
  iterate_by set = iterate_of (plan_by set []) (code_of n lens addrs)

  -- a word's iterations at its end alone, its outcome alone, and its hard decisions at its end, before BCH
  abbrev pub at_end : Settings → List ℤ → ℕ
  at_end set own = ends (begin n own) (iterate_by set) (met_of (code_of n lens addrs) (p_of n lens)) set.limits.iterations

  abbrev pub alone_by : Settings → List ℤ → Outcome
  alone_by set own = alone (code_of n lens addrs) n (p_of n lens) (iterate_by set) set.limits.iterations set.part own

  abbrev pub bits_alone : Settings → List ℤ → List ℕ
  bits_alone set own = bits_of n (after (begin n own) (iterate_by set) (at_end set own))

  -- the bits changed in a word alone after i iterations
  abbrev pub changed_alone : Settings → List ℤ → ℕ → ℕ
  changed_alone set own i = changed_of n (begin n own) (after (begin n own) (iterate_by set) i)
