-- One record more: what `push` answers and leaves, whatever window and ring hold; and a whole series of records. The request has no ring, no 13 and
-- no word on windows that were altered: how the figures are kept is ours (docs/DECISIONS.md).
use Rattle.std.specs.Prelude.{◌≡◌, ℕ, ◌+◌, ◌-◌, ◌*◌, ◌%◌, ◌^◌, ◌<◌, cond, List, [], ◌∷◌, ◌++◌, length, ◌==◌, nat_lt, slice_index, slice_set, Result, Ok}
use Rattle.outcome.specs.Outcome.{is_finished}
use Rattle.window.specs.declared.Record.{Record}
use Rattle.window.specs.declared.Window.{Window}
use Rattle.refusal.specs.Number.{number_of, answer}
use Rattle.refusal.specs.declared.Refusal.{Refusal}
use Rattle.window.specs.Figures.{finished_in, lost_by, iterations_by, corrected_by, doubtful_by, Shows}

-- ---- refusals, a number or 0. "It refuses with 14 a width that is 0 or above 4,096, as the first of its checks"; then 13, a ring of fewer than 3 numbers
-- for each of w records. What the record holds plays no part
unfoldable pub push_refusal : ℕ → ℕ → ℕ
push_refusal w room = cond (w == 0) 14 (cond (nat_lt 4096 w) 14 (cond (nat_lt room (3 * w)) 13 0))

-- ---- the ring: slot s has the three numbers from 3 s on
unfoldable pub record_in : List ℕ → ℕ → Record
record_in ring s = record { state = slice_index ring (3 * s); iterations = slice_index ring (3 * s + 1); bch = slice_index ring (3 * s + 2) }

unfoldable pub written : List ℕ → ℕ → Record → List ℕ
written ring s r = slice_set (slice_set (slice_set ring (3 * s) r.state) (3 * s + 1) r.iterations) (3 * s + 2) r.bch

-- the slot that a record takes; a place that is none, of a window that was altered, is taken as 0
unfoldable pub slot_of : ℕ → ℕ → ℕ
slot_of w at = cond (nat_lt at w) at 0

-- the place behind it, round the ring
unfoldable pub next_at : ℕ → ℕ → ℕ
next_at w s = cond (s + 1 == w) 0 (s + 1)

-- how many words are covered then: one more, up to the width
unfoldable pub next_words : ℕ → ℕ → ℕ
next_words w words = cond (nat_lt words w) (words + 1) w

-- the record that leaves a window of so many words: of a full one the record in the slot that is taken, else none
abbrev pub none : Record
none = record { state = 0; iterations = 0; bch = 0 }

unfoldable pub leaving : ℕ → ℕ → List ℕ → ℕ → Record
leaving w words ring s = cond (nat_lt words w) none (record_in ring s)

-- a sum with m more and l less, modulo 2^64
unfoldable pub slid : ℕ → ℕ → ℕ → ℕ
slid sum m l = (sum + m + (2 ^ 64 - l)) % 2 ^ 64

-- the window W when the record r takes slot s, which `old` leaves
unfoldable pub moved : ℕ → Window → ℕ → Record → Record → Window
moved w W s old r =
    record {
      at = next_at w s;
      words = next_words w W.words;
      lost = slid W.lost (lost_by r) (lost_by old);
      iterations = slid W.iterations (iterations_by r) (iterations_by old);
      corrected = slid W.corrected (corrected_by r) (corrected_by old);
      doubtful = slid W.doubtful (doubtful_by r) (doubtful_by old);
    }

-- ---- what is handed on from record to record: the window and its ring
pub record Handed : Type 0 where
  pub window : Window
  pub ring : List ℕ

-- "begins empty": zeros, whatever the ring holds
abbrev pub empty : List ℕ → Handed
empty ring = record { window = record { at = 0; words = 0; lost = 0; iterations = 0; corrected = 0; doubtful = 0 }; ring = ring }

unfoldable pub taken : ℕ → Handed → Record → Handed
taken w h r =
    let s = slot_of w h.window.at in
    record { window = moved w h.window s (leaving w h.window.words h.ring s) r; ring = written h.ring s r }

-- "An unfinished record is passed over: the figures after it are those before it."
unfoldable pub pushed : ℕ → Handed → Record → Handed
pushed w h r = cond (is_finished r.state) (taken w h r) h

-- "handed on unaltered at one width": through the records of a series, one after the other
unfoldable pub series : ℕ → Handed → List Record → Handed
series w h [] = h
series w h (r ∷ rs) = series w (pushed w h r) rs

-- what a record's figures are made of are u32s, as all that can be handed in are
abbrev pub Fit : List Record → Type 0
Fit [] = Unit
Fit (r ∷ rs) = (r.iterations < 2 ^ 32) × ((r.bch < 2 ^ 32) × Fit rs)

-- "Where a window begins empty and is handed on unaltered at one width, each figure equals one worked out afresh from those records": of the window W' that
-- the record r makes of what was handed on, where that is what the records rs left, of any number and whatever the ring held at first
abbrev pub Afresh : ℕ → Handed → Record → Window → Type 0
Afresh w h r W' = (rs : List Record) (ring₀ : List ℕ) → Fit (rs ++ r ∷ []) → h ≡ series w (empty ring₀) rs → Shows w (finished_in (rs ++ r ∷ [])) W'

-- ---- `push`
unfoldable pub pushed_of : ℕ → Handed → Record → Result Window Refusal
pushed_of w h r = answer (push_refusal w (length h.ring)) (pushed w h r).window

-- a refused call changes nothing
unfoldable pub ring_out : ℕ → Handed → Record → List ℕ
ring_out w h r = cond (push_refusal w (length h.ring) == 0) (pushed w h r).ring h.ring

-- what `push` promises of the window W and its ring; ring' is the ring at exit, p the answer
pub record Pushes (w : ℕ) (W : Window) (r : Record) (ring ring' : List ℕ) (p : Result Window Refusal) : Type 0 where
  pub answer : p ≡ pushed_of w (record { window = W; ring = ring }) r
  pub number : number_of p ≡ push_refusal w (length ring)
  pub ring_is : ring' ≡ ring_out w (record { window = W; ring = ring }) r
  pub afresh : (W' : Window) → p ≡ Ok W' → Afresh w (record { window = W; ring = ring }) r W'
