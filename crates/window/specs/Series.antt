-- The figures after any series of records: `series_shows`, one theorem over every figure.
use Rattle.std.specs.Prelude.{◌≡◌, ℕ, zero, suc, ◌+◌, ◌-◌, ◌*◌, ◌%◌, ◌^◌, ◌<◌, ◌≤◌, Bool, true, false, cond, List, [], ◌∷◌, ◌++◌, length, eqb, get_or, drop, nat_lt, slice_index_or, refl}
use Rattle.std.proofs.Math.Path.{sym, ap, subst}
use Rattle.std.proofs.Common.{ap₂, ◌∙◌, append_assoc, append-nil, mod-lt, mod-eq_of_lt, lt-ltb, le-ltb, length-append, get_or-drop, drop-cons, get_or-append-add}
use Rattle.std.proofs.Math.Nat.{mul-le-mul_right}
use Rattle.std.proofs.Math.Decide.{ℕ_discrete, dec_le, dec_lt}
use native.Mathlib.Omega.{arith}
use Rattle.std.proofs.Math.ListN.{length-drop, get_or-append}
use Rattle.std.proofs.Math.Seq.{drop-nil}
use Rattle.std.proofs.lemmas.List.{drop-append-le}
use Rattle.std.specs.List.{All}
use Rattle.std.proofs.lemmas.List.Elements.{All-drop}
use Rattle.schedule.specs.Status.{sum}
use Rattle.outcome.specs.Outcome.{is_finished, is_lost, kept_of, doubtful_of, lost_of, lost}
use Rattle.outcome.specs.Laws.{finished_of, one_of_three}
use Rattle.window.specs.declared.Record.{Record}
use Rattle.window.specs.declared.Window.{Window}
use Rattle.window.specs.Figures.{finished_in, last_of, lost_by, iterations_by, corrected_by, doubtful_by, Shows}
use Rattle.window.specs.Push.{none, record_in, written, slot_of, next_at, next_words, leaving, slid, moved, Handed, empty, taken, pushed, series, Fit}
use Rattle.window.specs.Ring.{next_mod, apart, oldest_slot, written_long, written_here, written_else}

-- ---- sums
abbrev largest : ℕ
largest = 4294967295

sum_snoc : (f : Record → ℕ) (rs : List Record) (r : Record) → sum f (rs ++ r ∷ []) ≡ sum f rs + f r
unfolding sum
sum_snoc f [] r = omega arith
sum_snoc f (q ∷ rs) r = omega (arith, sum_snoc f rs r)

sum_le : (f : Record → ℕ) (rs : List Record) → ((i : ℕ) → i < length rs → f (slice_index_or rs i none) ≤ largest) → sum f rs ≤ length rs * largest
unfolding sum
sum_le f [] h = omega arith
sum_le f (r ∷ rs) h = omega (arith, h 0 (omega arith), sum_le f rs (λ i q. h (suc i) (omega arith)))

slid_is : (s m l : ℕ) → s + m < 2 ^ 64 → l ≤ s + m → slid s m l ≡ s + m - l
unfolding slid
slid_is s m l h g = omega arith

module _ (f : Record → ℕ) (w : ℕ) (few : w ≤ 4096) (rs : List Record) (small : (i : ℕ) → i < length rs → f (slice_index_or rs i none) ≤ largest) where
  -- what is counted fits
  pub figure_le : sum f (last_of w rs) ≤ 4096 * largest
  unfolding last_of
  figure_le =
      let d = drop (length rs - w) rs in
      let k : length d ≤ 4096 = omega (arith, length-drop (length rs - w) rs) in
      let b : sum f d ≤ length d * largest =
      sum_le f d (λ i q. subst (λ (x : Record). f x ≤ largest) (sym (get_or-drop (length rs - w) rs i none)) (small (length rs - w + i) (omega (arith, q, length-drop (length rs - w) rs)))) in
      omega (arith, mul-le-mul_right {m = length d} {n = 4096} largest k)

module _ (f : Record → ℕ) (w : ℕ) (some : 0 < w) (few : w ≤ 4096) (rs : List Record) (r : Record) (small : (i : ℕ) → i < length rs → f (slice_index_or rs i none) ≤ largest) (small_r : f r ≤ largest) where
  abbrev L : ℕ
  L = length rs

  long : length (rs ++ r ∷ []) ≡ L + 1
  long = length-append rs (r ∷ [])

  fits : sum f (drop (L - w) rs) ≤ 4096 * largest
  unfolding last_of
  fits = figure_le f w few rs small

  -- the window is not yet full
  grows : L < w → slid (sum f (last_of w rs)) (f r) 0 ≡ sum f (last_of w (rs ++ r ∷ []))
  unfolding last_of
  grows h =
      let a : length (rs ++ r ∷ []) - w ≡ 0 = omega (arith, long) in
      let b : L - w ≡ 0 = omega arith in
      slid_is (sum f (drop (L - w) rs)) (f r) 0 (omega (arith, fits, small_r)) (omega arith)
      ∙ less (sum f (drop (L - w) rs) + f r)
      ∙ ap (λ (k : ℕ). sum f (drop k rs) + f r) b
      ∙ sym (ap (λ (k : ℕ). sum f (drop k (rs ++ r ∷ []))) a ∙ sum_snoc f rs r)
    where
      less : (x : ℕ) → x - 0 ≡ x
      less x = omega arith

  -- it is full: the oldest leaves
  slides : w ≤ L → slid (sum f (last_of w rs)) (f r) (f (slice_index_or rs (L - w) none)) ≡ sum f (last_of w (rs ++ r ∷ []))
  unfolding last_of sum
  slides h =
      let j = L - w in
      let a : length (rs ++ r ∷ []) - w ≡ suc j = omega (arith, long) in
      let inside : j < L = omega arith in
      let old : sum f (drop j rs) ≡ f (slice_index_or rs j none) + sum f (drop (suc j) rs) = ap (sum f) (drop-cons rs j none inside) in
      let new : sum f (drop (suc j) (rs ++ r ∷ [])) ≡ sum f (drop (suc j) rs) + f r = ap (sum f) (drop-append-le (suc j) rs (r ∷ []) (omega arith)) ∙ sum_snoc f (drop (suc j) rs) r in
      let flat : sum f (drop j rs) + f r - f (slice_index_or rs j none) ≡ sum f (drop (suc j) rs) + f r = omega (arith, old) in
      slid_is (sum f (drop j rs)) (f r) (f (slice_index_or rs j none)) (omega (arith, fits, small_r)) (omega (arith, old)) ∙ flat
      ∙ sym (ap (λ (k : ℕ). sum f (drop k (rs ++ r ∷ []))) a ∙ new)

-- ---- what a window and its ring hold of the finished records so far
record Small (r : Record) : Type 0 where
  iterations : r.iterations < 2 ^ 32
  bch : r.bch < 2 ^ 32

record Holds (w : ℕ) (rs : List Record) (h : Handed) : Type 0 where
  room : 3 * w ≤ length h.ring
  at : h.window.at ≡ length rs % w
  shown : Shows w rs h.window
  held : (i : ℕ) → i < length rs → length rs ≤ i + w → record_in h.ring (i % w) ≡ slice_index_or rs i none
  small : (i : ℕ) → i < length rs → Small (slice_index_or rs i none)

sum_none : (f : Record → ℕ) (w : ℕ) → 0 ≡ sum f (last_of w [])
unfolding last_of sum
sum_none f w = sym (ap (sum f) (drop-nil {A = Record} (0 - w)))

length_last : (w : ℕ) (rs : List Record) → length (last_of w rs) ≡ length rs - (length rs - w)
unfolding last_of
length_last w rs = length-drop (length rs - w) rs

holds_none : (w : ℕ) (ring : List ℕ) → 0 < w → 3 * w ≤ length ring → Holds w [] (empty ring)
holds_none w ring some room =
    record {
      room = room;
      at = sym (mod-eq_of_lt some);
      shown = record { words = omega (arith, length_last w []); lost = sum_none lost_by w; iterations = sum_none iterations_by w; corrected = sum_none corrected_by w; doubtful = sum_none doubtful_by w };
      held = λ i q _. absurd (omega (arith, q));
      small = λ i q. absurd (omega (arith, q));
    }

-- ---- the four figures: a record of zeros adds nothing, and no record adds more than a u32
lost_none : lost_by none ≡ 0
unfolding lost_by lost_of is_finished
lost_none = refl

iterations_none : iterations_by none ≡ 0
unfolding iterations_by
iterations_none = refl

corrected_none : corrected_by none ≡ 0
unfolding corrected_by is_lost lost
corrected_none = refl

doubtful_none : doubtful_by none ≡ 0
unfolding doubtful_by doubtful_of
doubtful_none = refl

lost_small : (r : Record) → Small r → lost_by r ≤ largest
unfolding lost_by lost_of
lost_small r h = at (is_finished r.state) (is_lost r.bch)
  where
    at : (a b : Bool) → cond a (cond b 1 0) 0 ≤ largest
    at true true = omega arith
    at true false = omega arith
    at false b = omega arith

iterations_small : (r : Record) → Small r → iterations_by r ≤ largest
unfolding iterations_by
iterations_small r h = omega (arith, h.iterations)

corrected_small : (r : Record) → Small r → corrected_by r ≤ largest
unfolding corrected_by
corrected_small r h = at (is_lost r.bch)
  where
    at : (b : Bool) → cond b 0 r.bch ≤ largest
    at true = omega arith
    at false = omega (arith, h.bch)

doubtful_small : (r : Record) → Small r → doubtful_by r ≤ largest
unfolding doubtful_by doubtful_of
doubtful_small r h = at (eqb r.state 3) (is_lost r.bch)
  where
    at : (a b : Bool) → cond a (cond b 0 1) 0 ≤ largest
    at true true = omega arith
    at true false = omega arith
    at false b = omega arith

-- ---- one finished record more
module _ (w : ℕ) (some : 0 < w) (few : w ≤ 4096) (rs : List Record) (h : Handed) (r : Record) (sm : Small r) (H : Holds w rs h) where
  abbrev N : ℕ
  N = length rs

  abbrev W : Window
  W = h.window

  abbrev S : ℕ
  S = slot_of w W.at

  abbrev old : Record
  old = leaving w W.words h.ring S

  place : S ≡ N % w
  unfolding slot_of
  place = ap (λ (k : ℕ). cond (nat_lt k w) k 0) H.at ∙ ap (λ (b : Bool). cond b (N % w) 0) (lt-ltb (N % w) w (mod-lt N some))

  room : 3 * S + 3 ≤ length h.ring
  room = omega (arith, place, mod-lt N some, H.room)

  one_more : length (rs ++ r ∷ []) ≡ N + 1
  one_more = length-append rs (r ∷ [])

  -- how many words there are, and what leaves
  words_full : w ≤ N → W.words ≡ w
  words_full g = omega (arith, H.shown.words, length_last w rs, g)

  words_fewer : N < w → W.words ≡ N
  words_fewer g = omega (arith, H.shown.words, length_last w rs, g)

  old_full : w ≤ N → old ≡ slice_index_or rs (N - w) none
  unfolding leaving
  old_full g =
      ap (λ (b : Bool). cond b none (record_in h.ring S)) (le-ltb W.words w (omega (arith, words_full g)))
      ∙ ap (record_in h.ring) (place ∙ sym (oldest_slot N w some g)) ∙ H.held (N - w) (omega arith) (omega arith)

  old_fewer : N < w → old ≡ none
  unfolding leaving
  old_fewer g = ap (λ (b : Bool). cond b none (record_in h.ring S)) (lt-ltb W.words w (omega (arith, words_fewer g)))

  -- every figure by one law
  figure_moves : (f : Record → ℕ) → f none ≡ 0 → ((q : Record) → Small q → f q ≤ largest) → (x : ℕ) → x ≡ sum f (last_of w rs)
      → slid x (f r) (f old) ≡ sum f (last_of w (rs ++ r ∷ []))
  figure_moves f zero-f small-f x e = at (dec_le w N)
    where
      small : (i : ℕ) → i < N → f (slice_index_or rs i none) ≤ largest
      small i q = small-f (slice_index_or rs i none) (H.small i q)

      at : Dec (w ≤ N) → slid x (f r) (f old) ≡ sum f (last_of w (rs ++ r ∷ []))
      at (yes g) = ap₂ (λ (y : ℕ) (o : Record). slid y (f r) (f o)) e (old_full g) ∙ slides f w some few rs r small (small-f r sm) g
      at (no g) =
          let l : N < w = omega arith in
          ap₂ (λ (y : ℕ) (o : Record). slid y (f r) (f o)) e (old_fewer l) ∙ ap (slid (sum f (last_of w rs)) (f r)) zero-f
          ∙ grows f w some few rs r small (small-f r sm) l

  words_move : next_words w W.words ≡ length (last_of w (rs ++ r ∷ []))
  unfolding next_words
  words_move = at (dec_lt W.words w)
    where
      at : Dec (W.words < w) → cond (nat_lt W.words w) (W.words + 1) w ≡ length (last_of w (rs ++ r ∷ []))
      at (yes g) = ap (λ (b : Bool). cond b (W.words + 1) w) (lt-ltb W.words w g) ∙ omega (arith, g, H.shown.words, length_last w rs, length_last w (rs ++ r ∷ []), one_more)
      at (no g) = ap (λ (b : Bool). cond b (W.words + 1) w) (le-ltb W.words w (omega arith)) ∙ omega (arith, g, H.shown.words, length_last w rs, length_last w (rs ++ r ∷ []), one_more)

  last_record : get_or (rs ++ r ∷ []) N none ≡ r
  last_record = let z : N ≡ N + 0 = omega arith in ap (λ (k : ℕ). get_or (rs ++ r ∷ []) k none) z ∙ get_or-append-add rs (r ∷ []) 0 none

  early_record : (i : ℕ) → i < N → slice_index_or (rs ++ r ∷ []) i none ≡ slice_index_or rs i none
  early_record i q = get_or-append rs (r ∷ []) none i q

  holds_taken : Holds w (rs ++ r ∷ []) (taken w h r)
  unfolding taken moved
  holds_taken =
      record {
        room = omega (arith, H.room, written_long h.ring S r);
        at = ap (next_at w) place ∙ next_mod N w some ∙ ap (λ (k : ℕ). k % w) (sym one_more);
        shown = record {
          words = words_move;
          lost = figure_moves lost_by lost_none lost_small W.lost H.shown.lost;
          iterations = figure_moves iterations_by iterations_none iterations_small W.iterations H.shown.iterations;
          corrected = figure_moves corrected_by corrected_none corrected_small W.corrected H.shown.corrected;
          doubtful = figure_moves doubtful_by doubtful_none doubtful_small W.doubtful H.shown.doubtful;
        };
        held = λ i q near. held_after i q near (ℕ_discrete i N);
        small = λ i q. small_after i q (ℕ_discrete i N);
      }
    where
      held_after : (i : ℕ) → i < length (rs ++ r ∷ []) → length (rs ++ r ∷ []) ≤ i + w → Dec (i ≡ N) → record_in (written h.ring S r) (i % w) ≡ slice_index_or (rs ++ r ∷ []) i none
      held_after i q near (yes e) =
          ap (record_in (written h.ring S r)) (ap (λ (k : ℕ). k % w) e ∙ sym place) ∙ written_here h.ring S r room ∙ sym (ap (λ (k : ℕ). get_or (rs ++ r ∷ []) k none) e ∙ last_record)
      held_after i q near (no e) =
          let l : i < N = omega (arith, q, one_more, e) in
          let g : N < i + w = omega (arith, near, one_more) in
          written_else h.ring S r (i % w) (λ z. apart i N w some l g (z ∙ place)) ∙ H.held i l (omega arith) ∙ sym (early_record i l)

      small_after : (i : ℕ) → i < length (rs ++ r ∷ []) → Dec (i ≡ N) → Small (slice_index_or (rs ++ r ∷ []) i none)
      small_after i q (yes e) = subst Small (sym (ap (λ (k : ℕ). get_or (rs ++ r ∷ []) k none) e ∙ last_record)) sm
      small_after i q (no e) = let l : i < N = omega (arith, q, one_more, e) in subst Small (sym (early_record i l)) (H.small i l)

-- ---- one record, finished or not
holds_pushed : (w : ℕ) → 0 < w → w ≤ 4096 → (rs : List Record) (h : Handed) (r : Record) → Small r → Holds w rs h → Holds w (rs ++ finished_in (r ∷ [])) (pushed w h r)
unfolding pushed finished_in
holds_pushed w some few rs h r sm H = at (is_finished r.state)
  where
    at : (b : Bool) → Holds w (rs ++ cond b (r ∷ []) []) (cond b (taken w h r) h)
    at true = holds_taken w some few rs h r sm H
    at false = subst (λ (l : List Record). Holds w l h) (sym (append-nil rs)) H

-- ---- a whole series
finished_cons : (r : Record) (rs : List Record) → finished_in (r ∷ rs) ≡ finished_in (r ∷ []) ++ finished_in rs
unfolding finished_in
finished_cons r rs = at (is_finished r.state)
  where
    at : (b : Bool) → cond b (r ∷ finished_in rs) (finished_in rs) ≡ cond b (r ∷ []) [] ++ finished_in rs
    at true = refl
    at false = refl

holds_series : (w : ℕ) → 0 < w → w ≤ 4096 → (rs : List Record) → Fit rs → (before : List Record) (h : Handed) → Holds w before h → Holds w (before ++ finished_in rs) (series w h rs)
unfolding series finished_in
holds_series w some few [] fit before h H = subst (λ (l : List Record). Holds w l h) (sym (append-nil before)) H
holds_series w some few (r ∷ rs) fit before h H =
    subst (λ (l : List Record). Holds w l (series w (pushed w h r) rs)) (append_assoc before (finished_in (r ∷ [])) (finished_in rs) ∙ ap (λ (l : List Record). before ++ l) (sym (finished_cons r rs)))
    (holds_series w some few rs fit.1.1 (before ++ finished_in (r ∷ [])) (pushed w h r)
    (holds_pushed w some few before h r (record { iterations = fit.0; bch = fit.1.0 }) H))

-- From an empty window, through any series of records at one width, whatever the ring held at first: each figure equals the one worked out afresh from the last
-- w finished records.
pub series_shows : (w : ℕ) → 0 < w → w ≤ 4096 → (rs : List Record) → Fit rs → (ring : List ℕ) → 3 * w ≤ length ring → Shows w (finished_in rs) (series w (empty ring) rs).window
series_shows w some few rs fit ring room = (holds_series w some few rs fit [] (empty ring) (holds_none w ring some room)).shown

-- ---- the ring keeps its length, and a series may end in one record more
pub pushed_long : (w : ℕ) (h : Handed) (r : Record) → length (pushed w h r).ring ≡ length h.ring
unfolding pushed taken
pushed_long w h r = at (is_finished r.state)
  where
    at : (b : Bool) → length (cond b (taken w h r) h).ring ≡ length h.ring
    at true = written_long h.ring (slot_of w h.window.at) r
    at false = refl

pub series_long : (w : ℕ) (h : Handed) (rs : List Record) → length (series w h rs).ring ≡ length h.ring
unfolding series
series_long w h [] = refl
series_long w h (r ∷ rs) = series_long w (pushed w h r) rs ∙ pushed_long w h r

pub series_snoc : (w : ℕ) (h : Handed) (rs : List Record) (r : Record) → series w h (rs ++ r ∷ []) ≡ pushed w (series w h rs) r
unfolding series
series_snoc w h [] r = refl
series_snoc w h (q ∷ rs) r = series_snoc w (pushed w h q) rs r

-- "An unfinished record is passed over"
pub passed_over : (w : ℕ) (h : Handed) (r : Record) → is_finished r.state ≡ false → pushed w h r ≡ h
unfolding pushed
passed_over w h r e = ap (λ (b : Bool). cond b (taken w h r) h) e

-- "A lost word adds 0 corrected bits."
pub lost_adds_none : (r : Record) → is_lost r.bch ≡ true → corrected_by r ≡ 0
unfolding corrected_by
lost_adds_none r e = ap (λ (b : Bool). cond b 0 r.bch) e

-- ---- a window's words are those kept, those doubtful and those lost
abbrev pub kept_by : Record → ℕ
kept_by r = kept_of r.state r.bch

abbrev Over : Record → Type 0
Over r = is_finished r.state ≡ true

all_over : (rs : List Record) → All Over (finished_in rs)
unfolding finished_in
all_over [] = λ k d q. absurd (omega (arith, q))
all_over (r ∷ rs) = at (is_finished r.state) refl (all_over rs)
  where
    at : (b : Bool) → is_finished r.state ≡ b → All Over (finished_in rs) → All Over (cond b (r ∷ finished_in rs) (finished_in rs))
    at true e h zero d q = e
    at true e h (suc k) d q = h k d (omega (arith, q))
    at false e h k d q = h k d q

three_are : (rs : List Record) → All Over rs → sum kept_by rs + sum doubtful_by rs + sum lost_by rs ≡ length rs
unfolding sum doubtful_by lost_by
three_are [] h = refl
three_are (r ∷ rs) h =
    let e : finished_of r.state ≡ 1 = ap (λ (b : Bool). cond b 1 0) (h 0 r (omega arith)) in
    omega (arith, one_of_three r.state r.bch, e, three_are rs (λ k d q. h (suc k) d (omega (arith, q))))

pub three_shown : (w : ℕ) (rs : List Record) (W : Window) → Shows w (finished_in rs) W → sum kept_by (last_of w (finished_in rs)) + W.doubtful + W.lost ≡ W.words
unfolding last_of
three_shown w rs W s =
    let l = drop (length (finished_in rs) - w) (finished_in rs) in
    omega (arith, s.words, s.doubtful, s.lost, three_are l (All-drop Over (length (finished_in rs) - w) (finished_in rs) (all_over rs)))
