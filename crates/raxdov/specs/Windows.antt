-- A window over words that runs finished shows the figures of those words alone: nothing of the other words, lane counts and round limits.
use Rattle.std.specs.Prelude.{◌≡◌, refl, ◌⊎◌, Bool, true, cond, List, [], ◌∷◌, ◌++◌, map, ℕ, ◌*◌, ◌^◌, ◌≤◌, ◌<◌, length, Result}
use Rattle.std.proofs.Common.{sym, ap, ap₂, ◌∙◌, subst, inl, inr, arith}
use Rattle.outcome.specs.Outcome.{Outcome, is_finished, lost}
use Rattle.decoder_words.specs.Fields.{own_part}
use Rattle.decoder.specs.Accepted.{AcceptedRun, says, alone_by}
use Rattle.decoder.specs.Audit.{finished_alone, figures_few}
use Rattle.window.specs.declared.Record.{Record}
use Rattle.window.specs.declared.Window.{Window}
use Rattle.refusal.specs.declared.Refusal.{Refusal}
use Rattle.window.specs.Figures.{finished_in, Shows}
use Rattle.window.specs.Push.{Handed, empty, pushed, series, Fit, push_refusal, pushed_of, ring_out}
use Rattle.window.specs.Series.{series_shows, series_snoc}
use Rattle.window.proofs.PushLaws.{pushes_any, now_is, ring_on}
use Rattle.raxdov.specs.Numbers.{window_of, handed_of, record_of, window_into}

-- a word that an accepted run of some code finished, whatever run it was
pub record FinishedWord : Type 0 where
  pub n : ℕ
  pub lens : List ℕ
  pub addrs : List ℕ
  pub run : AcceptedRun n lens addrs
  pub word : ℕ
  pub finished : is_finished (says n lens addrs run word).state ≡ true

-- what a window reads of the word's record, and the same of its outcome alone
abbrev pub recorded : FinishedWord → Record
recorded f = let v = says f.n f.lens f.addrs f.run f.word in record { state = v.state; iterations = v.iterations; bch = v.bch }

abbrev pub recorded_alone : FinishedWord → Record
recorded_alone f =
    let o = alone_by f.n f.lens f.addrs f.run.set (own_part f.n f.word f.run.soft) in
    record { state = o.state; iterations = o.iterations; bch = o.bch }

same_record : (f : FinishedWord) → recorded f ≡ recorded_alone f
same_record f = ap (λ (o : Outcome). record { state = o.state; iterations = o.iterations; bch = o.bch }) (finished_alone f.n f.lens f.addrs f.run f.word f.finished)

same_records : (fs : List FinishedWord) → map recorded fs ≡ map recorded_alone fs
same_records [] = refl
same_records (f ∷ fs) = ap₂ (λ (r : Record) (rs : List Record). r ∷ rs) (same_record f) (same_records fs)

all_finished : (fs : List FinishedWord) → finished_in (map recorded fs) ≡ map recorded fs
unfolding finished_in
all_finished [] = refl
all_finished (f ∷ fs) =
    ap (λ (b : Bool). cond b (recorded f ∷ finished_in (map recorded fs)) (finished_in (map recorded fs))) f.finished
    ∙ ap (λ (rs : List Record). recorded f ∷ rs) (all_finished fs)

all_fit : (fs : List FinishedWord) → Fit (map recorded fs)
unfolding lost
all_fit [] = tt
all_fit (f ∷ fs) = let few = figures_few f.n f.lens f.addrs f.run f.word f.finished in (omega (arith, few.0), (at few.1, all_fit fs))
  where
    at : ((recorded f).bch ≤ 12) ⊎ ((recorded f).bch ≡ lost) → (recorded f).bch < 2 ^ 32
    at (inl h) = omega (arith, h)
    at (inr e) = omega (arith, e)

-- the words' records pushed one after the other from an empty window: each figure is the one that the words alone give
pub window_alone : (w : ℕ) → 0 < w → w ≤ 4096 → (fs : List FinishedWord) (ring : List ℕ) → 3 * w ≤ length ring
    → Shows w (map recorded_alone fs) (series w (empty ring) (map recorded fs)).window
window_alone w some few fs ring room =
    subst (λ (rs : List Record). Shows w rs (series w (empty ring) (map recorded fs)).window) (all_finished fs ∙ same_records fs)
    (series_shows w some few (map recorded fs) (all_fit fs) ring room)

-- of a window as numbers, six zeros are the empty one
pub zeros_empty : (ring : List ℕ) → handed_of (0 ∷ 0 ∷ 0 ∷ 0 ∷ 0 ∷ 0 ∷ []) ring ≡ empty ring
zeros_empty ring = refl

-- a chain of calls of `raxdov_window_push` that are not refused is a series: what one leaves, by its promises of window and ring, is what the next one's `afresh`
-- asks for
pub numbers_on : (w : ℕ) (window window' numbers ring ring' : List ℕ) → push_refusal w (length ring) ≡ 0
    → window' ≡ window_into (pushed_of w (handed_of window ring) (record_of numbers)) window → ring' ≡ ring_out w (handed_of window ring) (record_of numbers)
    → (rs : List Record) (ring₀ : List ℕ) → handed_of window ring ≡ series w (empty ring₀) rs → handed_of window' ring' ≡ series w (empty ring₀) (rs ++ record_of numbers ∷ [])
numbers_on w window window' numbers ring ring' none left ring-left rs ring₀ so =
    let W = window_of window in
    let r = record_of numbers in
    let P = pushes_any w W r ring in
    let now = now_is w W r ring _ _ P (P.number ∙ none) in
    (λ i. record { window = ap window_of (left ∙ ap (λ (p : Result Window Refusal). window_into p window) now) i; ring = (ring-left ∙ ring_on w W r ring _ _ P (P.number ∙ none)) i })
    ∙ ap (λ (h : Handed). pushed w h r) so ∙ sym (series_snoc w (empty ring₀) rs r)
