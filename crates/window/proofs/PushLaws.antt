-- The ways through `push`: refused, passed over, taken.
use Rattle.std.specs.Prelude.{◌≡◌, ℕ, ◌*◌, ◌<◌, ◌≤◌, Bool, true, false, cond, ◌≢◌, List, [], ◌∷◌, ◌++◌, length, nat_eq, nat_lt, refl, Result, Ok, Err}
use Rattle.std.proofs.Common.{sym, ap, ap₂, subst, ◌∙◌, arith}
use Rattle.std.proofs.Math.Decide.{ℕ_discrete, dec_lt}
use Rattle.std.proofs.lemmas.Bool.{lt-ltb, le-ltb, eq-eqb, ne_eqb}
use Rattle.refusal.specs.Number.{number, number_of, refusal_of}
use Rattle.refusal.specs.NumberLaws.{highest, chosen_le, number_least, number_refusal, refused, accepted as answered}
use Rattle.refusal.specs.declared.Refusal.{Refusal}
use Rattle.outcome.specs.Outcome.{is_finished}
use Rattle.window.specs.declared.Record.{Record}
use Rattle.window.specs.declared.Window.{Window}
use Rattle.window.specs.Figures.{finished_in, Shows}
use Rattle.window.specs.Push.{push_refusal, slot_of, leaving, written, moved, Handed, empty, taken, pushed, series, pushed_of, ring_out, Pushes}
use Rattle.window.specs.Series.{series_shows, series_long, series_snoc}

-- ---- each test of the code
zero_width : (w room : ℕ) → w ≡ 0 → push_refusal w room ≡ 14
unfolding push_refusal
zero_width w room e = simp (eq-eqb w 0 e)

great_width : (w room : ℕ) → w ≢ 0 → 4096 < w → push_refusal w room ≡ 14
unfolding push_refusal
great_width w room ne h = simp (ne_eqb w 0 ne, lt-ltb 4096 w h)

short_ring : (w room : ℕ) → w ≢ 0 → w ≤ 4096 → room < 3 * w → push_refusal w room ≡ 13
unfolding push_refusal
short_ring w room ne h g = simp (ne_eqb w 0 ne, le-ltb 4096 w h, lt-ltb room (3 * w) g)

most : (w room : ℕ) → push_refusal w room ≤ highest
unfolding push_refusal
most w room =
    chosen_le (nat_eq w 0) 14 _ (omega arith)
    (chosen_le (nat_lt 4096 w) 14 _ (omega arith) (chosen_le (nat_lt room (3 * w)) 13 0 (omega arith) (omega arith)))

-- what an accepted call knows
pub record Fair (w room : ℕ) : Type 0 where
  pub some : 0 < w
  pub few : w ≤ 4096
  pub long : 3 * w ≤ room

pub accepted : (w room : ℕ) → push_refusal w room ≡ 0 → Fair w room
accepted w room e = zero (ℕ_discrete w 0)
  where
    last : w ≢ 0 → w ≤ 4096 → Dec (room < 3 * w) → Fair w room
    last ne h (yes g) = absurd (omega (arith, e, short_ring w room ne h g))
    last ne h (no g) = record { some = omega (arith, ne); few = h; long = omega arith }

    great : w ≢ 0 → Dec (4096 < w) → Fair w room
    great ne (yes g) = absurd (omega (arith, e, great_width w room ne g))
    great ne (no g) = last ne (omega arith) (dec_lt room (3 * w))

    zero : Dec (w ≡ 0) → Fair w room
    zero (yes z) = absurd (omega (arith, e, zero_width w room z))
    zero (no ne) = great ne (dec_lt 4096 w)

module _ (w : ℕ) (W : Window) (r : Record) (ring : List ℕ) where
  abbrev H : Handed
  H = record { window = W; ring = ring }

  abbrev F : ℕ
  F = push_refusal w (length ring)

  abbrev window_in : Result Window Refusal → Window
  window_in (Ok A) = A
  window_in (Err f) = W

  pub refuses : (f : Refusal) → number f ≡ F → Pushes w W r ring ring (Err f)
  unfolding pushed_of ring_out
  refuses f e =
      let no : nat_eq F 0 ≡ false = ne_eqb F 0 (λ z. omega (arith, e, z, number_least f)) in
      record {
        answer = sym (refused F (pushed w H r).window f (sym e));
        number = e;
        ring_is = sym (ap (λ (b : Bool). cond b (pushed w H r).ring ring) no);
        afresh = λ W' now rs ring₀ fit so. let z : number f ≡ 0 = ap number_of now in absurd (omega (arith, z, number_least f));
      }

  pub accepts : F ≡ 0 → (h : Handed) → h ≡ pushed w H r → Pushes w W r ring h.ring (Ok h.window)
  unfolding pushed_of ring_out
  accepts e h eh =
      let yes : nat_eq F 0 ≡ true = eq-eqb F 0 e in
      record {
        answer = ap (λ (x : Handed). Ok x.window) eh ∙ sym (answered F (pushed w H r).window e);
        number = sym e;
        ring_is = ap (λ (x : Handed). x.ring) eh ∙ sym (ap (λ (b : Bool). cond b (pushed w H r).ring ring) yes);
        afresh = λ W' now rs ring₀ fit so.
            let k = accepted w (length ring) e in
            let room : 3 * w ≤ length ring₀ = omega (arith, k.long, ap (λ (x : Handed). length x.ring) so, series_long w (empty ring₀) rs) in
            let same : series w (empty ring₀) (rs ++ r ∷ []) ≡ h = series_snoc w (empty ring₀) rs r ∙ ap (λ (x : Handed). pushed w x r) (sym so) ∙ sym eh in
            subst (Shows w (finished_in (rs ++ r ∷ []))) (ap (λ (x : Handed). x.window) same ∙ ap window_in now)
            (series_shows w k.some k.few (rs ++ r ∷ []) fit ring₀ room);
      }

  pub takes : is_finished r.state ≡ true → (s : ℕ) (old : Record) (W' : Window) (ring' : List ℕ) → s ≡ slot_of w W.at → old ≡ leaving w W.words ring s
      → W' ≡ moved w W s old r → ring' ≡ written ring s r → record { window = W'; ring = ring' } ≡ pushed w H r
  unfolding pushed taken
  takes e s old W' ring' es eo eW er =
      let whole : old ≡ leaving w W.words ring (slot_of w W.at) = eo ∙ ap (leaving w W.words ring) es in
      (λ i. record { window = (eW ∙ ap₂ (λ (k : ℕ) (o : Record). moved w W k o r) es whole) i; ring = (er ∙ ap (λ (k : ℕ). written ring k r) es) i })
      ∙ sym (ap (λ (b : Bool). cond b (taken w H r) H) e)

  -- the promise can be had for every window, record and ring
  pub pushes_any : Pushes w W r ring (ring_out w H r) (pushed_of w H r)
  pushes_any = at (ℕ_discrete F 0)
    where
      at : Dec (F ≡ 0) → Pushes w W r ring (ring_out w H r) (pushed_of w H r)
      at (yes e) =
          let P = accepts e (pushed w H r) refl in
          subst (Pushes w W r ring (ring_out w H r)) P.answer (subst (λ (l : List ℕ). Pushes w W r ring l (Ok (pushed w H r).window)) P.ring_is P)
      at (no ne) =
          let f = refusal_of F in
          let P = refuses f (number_refusal F (omega (arith, ne)) (most w (length ring))) in
          subst (Pushes w W r ring (ring_out w H r)) P.answer (subst (λ (l : List ℕ). Pushes w W r ring l (Err f)) P.ring_is P)

  -- ---- what an answer that is no refusal says
  module _ (ring' : List ℕ) (p : Result Window Refusal) (P : Pushes w W r ring ring' p) (none : number_of p ≡ 0) where
    zero_so : F ≡ 0
    zero_so = sym P.number ∙ none

    accepted_so : nat_eq F 0 ≡ true
    accepted_so = eq-eqb F 0 zero_so

    pub now_is : p ≡ Ok (pushed w H r).window
    unfolding pushed_of
    now_is = P.answer ∙ answered F (pushed w H r).window zero_so

    pub ring_on : ring' ≡ (pushed w H r).ring
    unfolding ring_out
    ring_on = P.ring_is ∙ ap (λ (b : Bool). cond b (pushed w H r).ring ring) accepted_so

  -- a window handed on: the promise of one call is what the next one's `afresh` asks for, so that a chain of accepted calls is a series
  pub handed_on : (ring' : List ℕ) (W' : Window) → Pushes w W r ring ring' (Ok W') → (rs : List Record) (ring₀ : List ℕ) → H ≡ series w (empty ring₀) rs
      → record { window = W'; ring = ring' } ≡ series w (empty ring₀) (rs ++ r ∷ [])
  handed_on ring' W' P rs ring₀ so =
      (λ i. record { window = ap window_in (now_is ring' (Ok W') P refl) i; ring = ring_on ring' (Ok W') P refl i })
      ∙ ap (λ (h : Handed). pushed w h r) so ∙ sym (series_snoc w (empty ring₀) rs r)
