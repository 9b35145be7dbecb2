-- Refilling as code does it: one word at a time, into the lowest empty lane. What the arrays stand for changes as `refill` says: one word into
-- a list of lanes; the same of arrays and memory, from a start (`Filling`) to an end (`Refilled`).
use Rattle.std.specs.Prelude.{◌≡◌, ◌≢◌, Bool, true, false, length, get_or, drop}
use Rattle.std.proofs.Math.Path.{refl, sym, ap, ap₂}
use Rattle.std.proofs.Common.{◌∙◌, subst, add-one, arith, drop_of_length-le, drop-cons, List, [], ◌∷◌, ℕ, zero, suc, ◌+◌, ◌≤◌, ◌<◌}
use Rattle.std.proofs.Math.Bool.{cond}
use Rattle.std.proofs.Math.Decide.{dec_lt}
use Rattle.std.proofs.Math.ListN.{set, length-set}
use Rattle.laws.specs.Stores.{grown}
use Rattle.schedule.specs.Run.{Words, Lane, empty, holds, Left, Stock, Turn, each, over, logged, load, fill}
use Rattle.schedule.specs.Lanes.{Setup, lane_of, rows, from, any_held, Kept, stock, Stands}
use Rattle.schedule.proofs.Lanes.{length_rows, get_d_rows, set_rows, from_start, from_end, from_step, from_same, kept_more}
use Rattle.schedule.specs.Refill.{Refilled, Filling}

module _ {X : Type 0} (words : Words X) where
  -- ---- refilling passes the lane by
  abbrev Stays : Lane X → Type 0
  Stays x = (s : Stock X) → fill words x s ≡ (x, s)

  stays : (h : ℕ) (x : X) (i : ℕ) → h ≢ 0 → Stays (lane_of h x i)
  unfolding fill lane_of
  stays zero x i n s = absurd (n refl)
  stays (suc w) x i n s = refl

  passed : (ls : List (Lane X)) (l : ℕ) → l ≤ length ls → ((k : ℕ) → k < l → Stays (get_or ls k empty)) → (s : Stock X) → each (fill words) ls s ≡ from (fill words) l ls s
  passed ls zero h p s = sym (from_start (fill words) ls s)
  passed ls (suc l) h p s = passed ls l (omega arith) (λ k g. p k (omega arith)) s ∙ from_same (fill words) l ls s h (p l (omega arith) s)

  module _ (ls : List (Lane X)) (l : ℕ) (h : l < length ls) (p : (k : ℕ) → k < l → Stays (get_or ls k empty)) (e : get_or ls l empty ≡ empty) (w : ℕ) (q : List ℕ) (d : List (Left X)) where
    abbrev B : X
    B = words.begin w

    quick_each : over words B 0 ≡ true → each (fill words) ls (record { queue = w ∷ q; log = d }) ≡ each (fill words) ls (record { queue = q; log = logged words w B 0 d })
    unfolding fill load
    quick_each z =
        passed ls l (omega arith) p _ ∙ from_step (fill words) l ls _ h
        ∙ ap (λ (t : Turn X). from (fill words) (suc l) (set ls l t.0) t.1) same
        ∙ sym (passed ls l (omega arith) p _ ∙ from_step (fill words) l ls _ h)
      where
        same : fill words (get_or ls l empty) (record { queue = w ∷ q; log = d }) ≡ fill words (get_or ls l empty) (record { queue = q; log = logged words w B 0 d })
        same =
            ap (λ x. fill words x (record { queue = w ∷ q; log = d })) e
            ∙ ap (λ b. cond b (load words q (logged words w B 0 d)) (holds w B 0, record { queue = q; log = d })) z
            ∙ sym (ap (λ x. fill words x (record { queue = q; log = logged words w B 0 d })) e)

    hold_each : over words B 0 ≡ false → each (fill words) ls (record { queue = w ∷ q; log = d }) ≡ each (fill words) (set ls l (holds w B 0)) (record { queue = q; log = d })
    unfolding fill load
    hold_each z =
        passed ls l (omega arith) p _ ∙ from_step (fill words) l ls _ h
        ∙ ap (λ (t : Turn X). from (fill words) (suc l) (set ls l t.0) t.1) taken
        ∙ sym (passed (set ls l (holds w B 0)) (suc l) (omega (arith, length-set ls l (holds w B 0))) all _)
      where
        taken : fill words (get_or ls l empty) (record { queue = w ∷ q; log = d }) ≡ (holds w B 0, record { queue = q; log = d })
        taken =
            ap (λ x. fill words x (record { queue = w ∷ q; log = d })) e
            ∙ ap (λ b. cond b (load words q (logged words w B 0 d)) (holds w B 0, record { queue = q; log = d })) z

        all : (k : ℕ) → k < suc l → Stays (get_or (set ls l (holds w B 0)) k empty)
        all k g = grown empty (λ _ x. Stays x) ls l (holds w B 0) h p (λ s. refl) k (omega arith)

  -- with no word waiting nothing changes, nor with every lane held
  none_each : (ls : List (Lane X)) (d : List (Left X)) → each (fill words) ls (record { queue = []; log = d }) ≡ (ls, record { queue = []; log = d })
  unfolding each fill load
  none_each [] d = refl
  none_each (empty ∷ ls) d = ap (λ (p : List (Lane X) × Stock X). (empty ∷ p.0, p.1)) (none_each ls d)
  none_each (holds w x i ∷ ls) d = ap (λ (p : List (Lane X) × Stock X). (holds w x i ∷ p.0, p.1)) (none_each ls d)

  full_each : (ls : List (Lane X)) (s : Stock X) → ((k : ℕ) → k < length ls → Stays (get_or ls k empty)) → each (fill words) ls s ≡ (ls, s)
  full_each ls s p = passed ls (length ls) (omega arith) p s ∙ from_end (fill words) (length ls) ls s refl

-- ---- arrays, columns and memory on the way
module _ {X M : Type 0} (R : Setup X M) where
  abbrev F : Lane X → Stock X → Turn X
  F = fill R.words

  pub filling_start : (held' iters : List ℕ) (col : ℕ → X) (next : ℕ) (memory : ℕ → M) → next ≤ length R.order → Filling R held' iters col next memory held' iters col next memory
  filling_start held' iters col next memory h = record { later = omega arith; in_order = h; held_fit = refl; iters_fit = refl; same = λ d m. (d, m, refl) }

  pub filling_on : {held₀ iters₀ : List ℕ} {col₀ : ℕ → X} {next₀ : ℕ} {memory₀ : ℕ → M} {held₁ iters₁ : List ℕ} {col₁ : ℕ → X} {next₁ : ℕ} {memory₁ : ℕ → M}
      {held' iters : List ℕ} {col : ℕ → X} {next : ℕ} {memory : ℕ → M}
      → Filling R held₀ iters₀ col₀ next₀ memory₀ held₁ iters₁ col₁ next₁ memory₁ → Filling R held₁ iters₁ col₁ next₁ memory₁ held' iters col next memory
      → Filling R held₀ iters₀ col₀ next₀ memory₀ held' iters col next memory
  filling_on a b =
      record {
        later = omega (arith, a.later, b.later);
        in_order = b.in_order;
        held_fit = b.held_fit ∙ a.held_fit;
        iters_fit = b.iters_fit ∙ a.iters_fit;
        same = λ d m. let x = a.same d m in let y = b.same x.0 x.1 in (y.0, y.1, y.2 ∙ x.2);
      }

  -- lane l is the lowest empty lane, and a word waits
  module _ (held' iters : List ℕ) (col : ℕ → X) (next : ℕ) (memory : ℕ → M) (l : ℕ) (in_lanes : l < R.lanes) (p : (k : ℕ) → k < l → get_or held' k 0 ≢ 0) (none : get_or held' l 0 ≡ 0)
      (some : next < length R.order) where
    abbrev w : ℕ
    w = get_or R.order next 0

    abbrev ls : List (Lane X)
    ls = rows R.lanes held' iters col

    stays_rows : (k : ℕ) → k < l → Stays R.words (get_or ls k empty)
    stays_rows k g = subst (Stays R.words) (sym (get_d_rows R.lanes held' iters col k (omega arith))) (stays R.words _ _ _ (p k g))

    empty_row : get_or ls l empty ≡ empty
    unfolding lane_of
    empty_row = get_d_rows R.lanes held' iters col l in_lanes ∙ ap (λ h. lane_of h (col l) (get_or iters l 0)) none

    taken : (d : List (Left X)) → stock R next d ≡ record { queue = w ∷ drop (next + 1) R.order; log = d }
    taken d = ap (λ (q : List ℕ). record { queue = q; log = d }) (drop-cons R.order next 0 some ∙ ap (λ n. w ∷ drop n R.order) (sym (add-one next)))

    -- the word leaves at once: memory says so
    pub filling_quick : (memory' : ℕ → M) → over R.words (R.words.begin w) 0 ≡ true → memory' w ≡ R.after w (R.words.begin w) 0 → ((v : ℕ) → v ≢ w → memory' v ≡ memory v)
        → Filling R held' iters col next memory held' iters col (next + 1) memory'
    filling_quick memory' z new others =
        record {
          later = omega arith;
          in_order = omega arith;
          held_fit = refl;
          iters_fit = refl;
          same = λ d m. (
            logged R.words w (R.words.begin w) 0 d,
            kept_more R d memory memory' w (R.words.begin w) 0 m new others,
            sym (ap (each F ls) (taken d) ∙ quick_each R.words ls l (omega (arith, length_rows R.lanes held' iters col)) stays_rows empty_row w (drop (next + 1) R.order) d z),
          );
        }

    -- the lane takes the word: its column is what the word begins with, and the other columns are as they were
    pub filling_hold : (col' : ℕ → X) → R.lanes ≤ length held' → R.lanes ≤ length iters → over R.words (R.words.begin w) 0 ≡ false
        → col' l ≡ R.words.begin w → ((k : ℕ) → k < R.lanes → k ≢ l → col' k ≡ col k)
        → Filling R held' iters col next memory (set held' l (w + 1)) (set iters l 0) col' (next + 1) memory
    unfolding lane_of
    filling_hold col' a b z new others =
        record {
          later = omega arith;
          in_order = omega arith;
          held_fit = length-set held' l (w + 1);
          iters_fit = length-set iters l 0;
          same = λ d m. (
            d,
            m,
            ap (λ ls. each F ls (stock R (next + 1) d))
                (set_rows R.lanes held' iters col col' l (w + 1) 0 in_lanes a b others ∙ ap₂ (λ n x. set ls l (lane_of n x 0)) (add-one w) new)
                ∙ sym (ap (each F ls) (taken d) ∙ hold_each R.words ls l (omega (arith, length_rows R.lanes held' iters col)) stays_rows empty_row w (drop (next + 1) R.order) d z),
          );
        }

  -- every lane is held, or no word waits
  pub filling_end : (held₀ iters₀ : List ℕ) (col₀ : ℕ → X) (next₀ : ℕ) (memory₀ : ℕ → M) (held' iters : List ℕ) (col : ℕ → X) (next : ℕ) (memory : ℕ → M) (busy : Bool)
      → Filling R held₀ iters₀ col₀ next₀ memory₀ held' iters col next memory → (next < length R.order → (k : ℕ) → k < R.lanes → get_or held' k 0 ≢ 0)
      → busy ≡ any_held held' R.lanes
      → Refilled R held₀ iters₀ col₀ next₀ memory₀ held' iters col next busy memory
  filling_end held₀ iters₀ col₀ next₀ memory₀ held' iters col next memory busy f p b =
      record {
        in_order = f.in_order;
        sized = λ z. record { held_fit = f.held_fit ∙ z.held_fit; iters_fit = f.iters_fit ∙ z.iters_fit };
        after_refill = λ d m. done d (f.same d m) (dec_lt next (length R.order));
        busy_is = b;
      }
    where
      still : (d : List (Left X)) → Dec (next < length R.order) → each F (rows R.lanes held' iters col) (stock R next d) ≡ (rows R.lanes held' iters col, stock R next d)
      still d (yes g) =
          full_each R.words (rows R.lanes held' iters col) _ (λ k h. let i : k < R.lanes = omega (arith, h, length_rows R.lanes held' iters col) in
          subst (Stays R.words) (sym (get_d_rows R.lanes held' iters col k i)) (stays R.words _ _ _ (p g k i)))
      still d (no g) =
          let h : length R.order ≤ next = omega arith in
          let e : drop next R.order ≡ [] = drop_of_length-le R.order h in
          ap (λ (q : List ℕ). each F (rows R.lanes held' iters col) (record { queue = q; log = d })) e ∙ none_each R.words (rows R.lanes held' iters col) d
          ∙ ap (λ (q : List ℕ). (rows R.lanes held' iters col, record { queue = q; log = d })) (sym e)

      done : (d₀ : List (Left X))
          → (d : List (Left X)) × Kept R d memory × (each F (rows R.lanes held' iters col) (stock R next d) ≡ each F (rows R.lanes held₀ iters₀ col₀) (stock R next₀ d₀))
          → Dec (next < length R.order) → Stands R (each F (rows R.lanes held₀ iters₀ col₀) (stock R next₀ d₀)) held' iters col next memory
      done d₀ x g =
          let e = sym (still x.0 g) ∙ x.2 in
          record {
            lanes_are = ap (λ (t : List (Lane X) × Stock X). t.0) e;
            queue_is = ap (λ (t : List (Lane X) × Stock X). t.1.queue) e;
            log_is = subst (λ (d : List (Left X)). Kept R d memory) (ap (λ (t : List (Lane X) × Stock X). t.1.log) e) x.1;
          }
