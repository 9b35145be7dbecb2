-- Refilling with columns that are loaded later, in one pass (`Assigning`, `Assigned`).
use Rattle.std.specs.Prelude.{◌≡◌, ◌≢◌, Bool, true, false, eqb, length, get_or}
use Rattle.std.proofs.Math.Path.{refl, ap, ap₂}
use Rattle.std.proofs.Common.{◌∙◌, subst, arith, eq-eqb, ne_eqb, get_or-set_same, get_or-set_other, List, ℕ, zero, suc, ◌+◌, ◌-◌, ◌≤◌, ◌<◌}
use Rattle.std.proofs.Math.Bool.{cond}
use Rattle.std.proofs.Math.ListN.{set, length-set}
use Rattle.schedule.specs.Run.{Lane, holds, each, over, fill}
use Rattle.schedule.specs.Lanes.{Setup, lane_of, rows, any_held, stock, Stands}
use Rattle.schedule.proofs.Lanes.{rows_ext}
use Rattle.schedule.specs.Refill.{Refilled, fresh, Assigned, Assigning}
use Rattle.schedule.proofs.Filling.{filling_start, filling_on, filling_quick, filling_hold, filling_end}

module _ {X M : Type 0} (R : Setup X M) where
  pub assigning_start : (held' iters : List ℕ) (next : ℕ) (memory : ℕ → M) → next ≤ length R.order → Assigning R held' iters next memory held' iters next memory
  assigning_start held' iters next memory h =
      record { later = omega arith; in_order = h; held_fit = refl; iters_fit = refl; filling = λ col. filling_start R held' iters _ next memory h }

  pub assigning_on : {held₀ iters₀ : List ℕ} {next₀ : ℕ} {memory₀ : ℕ → M} {held₁ iters₁ : List ℕ} {next₁ : ℕ} {memory₁ : ℕ → M} {held' iters : List ℕ} {next : ℕ} {memory : ℕ → M}
      → Assigning R held₀ iters₀ next₀ memory₀ held₁ iters₁ next₁ memory₁ → Assigning R held₁ iters₁ next₁ memory₁ held' iters next memory
      → Assigning R held₀ iters₀ next₀ memory₀ held' iters next memory
  assigning_on a b =
      record {
        later = omega (arith, a.later, b.later);
        in_order = b.in_order;
        held_fit = b.held_fit ∙ a.held_fit;
        iters_fit = b.iters_fit ∙ a.iters_fit;
        filling = λ col. filling_on R (a.filling col) (b.filling col);
      }

  -- lane l is the lowest empty lane, and a word waits
  module _ (held' iters : List ℕ) (next : ℕ) (memory : ℕ → M) (l : ℕ) (in_lanes : l < R.lanes) (p : (k : ℕ) → k < l → get_or held' k 0 ≢ 0) (none : get_or held' l 0 ≡ 0)
      (some : next < length R.order) where
    abbrev W : ℕ
    W = get_or R.order next 0

    -- the word leaves at once: memory says so
    pub assigning_quick : (memory' : ℕ → M) → over R.words (R.words.begin W) 0 ≡ true → memory' W ≡ R.after W (R.words.begin W) 0 → ((v : ℕ) → v ≢ W → memory' v ≡ memory v)
        → Assigning R held' iters next memory held' iters (next + 1) memory'
    assigning_quick memory' z new others =
        record {
          later = omega arith;
          in_order = omega arith;
          held_fit = refl;
          iters_fit = refl;
          filling = λ col. filling_quick R held' iters (fresh R held' iters col) next memory l in_lanes p none some memory' z new others;
        }

    -- the lane takes the word, and its column waits
    pub assigning_hold : R.lanes ≤ length held' → R.lanes ≤ length iters → over R.words (R.words.begin W) 0 ≡ false
        → Assigning R held' iters next memory (set held' l (W + 1)) (set iters l 0) (next + 1) memory
    assigning_hold a b z =
        record {
          later = omega arith;
          in_order = omega arith;
          held_fit = length-set held' l (W + 1);
          iters_fit = length-set iters l 0;
          filling = λ col. filling_hold R held' iters (fresh R held' iters col) next memory l in_lanes p none some (fresh R (set held' l (W + 1)) (set iters l 0) col) a b z (new col) (others col);
        }
      where
        less : W + 1 - 1 ≡ W
        less = omega arith

        new : (col : ℕ → X) → fresh R (set held' l (W + 1)) (set iters l 0) col l ≡ R.words.begin W
        new col =
            unfold fresh in
            (ap (λ t. cond t (R.words.begin (get_or (set held' l (W + 1)) l 0 - 1)) (col l)) (eq-eqb _ 0 (get_or-set_same iters l 0 0 (omega arith)))
            ∙ ap (λ n. R.words.begin (n - 1)) (get_or-set_same held' l (W + 1) 0 (omega arith)) ∙ ap R.words.begin less)

        others : (col : ℕ → X) (k : ℕ) → k < R.lanes → k ≢ l → fresh R (set held' l (W + 1)) (set iters l 0) col k ≡ fresh R held' iters col k
        others col k g n =
            unfold fresh in ap₂ (λ i h. cond (eqb i 0) (R.words.begin (h - 1)) (col k)) (get_or-set_other iters l k 0 0 n) (get_or-set_other held' l k (W + 1) 0 n)

  -- every lane is held, or no word waits
  pub assigning_end : (held₀ iters₀ : List ℕ) (next₀ : ℕ) (memory₀ : ℕ → M) (held' iters : List ℕ) (next : ℕ) (memory : ℕ → M) (busy : Bool)
      → Assigning R held₀ iters₀ next₀ memory₀ held' iters next memory → (next < length R.order → (k : ℕ) → k < R.lanes → get_or held' k 0 ≢ 0)
      → busy ≡ any_held held' R.lanes → Assigned R held₀ iters₀ next₀ memory₀ held' iters next busy memory
  assigning_end held₀ iters₀ next₀ memory₀ held' iters next memory busy f p b =
      record { refilled = λ col. filling_end R held₀ iters₀ _ next₀ memory₀ held' iters _ next memory busy (f.filling col) p b }

  lane_same : (h : ℕ) (x y : X) (i : ℕ) → (h ≢ 0 → x ≡ y) → lane_of h x i ≡ lane_of h y i
  unfolding lane_of
  lane_same zero x y i e = refl
  lane_same (suc w) x y i e = ap (λ x. holds w x i) (e (λ z. omega arith))

  -- before refilling every held lane has had an iteration; afterwards the columns of the lanes just filled are loaded, and the others kept
  pub refilled_later : (held₀ iters₀ : List ℕ) (col₀ : ℕ → X) (next₀ : ℕ) (memory₀ : ℕ → M) (held' iters : List ℕ) (col : ℕ → X) (next : ℕ) (busy : Bool) (memory : ℕ → M)
      → ((l : ℕ) → l < R.lanes → get_or held₀ l 0 ≢ 0 → get_or iters₀ l 0 ≢ 0)
      → Assigned R held₀ iters₀ next₀ memory₀ held' iters next busy memory
      → ((l : ℕ) → l < R.lanes → get_or held' l 0 ≢ 0 → col l ≡ fresh R held' iters col₀ l)
      → Refilled R held₀ iters₀ col₀ next₀ memory₀ held' iters col next busy memory
  refilled_later held₀ iters₀ col₀ next₀ memory₀ held' iters col next busy memory begun r loaded =
      record {
        in_order = (r.refilled col₀).in_order;
        sized = (r.refilled col₀).sized;
        after_refill = λ log k.
            let s = (r.refilled col₀).after_refill log k in
            let e : rows R.lanes held₀ iters₀ (fresh R held₀ iters₀ col₀) ≡ rows R.lanes held₀ iters₀ col₀ = at_start in
            subst (λ (ls : List (Lane X)). Stands R (each (fill R.words) ls (stock R next₀ log)) held' iters col next memory) e
            (record { lanes_are = at_end_lem ∙ s.lanes_are; queue_is = s.queue_is; log_is = s.log_is });
        busy_is = (r.refilled col₀).busy_is;
      }
    where
      kept_col : (l : ℕ) → l < R.lanes → get_or held₀ l 0 ≢ 0 → fresh R held₀ iters₀ col₀ l ≡ col₀ l
      kept_col l h n = unfold fresh in ap (λ t. cond t (R.words.begin (get_or held₀ l 0 - 1)) (col₀ l)) (ne_eqb (get_or iters₀ l 0) 0 (begun l h n))

      at_start : rows R.lanes held₀ iters₀ (fresh R held₀ iters₀ col₀) ≡ rows R.lanes held₀ iters₀ col₀
      at_start = rows_ext R.lanes held₀ iters₀ held₀ iters₀ _ _ (λ l h. lane_same (get_or held₀ l 0) _ _ (get_or iters₀ l 0) (kept_col l h))

      at_end_lem : rows R.lanes held' iters col ≡ rows R.lanes held' iters (fresh R held' iters col₀)
      at_end_lem = rows_ext R.lanes held' iters held' iters _ _ (λ l h. lane_same (get_or held' l 0) _ _ (get_or iters l 0) (loaded l h))
