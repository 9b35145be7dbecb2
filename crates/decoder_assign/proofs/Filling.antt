-- Lane by lane, lowest first: no lane that has had its turn is empty while a word waits; up to what `Assigns` (specs/Assign.antt) says of it.
use Rattle.std.proofs.Common.{◌≡◌, ◌≢◌, Bool, true, false, List, ℕ, ◌+◌, ◌≤◌, ◌<◌, ℤ, length, get_or, set, sym, ◌∙◌, arith, below_more}
use Rattle.std.proofs.Math.Seq.{get_or-set_other}
use Rattle.iteration.specs.Iteration.{Code}
use Rattle.schedule.specs.Lanes.{any_held}
use Rattle.schedule.proofs.Refill.{assigning_end}
use Rattle.outcome.specs.Outcome.{begin}
use Rattle.decoder_words.specs.Fields.{own_part}
use Rattle.decoder_words.specs.Book.{Book, view}
use Rattle.decoder_words.specs.Written.{Only}
use Rattle.decoder_words.specs.Shows.{Over}
use Rattle.decoder_words.specs.Given.{setup}
use Rattle.decoder_plan.specs.declared.Plan.{Plan}
use Rattle.decoder_assign.specs.Assign.{Assigns}
use Rattle.decoder_assign.proofs.Taking.{Takes, AtOnce, takes_start, takes_on, takes_quick, takes_hold}

module _ (code : Code) (plan : Plan) (soft : List ℤ) (order : List ℕ) where
  -- and no lane below l is empty while a word waits
  pub record Filling (held₀ iters₀ : List ℕ) (next₀ : ℕ) (B₀ : Book) (l : ℕ) (held iters : List ℕ) (next : ℕ) (B : Book) : Type 0 where
    pub takes : Takes code plan soft order held₀ iters₀ next₀ B₀ held iters next B
    pub full : next < length order → (k : ℕ) → k < l → get_or held k 0 ≢ 0

  pub filling_start : (held iters : List ℕ) (next : ℕ) (B : Book) → next ≤ length order → Filling held iters next B 0 held iters next B
  filling_start held iters next B h = record { takes = takes_start code plan soft order held iters next B h; full = λ _ k q. absurd (omega (arith, q)) }

  module _ {held₀ iters₀ : List ℕ} {next₀ : ℕ} {B₀ : Book} {l : ℕ} {held iters : List ℕ} {next : ℕ} {B : Book} (a : Filling held₀ iters₀ next₀ B₀ l held iters next B) where
    -- lane l is held, or no word waits
    pub filling_next : (get_or held l 0 ≡ 0 → length order ≤ next) → Filling held₀ iters₀ next₀ B₀ (l + 1) held iters next B
    filling_next f = record { takes = a.takes; full = λ g. below_more (λ k. get_or held k 0 ≢ 0) l (a.full g) (λ e. absurd (omega (arith, f e, g))) }

    pub filling_end : (busy : Bool) → l ≡ plan.lanes → busy ≡ any_held held plan.lanes → Assigns code plan soft order held₀ iters₀ next₀ B₀ held iters next busy B
    unfolding setup
    filling_end busy e b =
        record {
          same = a.takes.same;
          tail = a.takes.tail;
          assigned = λ iterate old memory₀ t.
              let x = a.takes.taking iterate old memory₀ t in
              (x.0, x.1, assigning_end (setup code iterate plan soft order) held₀ iters₀ next₀ memory₀ held iters next x.0 busy x.2 (λ g k h. a.full g k (omega arith)) b);
        }

    module _ (in-lanes : l < plan.lanes) (none : get_or held l 0 ≡ 0) (some : next < length order) (once : Bool)
        (is : AtOnce code plan soft order next once) where
      pub filling_quick : (B' : Book) → once ≡ true → get_or order next 0 < plan.words → Only plan.sizes.n (get_or order next 0) B B'
          → Over code plan.sizes.n plan.sizes.p (begin plan.sizes.n (own_part plan.sizes.n (get_or order next 0) soft)) 0 (view plan.sizes.n B' (get_or order next 0))
          → Filling held₀ iters₀ next₀ B₀ l held iters (next + 1) B'
      filling_quick B' y few o e =
          record {
            takes = takes_on code plan soft order a.takes (takes_quick code plan soft order held iters next B l in-lanes (a.full some) none some once is B' y few o e);
            full = λ g. a.full some;
          }

      pub filling_hold : once ≡ false → plan.lanes ≤ length held → plan.lanes ≤ length iters
          → Filling held₀ iters₀ next₀ B₀ l (set held l (get_or order next 0 + 1)) (set iters l 0) (next + 1) B
      filling_hold z h i =
          record {
            takes = takes_on code plan soft order a.takes (takes_hold code plan soft order held iters next B l in-lanes (a.full some) none some once is z h i);
            full = λ g k q e. a.full some k q (sym (get_or-set_other held l k (get_or order next 0 + 1) 0 (λ m. omega (arith, q))) ∙ e);
          }
