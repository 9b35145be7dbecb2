-- Refilling, step by step: the lowest empty lane takes the next word, or the word leaves at once.
use Rattle.std.specs.Prelude.{◌≡◌, refl, ◌≢◌, Bool, true, false, ◌||◌, List, ℕ, ◌+◌, ◌*◌, ◌≤◌, ◌<◌, eqb, ℤ, length, get_or, set, drop}
use Rattle.std.proofs.Common.{sym, ◌∙◌, arith}
use Rattle.std.proofs.Math.ListN.{length-set}
use Rattle.laws.specs.Put.{put_same, put_other}
use Rattle.laws.specs.Definitions.{put}
use Rattle.iteration.specs.Check.{Word}
use Rattle.iteration.specs.Iteration.{Code}
use Rattle.schedule.specs.Run.{over}
use Rattle.schedule.specs.Status.{Status, done}
use Rattle.schedule.specs.Refill.{Assigning}
use Rattle.schedule.proofs.Refill.{assigning_start, assigning_on, assigning_quick, assigning_hold}
use Rattle.outcome.specs.Outcome.{begin, met_of}
use Rattle.decoder_words.specs.Fields.{own_part}
use Rattle.decoder_words.specs.Book.{Book, view}
use Rattle.decoder_words.specs.Run.{words_of}
use Rattle.decoder_words.specs.Written.{Same, Only, same_refl, same_on}
use Rattle.decoder_words.specs.Shows.{Over, shown_put}
use Rattle.decoder_words.specs.Given.{setup, ShownIn}
use Rattle.decoder_plan.specs.declared.Plan.{Plan}

module _ (code : Code) (plan : Plan) (soft : List ℤ) (order : List ℕ) where
  -- on the way
  pub record Takes (held₀ iters₀ : List ℕ) (next₀ : ℕ) (B₀ : Book) (held iters : List ℕ) (next : ℕ) (B : Book) : Type 0 where
    pub same : Same B₀ B
    pub tail : drop (plan.words * plan.sizes.n) B.out ≡ drop (plan.words * plan.sizes.n) B₀.out
    pub later : next₀ ≤ next
    pub in_order : next ≤ length order
    pub held_fit : length held ≡ length held₀
    pub iters_fit : length iters ≡ length iters₀
    pub taking : (iterate : Word → Word) (old : ℕ → List ℕ) (memory₀ : ℕ → Status Word) → ShownIn code plan old memory₀ B₀
        → (memory : ℕ → Status Word) × ShownIn code plan old memory B × Assigning (setup code iterate plan soft order) held₀ iters₀ next₀ memory₀ held iters next memory

  pub takes_start : (held iters : List ℕ) (next : ℕ) (B : Book) → next ≤ length order → Takes held iters next B held iters next B
  unfolding setup
  takes_start held iters next B h =
      record {
        same = same_refl B;
        tail = refl;
        later = omega arith;
        in_order = h;
        held_fit = refl;
        iters_fit = refl;
        taking = λ iterate old memory t. (memory, t, assigning_start (setup code iterate plan soft order) held iters next memory h);
      }

  pub takes_on : {held₀ iters₀ : List ℕ} {next₀ : ℕ} {B₀ : Book} {held₁ iters₁ : List ℕ} {next₁ : ℕ} {B₁ : Book} {held iters : List ℕ} {next : ℕ} {B : Book}
      → Takes held₀ iters₀ next₀ B₀ held₁ iters₁ next₁ B₁ → Takes held₁ iters₁ next₁ B₁ held iters next B → Takes held₀ iters₀ next₀ B₀ held iters next B
  takes_on a b =
      record {
        same = same_on a.same b.same;
        tail = b.tail ∙ a.tail;
        later = omega (arith, a.later, b.later);
        in_order = b.in_order;
        held_fit = b.held_fit ∙ a.held_fit;
        iters_fit = b.iters_fit ∙ a.iters_fit;
        taking = λ iterate old memory₀ t.
            let x = a.taking iterate old memory₀ t in
            let y = b.taking iterate old x.0 x.1 in
            (y.0, y.1, assigning_on (setup code iterate plan soft order) x.2 y.2);
      }

  -- the word that is next leaves at once
  abbrev pub AtOnce : ℕ → Bool → Type 0
  AtOnce next once = once ≡ (met_of code plan.sizes.p (begin plan.sizes.n (own_part plan.sizes.n (get_or order next 0) soft)) || eqb 0 plan.limits.iterations)

  -- lane l is the lowest empty lane, and a word waits
  module _ (held iters : List ℕ) (next : ℕ) (B : Book) (l : ℕ) (in-lanes : l < plan.lanes) (p : (k : ℕ) → k < l → get_or held k 0 ≢ 0) (none : get_or held l 0 ≡ 0) (some : next < length order)
      (once : Bool) (is : AtOnce next once) where
    abbrev W : ℕ
    W = get_or order next 0

    abbrev X : Word
    X = begin plan.sizes.n (own_part plan.sizes.n W soft)

    -- the word leaves at once
    pub takes_quick : (B' : Book) → once ≡ true → W < plan.words → Only plan.sizes.n W B B' → Over code plan.sizes.n plan.sizes.p X 0 (view plan.sizes.n B' W)
        → Takes held iters next B held iters (next + 1) B'
    unfolding setup words_of over
    takes_quick B' y few o e =
        record {
          same = o.same;
          tail = o.tail plan.words few;
          later = omega arith;
          in_order = omega arith;
          held_fit = refl;
          iters_fit = refl;
          taking = λ iterate old memory t. (
            put memory W (done X 0),
            shown_put code plan.sizes.n plan.sizes.p old memory B B' W (done X 0) t o e,
            assigning_quick (setup code iterate plan soft order) held iters next memory l in-lanes p none some (put memory W (done X 0)) (sym is ∙ y)
                (put_same memory W (done X 0)) (put_other memory W (done X 0)),
          );
        }

    -- the lane takes the word
    pub takes_hold : once ≡ false → plan.lanes ≤ length held → plan.lanes ≤ length iters → Takes held iters next B (set held l (W + 1)) (set iters l 0) (next + 1) B
    unfolding setup words_of over
    takes_hold z a b =
        record {
          same = same_refl B;
          tail = refl;
          later = omega arith;
          in_order = omega arith;
          held_fit = length-set held l (W + 1);
          iters_fit = length-set iters l 0;
          taking = λ iterate old memory t. (
            memory,
            t,
            assigning_hold (setup code iterate plan soft order) held iters next memory l in-lanes p none some a b (sym is ∙ z),
          );
        }
