-- The tests of a run's refusals, one after the other, and what none of them leaves.
--
-- In order: the first test that holds gives the number; what none of them leaves (`Accepted`); what the tests in the middle show; room for 4,096
-- words is as good as more (`enough_room`).
--
-- Not here: the refusals of the code (ldpc_shape, Accepted).
use Rattle.std.specs.Prelude.{◌≡◌, refl, Bool, true, false, not, ◌||◌, cond, List, ℕ, zero, suc, ◌+◌, ◌*◌, ◌/◌, ◌%◌, ◌≤◌, ◌<◌, eqb, T}
use Rattle.std.proofs.Math.Path.{sym}
use Rattle.std.proofs.Common.{ap, ◌∙◌, subst, arith, eqb-true, ltb-true, ltb-false, le-ltb}
use borrow.Author.Tests.{eqb-false, not-false}
use Rattle.std.proofs.Math.Dec.{ltb}
use Rattle.laws.specs.Choice.{or_left, or_right}
use Rattle.ldpc_shape.specs.Shape.{sizes_of, code_refusal}
use Rattle.ldpc_shape.specs.declared.Sizes.{Sizes}
use Rattle.decoder_plan.specs.declared.Schedule.{Schedule}
use Rattle.decoder_plan.specs.declared.Schedule.TheVariants.{Sequential, Layered}
use Rattle.decoder_plan.specs.declared.Settings.{Settings}
use Rattle.decoder_plan.specs.Plan.{is_layered, step_of}
use Rattle.decoder_refuse.specs.Refusal.{bad_lanes, bad_words, bad_limit, bad_step, bad_part, too_short, out_need, work_need, lists_need, first_of, first_refusal}
use Rattle.decoder_refuse.specs.declared.Lent.{Lent}

-- ---- the first test that holds gives the number
pub first_code : (code : ℕ) (lanes words limit step part short : Bool) → (code ≡ 0 → ⊥) → code ≡ first_of code lanes words limit step part short
unfolding first_of
first_code zero lanes words limit step part short n = absurd (n refl)
first_code (suc code) lanes words limit step part short n = refl

module _ (code : ℕ) (lanes words limit step part short : Bool) (c : code ≡ 0) where
  pub first_lanes : lanes ≡ true → 7 ≡ first_of code lanes words limit step part short
  unfolding first_of
  first_lanes l = sym (λ i. first_of (c i) (l i) words limit step part short)

  pub first_words : lanes ≡ false → words ≡ true → 8 ≡ first_of code lanes words limit step part short
  unfolding first_of
  first_words l w = sym (λ i. first_of (c i) (l i) (w i) limit step part short)

  pub first_limit : lanes ≡ false → words ≡ false → limit ≡ true → 9 ≡ first_of code lanes words limit step part short
  unfolding first_of
  first_limit l w m = sym (λ i. first_of (c i) (l i) (w i) (m i) step part short)

  pub first_step : lanes ≡ false → words ≡ false → limit ≡ false → step ≡ true → 10 ≡ first_of code lanes words limit step part short
  unfolding first_of
  first_step l w m s = sym (λ i. first_of (c i) (l i) (w i) (m i) (s i) part short)

  pub first_part : lanes ≡ false → words ≡ false → limit ≡ false → step ≡ false → part ≡ true → 11 ≡ first_of code lanes words limit step part short
  unfolding first_of
  first_part l w m s p = sym (λ i. first_of (c i) (l i) (w i) (m i) (s i) (p i) short)

  pub first_short : lanes ≡ false → words ≡ false → limit ≡ false → step ≡ false → part ≡ false → short ≡ true → 13 ≡ first_of code lanes words limit step part short
  unfolding first_of
  first_short l w m s p t = sym (λ i. first_of (c i) (l i) (w i) (m i) (s i) (p i) (t i))

  pub first_none : lanes ≡ false → words ≡ false → limit ≡ false → step ≡ false → part ≡ false → short ≡ false → 0 ≡ first_of code lanes words limit step part short
  unfolding first_of
  first_none l w m s p t = sym (λ i. first_of (c i) (l i) (w i) (m i) (s i) (p i) (t i))

-- ---- what none of them leaves
pub record Accepted (n : ℕ) (lens addrs : List ℕ) (set : Settings) (lent : Lent) : Type 0 where
  pub code : code_refusal n lens addrs ≡ 0
  pub some_lanes : 0 < set.lanes
  pub few_lanes : set.lanes ≤ 64
  pub whole : lent.soft % n ≡ 0
  pub few_words : lent.soft / n ≤ 4096
  pub limit_fits : set.limits.iterations ≤ 65535
  pub step_some : is_layered set.schedule ≡ true → 0 < step_of set.schedule
  pub part_long : 193 ≤ set.part.length
  pub part_short : set.part.length ≤ 65535
  pub part_within : set.part.first + set.part.length ≤ n
  pub out_fits : lent.soft / n * n ≤ lent.out
  pub room_fits : lent.soft / n ≤ lent.room
  pub work_fits : work_need (sizes_of n lens addrs) set.lanes ≤ lent.work
  pub lists_fit : lists_need (sizes_of n lens addrs) ≤ lent.lists

pub record Passed (code : ℕ) (lanes words limit step part short : Bool) : Type 0 where
  pub code_is : code ≡ 0
  pub lanes_is : lanes ≡ false
  pub words_is : words ≡ false
  pub limit_is : limit ≡ false
  pub step_is : step ≡ false
  pub part_is : part ≡ false
  pub short_is : short ≡ false

passed : (code : ℕ) (lanes words limit step part short : Bool) → first_of code lanes words limit step part short ≡ 0 → Passed code lanes words limit step part short
unfolding first_of
passed (suc code) lanes words limit step part short e = absurd (omega arith)
passed zero true words limit step part short e = absurd (omega arith)
passed zero false true limit step part short e = absurd (omega arith)
passed zero false false true step part short e = absurd (omega arith)
passed zero false false false true part short e = absurd (omega arith)
passed zero false false false false true short e = absurd (omega arith)
passed zero false false false false false true e = absurd (omega arith)
passed zero false false false false false false e = record { code_is = refl; lanes_is = refl; words_is = refl; limit_is = refl; step_is = refl; part_is = refl; short_is = refl }

step_of_layers : (s : Schedule) → bad_step s ≡ false → is_layered s ≡ true → 0 < step_of s
step_of_layers Sequential e l = absurd (subst T (sym l) tt)
step_of_layers (Layered step) e l = omega (arith, eqb-false step 0 e)

pub accepted : (n : ℕ) (lens addrs : List ℕ) (set : Settings) (lent : Lent) → first_refusal n lens addrs set lent ≡ 0 → Accepted n lens addrs set lent
unfolding first_refusal bad_lanes bad_words bad_limit bad_part too_short out_need
accepted n lens addrs set lent h =
    let of : Sizes = sizes_of n lens addrs in
    let p = passed _ _ _ _ _ _ _ h in
    let lanes₀ = eqb set.lanes 0 in
    let words₀ = not (eqb (lent.soft % n) 0) in
    let part₀ = ltb set.part.length 193 in
    let part₁ = ltb 65535 set.part.length in
    let part₂ = ltb n (set.part.first + set.part.length) in
    let short₀ = ltb lent.out (lent.soft / n * n) in
    let short₁ = ltb lent.room (lent.soft / n) in
    let short₂ = ltb lent.work (work_need of set.lanes) in
    let short₃ = ltb lent.lists (lists_need of) in
    let part = or_right part₀ (part₁ || part₂) p.part_is in
    let after-out = or_right short₀ (short₁ || (short₂ || short₃)) p.short_is in
    let after-room = or_right short₁ (short₂ || short₃) after-out in
    record {
      code = p.code_is;
      some_lanes = omega (arith, eqb-false set.lanes 0 (or_left lanes₀ (ltb 64 set.lanes) p.lanes_is));
      few_lanes = ltb-false 64 set.lanes (or_right lanes₀ (ltb 64 set.lanes) p.lanes_is);
      whole = eqb-true (lent.soft % n) 0 (not-false _ (or_left words₀ (ltb 4096 (lent.soft / n)) p.words_is));
      few_words = ltb-false 4096 (lent.soft / n) (or_right words₀ (ltb 4096 (lent.soft / n)) p.words_is);
      limit_fits = ltb-false 65535 set.limits.iterations p.limit_is;
      step_some = step_of_layers set.schedule p.step_is;
      part_long = ltb-false set.part.length 193 (or_left part₀ (part₁ || part₂) p.part_is);
      part_short = ltb-false 65535 set.part.length (or_left part₁ part₂ part);
      part_within = ltb-false n (set.part.first + set.part.length) (or_right part₁ part₂ part);
      out_fits = ltb-false lent.out (lent.soft / n * n) (or_left short₀ (short₁ || (short₂ || short₃)) p.short_is);
      room_fits = ltb-false lent.room (lent.soft / n) (or_left short₁ (short₂ || short₃) after-out);
      work_fits = ltb-false lent.work (work_need of set.lanes) (or_left short₂ short₃ after-room);
      lists_fit = ltb-false lent.lists (lists_need of) (or_right short₂ short₃ after-room);
    }

-- ---- what the tests in the middle show
pub lanes_few : (lanes : ℕ) → bad_lanes lanes ≡ false → lanes ≤ 64
unfolding bad_lanes
lanes_few lanes e = ltb-false 64 lanes (or_right (eqb lanes 0) (ltb 64 lanes) e)

pub words_few : (n soft : ℕ) → bad_words n soft ≡ false → soft / n ≤ 4096
unfolding bad_words
words_few n soft e = ltb-false 4096 (soft / n) (or_right (not (eqb (soft % n) 0)) (ltb 4096 (soft / n)) e)

-- ---- room for 4,096 words is as good as more: a run with more words is refused by 8
abbrev pub with_room : ℕ → Lent → Lent
with_room room lent = record { soft = lent.soft; room = room; out = lent.out; work = lent.work; lists = lent.lists }

room_test : (words room : ℕ) → words ≤ 4096 → ltb (cond (ltb 4096 room) 4096 room) words ≡ ltb room words
room_test words room h = at (ltb 4096 room) refl
  where
    at : (b : Bool) → ltb 4096 room ≡ b → ltb (cond b 4096 room) words ≡ ltb room words
    at true e = let g = ltb-true 4096 room e in le-ltb 4096 words h ∙ sym (le-ltb room words (omega (arith, g, h)))
    at false e = refl

pub enough_room : (n : ℕ) (lens addrs : List ℕ) (set : Settings) (lent : Lent)
    → first_refusal n lens addrs set (with_room (cond (ltb 4096 lent.room) 4096 lent.room) lent) ≡ first_refusal n lens addrs set lent
unfolding first_refusal too_short bad_words first_of
enough_room n lens addrs set lent = at (ltb 4096 (lent.soft / n)) refl
  where
    rest : Bool → Bool → ℕ
    rest words short = first_of (code_refusal n lens addrs) (bad_lanes set.lanes) words (bad_limit set.limits.iterations) (bad_step set.schedule) (bad_part n set.part) short

    many : (a b : Bool) → rest true a ≡ rest true b
    many a b = go (code_refusal n lens addrs) (bad_lanes set.lanes)
      where
        go : (code : ℕ) (lanes : Bool) → first_of code lanes true (bad_limit set.limits.iterations) (bad_step set.schedule) (bad_part n set.part) a
            ≡ first_of code lanes true (bad_limit set.limits.iterations) (bad_step set.schedule) (bad_part n set.part) b
        go (suc code) lanes = refl
        go zero true = refl
        go zero false = refl

    or_true : (b : Bool) → (b || true) ≡ true
    or_true true = refl
    or_true false = refl

    short : ℕ → Bool
    short room = ltb lent.out (out_need n (lent.soft / n)) || (ltb room (lent.soft / n) || (ltb lent.work (work_need (sizes_of n lens addrs) set.lanes) || ltb lent.lists (lists_need (sizes_of n lens addrs))))

    at : (b : Bool) → ltb 4096 (lent.soft / n) ≡ b → rest (not (eqb (lent.soft % n) 0) || ltb 4096 (lent.soft / n)) (short (cond (ltb 4096 lent.room) 4096 lent.room))
        ≡ rest (not (eqb (lent.soft % n) 0) || ltb 4096 (lent.soft / n)) (short lent.room)
    at true e =
        let t : (not (eqb (lent.soft % n) 0) || ltb 4096 (lent.soft / n)) ≡ true = ap (λ (b : Bool). not (eqb (lent.soft % n) 0) || b) e ∙ or_true (not (eqb (lent.soft % n) 0)) in
        ap (λ (b : Bool). rest b (short (cond (ltb 4096 lent.room) 4096 lent.room))) t ∙ many _ _ ∙ sym (ap (λ (b : Bool). rest b (short lent.room)) t)
    at false e =
        ap (λ (b : Bool). rest (not (eqb (lent.soft % n) 0) || ltb 4096 (lent.soft / n)) (ltb lent.out (out_need n (lent.soft / n)) || (b || (ltb lent.work (work_need (sizes_of n lens addrs) set.lanes) || ltb lent.lists (lists_need (sizes_of n lens addrs))))))
        (room_test (lent.soft / n) lent.room (ltb-false 4096 (lent.soft / n) e))
