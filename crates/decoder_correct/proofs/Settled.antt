-- What holds of settling: by the state; one word; all of them, one after the other; what memory then says (`settles_all`). Proofs, not specs, since
-- a wrong definition shall be refused for what it means (must-fail/counted_after_bch.edit, first_words_soft_values.edit).
use Rattle.std.specs.Prelude.{◌≡◌, ◌≢◌, Bool, List, ℕ, ◌+◌, ◌*◌, ◌≤◌, ◌<◌, ltb, ℤ, take}
use Rattle.std.proofs.Math.Path.{refl, sym, ap, subst}
use Rattle.std.proofs.Common.{◌∙◌, arith, ltb-true, ltb-false, lt-ltb, le-ltb, eq-eqb, ne_eqb, drop_of_length-le}
use Rattle.std.proofs.Math.Bool.{true, false, cond}
use Rattle.std.proofs.Math.ListN.{length}
use Rattle.iteration.specs.Check.{Word}
use Rattle.iteration.specs.Iteration.{Code}
use Rattle.schedule.specs.Status.{Status, waiting, holding, done}
use Rattle.outcome.specs.Outcome.{begin, outcome_of, state_of, met_of, corrected, bch_of}
use Rattle.outcome.proofs.Corrected.{corrected_length}
use Rattle.outcome.specs.Changed.{changed_bits, changed_is}
use Rattle.decoder_words.specs.Fields.{fields, entry, own_part, record_at}
use Rattle.decoder_words.specs.Noting.{with_results}
use Rattle.decoder_words.specs.Book.{Book, View, seen, view}
use Rattle.decoder_words.specs.Written.{Only, same_refl, same_on}
use Rattle.decoder_words.specs.Shows.{Over, Held, Shows}
use Rattle.decoder_words.specs.Given.{ShownIn}
use Rattle.decoder_plan.specs.declared.Part.{Part}
use Rattle.decoder_plan.specs.declared.Plan.{Plan}
use Rattle.decoder_words.specs.declared.Noted.{Noted}
use Rattle.decoder_correct.specs.Tells.{Holds, HasOutcome, Tells}
use Rattle.decoder_correct.specs.Settle.{bch_by, bits_by, resulting, settled, settled_in, Settles, Settling}

module _ (n : ℕ) (part : Part) (own : List ℤ) (v : View) where
  pub settled_not : v.state ≡ 0 → settled n part own v ≡ v
  unfolding settled
  settled_not h = ap (λ (b : Bool). cond b v (resulting n part own v)) (eq-eqb v.state 0 h)

  pub settled_some : v.state ≢ 0 → settled n part own v ≡ resulting n part own v
  unfolding settled
  settled_some h = ap (λ (b : Bool). cond b v (resulting n part own v)) (ne_eqb v.state 0 h)

-- ---- by the state
module _ (part : Part) (state : ℕ) (bits : List ℕ) where
  pub bch_kept : (bch : ℕ) → state < 2 → bch ≡ bch_by part state bch bits
  unfolding bch_by
  bch_kept bch h = ap (λ (b : Bool). cond b bch (bch_of part bits)) (sym (lt-ltb state 2 h))

  pub bch_over : (bch : ℕ) → 2 ≤ state → bch_of part bits ≡ bch_by part state bch bits
  unfolding bch_by
  bch_over bch h = ap (λ (b : Bool). cond b bch (bch_of part bits)) (sym (le-ltb state 2 h))

  pub bits_kept : state < 2 → bits ≡ bits_by part state bits
  unfolding bits_by
  bits_kept h = ap (λ (b : Bool). cond b bits (corrected part bits)) (sym (lt-ltb state 2 h))

  pub bits_over : 2 ≤ state → corrected part bits ≡ bits_by part state bits
  unfolding bits_by
  bits_over h = ap (λ (b : Bool). cond b bits (corrected part bits)) (sym (le-ltb state 2 h))

  pub bits_by_length : length (bits_by part state bits) ≡ length bits
  unfolding bits_by
  bits_by_length = at (ltb state 2)
    where
      at : (b : Bool) → length (cond b bits (corrected part bits)) ≡ length bits
      at true = refl
      at false = corrected_length part bits

-- ---- one word

module _ (n w : ℕ) (part : Part) (own : List ℤ) (B : Book) (was : Noted) (is : was ≡ record_at B.records w) where
  state_is : was.state ≡ (view n B w).state
  unfolding view
  state_is = ap (λ (r : Noted). r.state) is

  pub waits_so : was.state ≡ 0 → view n B w ≡ settled n part own (view n B w)
  waits_so h = sym (settled_not n part own (view n B w) (sym state_is ∙ h))

  pub settled_so : was.state ≢ 0 → (result changed : ℕ) (bits : List ℕ) → result ≡ bch_by part was.state was.bch (own_part n w B.out)
      → changed ≡ changed_bits n (begin n own) (own_part n w B.out) → bits ≡ bits_by part was.state (own_part n w B.out)
      → seen (with_results was result changed) bits ≡ settled n part own (view n B w)
  unfolding view
  settled_so h result changed bits e c f =
      (λ j. seen (with_results was (e j) (c j)) (f j))
      ∙ ap (λ (r : Noted). resulting n part own (seen r (own_part n w B.out))) is
      ∙ sym (settled_some n part own (view n B w) (λ z. h (state_is ∙ z)))

-- ---- all of them
pub settling_start : (plan : Plan) (soft : List ℤ) (B : Book) → Settling plan soft B 0 B
settling_start plan soft B = record { below = λ u h. absurd (omega (arith, h)); above = λ u h. refl; tail = refl; same = same_refl B }

pub settling_again : (plan : Plan) (soft : List ℤ) (B : Book) (w : ℕ) (B' B'' : Book) → w < plan.words → Only plan.sizes.n w B' B''
    → view plan.sizes.n B'' w ≡ settled_in plan soft B' w → Settling plan soft B w B' → Settling plan soft B (w + 1) B''
settling_again plan soft B w B' B'' h o e t =
    record {
      below = λ u g. at u g (ltb u w) refl;
      above = λ u g. o.others u (λ q. absurd (omega (arith, g, q))) ∙ t.above u (omega (arith, g));
      tail = o.tail plan.words h ∙ t.tail;
      same = same_on t.same o.same;
    }
  where
    here : view plan.sizes.n B'' w ≡ settled_in plan soft B w
    here = e ∙ ap (settled plan.sizes.n plan.part (own_part plan.sizes.n w soft)) (t.above w (omega arith))

    at : (u : ℕ) → u < w + 1 → (b : Bool) → ltb u w ≡ b → view plan.sizes.n B'' u ≡ settled_in plan soft B u
    at u g true q = let l = ltb-true u w q in o.others u (λ z. absurd (omega (arith, l, z))) ∙ t.below u l
    at u g false q =
        let z : w ≡ u = omega (arith, g, ltb-false u w q) in
        subst (λ k. view plan.sizes.n B'' k ≡ settled_in plan soft B k) z here

-- past the records' end there are zeros
pub past_waits : (n words w : ℕ) (B : Book) → length B.records ≡ words * fields → words ≤ w → (view n B w).state ≡ 0
unfolding view record_at own_part
past_waits n words w B long h =
    ap (λ (l : List ℕ). (entry (take fields l)).state) (drop_of_length-le B.records {i = w * fields} (omega (arith, long, h)))

pub settling_end : (plan : Plan) (soft : List ℤ) (B : Book) (w : ℕ) (B' : Book) → w ≡ plan.words → length B.records ≡ plan.words * fields → Settling plan soft B w B' → Settles plan soft B B'
settling_end plan soft B w B' is long t = record { each = λ u. at u (ltb u w) refl; tail = t.tail; same = t.same }
  where
    at : (u : ℕ) (b : Bool) → ltb u w ≡ b → view plan.sizes.n B' u ≡ settled_in plan soft B u
    at u true q = t.below u (ltb-true u w q)
    at u false q =
        let g = ltb-false u w q in
        t.above u g
        ∙ sym (settled_not plan.sizes.n plan.part (own_part plan.sizes.n u soft) (view plan.sizes.n B u)
        (past_waits plan.sizes.n plan.words u B long (omega (arith, g, is))))

-- ---- what memory then says
over_state : (b : Bool) → 2 ≤ state_of b
over_state true = omega arith
over_state false = omega arith

module _ (code : Code) (n p : ℕ) (part : Part) (own : List ℤ) where
  holds_so : (x : Word) (i : ℕ) (v : View) → Held code n p x i v → Holds code n p (begin n own) x i (settled n part own v)
  holds_so x i v t =
      let low : v.state < 2 = omega (arith, t.state_is) in
      subst (Holds code n p (begin n own) x i) (sym (settled_some n part own v (λ z. absurd (omega (arith, t.state_is, z)))))
      (record {
        state = t.state_is;
        iterations = t.iterations;
        unsatisfied = t.unsatisfied;
        named = t.named;
        bch = sym (bch_kept part v.state v.bits v.bch low) ∙ t.bch;
        changed = changed_is n (begin n own) x v.bits t.bits;
        bits = sym (bits_kept part v.state v.bits low) ∙ t.bits;
      })

  ends_so : (x : Word) (i : ℕ) (v : View) → Over code n p x i v → HasOutcome code n p part (begin n own) x i (settled n part own v)
  unfolding outcome_of
  ends_so x i v t =
      let high : 2 ≤ v.state = omega (arith, t.state_is, over_state (met_of code p x)) in
      subst (HasOutcome code n p part (begin n own) x i) (sym (settled_some n part own v (λ z. absurd (omega (arith, high, z)))))
      (record {
        outcome = λ j.
            record {
              bits = (sym (bits_over part v.state v.bits high) ∙ ap (corrected part) t.bits) j;
              state = t.state_is j;
              iterations = t.iterations j;
              unsatisfied = t.unsatisfied j;
              bch = (sym (bch_over part v.state v.bits v.bch high) ∙ ap (bch_of part) t.bits) j;
              changed = changed_is n (begin n own) x v.bits t.bits j;
            };
        named = t.named;
      })

  settled_tells : (bits : List ℕ) (st : Status Word) (v : View) → Shows code n p bits st v → Tells code n p part bits (begin n own) st (settled n part own v)
  settled_tells bits waiting v t = settled_not n part own v (ap (λ (u : View). u.state) t) ∙ t
  settled_tells bits (holding x i) v t = holds_so x i v t
  settled_tells bits (done x i) v t = ends_so x i v t

-- of every word, whatever it is after the rounds
pub settles_all : (code : Code) (plan : Plan) (soft : List ℤ) (old : ℕ → List ℕ) (memory : ℕ → Status Word) (B B' : Book) → Settles plan soft B B'
    → ShownIn code plan old memory B
    → (w : ℕ) → Tells code plan.sizes.n plan.sizes.p plan.part (old w) (begin plan.sizes.n (own_part plan.sizes.n w soft)) (memory w)
    (view plan.sizes.n B' w)
settles_all code plan soft old memory B B' s t w =
    subst
    (λ (v : View). Tells code plan.sizes.n plan.sizes.p plan.part (old w) (begin plan.sizes.n (own_part plan.sizes.n w soft)) (memory w) v)
    (sym (s.each w))
    (settled_tells code plan.sizes.n plan.sizes.p plan.part (own_part plan.sizes.n w soft) (old w) (memory w) (view plan.sizes.n B w) (t w))
