use Rattle.std.proofs.Common.{subst, take, drop, Option, Some, None, List, ℕ, ◌≢◌, length, sym, get_or, rules, ◌≡◌, ◌<◌, ◌-◌, ◌≤◌, refl, ap, ◌∙◌, Bool, true, false, length-set, set, arith}
use Rattle.std.proofs.lemmas.List.{get_or-replicate}
use Rattle.fixed_lanes.specs.Clear.{clear_lanes}
use Rattle.fixed_lanes.specs.Load.{Loaded}
use Rattle.decoder_words.specs.Fields.{own_part}
use Rattle.decoder_words.specs.Part.{own, middle, word_ends}
use Rattle.decoder_assign.specs.Taken.{iters_in, held_in, held_at_some, iters_at_some, held_at_none}
use Rattle.decoder_assign.specs.declared.Taken.{Taken}
use Rattle.decoder_lanes.specs.Load.{Fresh, loading_start, loading_skip, loading_load, loading_as, loading_end}
use Rattle.decoder_lanes.proofs.load.Goals as goal
use Rattle.decoder_lanes.proofs.load.Goals.{in-Some+then-t-eq0, in_default, in_default-via-in-None-1, in_default-via-in-Some+else-t-eq0}

pub loop-l-init : goal.loop-l-init
loop-l-init c =
    loading_start _ _ _ _ _ _ _ _ refl (λ k h. get_or-replicate {A = Bool} 64 k false false (omega (arith, h, c.requires.stored.0.fair.few_lanes)))

-- a held lane's word is one of the run's
word : (words lanes l : ℕ) (taken : List (Option Taken)) (t : Taken) → ((k : ℕ) → k < lanes → get_or (held_in taken) k 0 ≢ 0 → get_or (held_in taken) k 0 - 1 < words)
    → l < lanes → get_or taken l None ≡ Some t → t.word < words
word words lanes l taken t held h e = let f = held_at_some taken l t e in omega (arith, f, held l h (λ z. omega (arith, f, z)))

pub overflow_cast-w : goal.overflow_cast-w
overflow_cast-w c =
    let f : c.in-Some.t.word < 4096 = omega (arith, word _ _ _ _ _ c.requires.held_words c.loop-l-test.true c.in-Some.is, c.requires.stored.0.fair.few_words) in
    search rules

pub own_range-requires : goal.own_range-requires
own_range-requires c =
    let fair = c.requires.stored.0.fair in
    (fair.code.n_le, omega (arith, word _ _ _ _ _ c.requires.held_words c.loop-l-test.true c.in-Some.is, fair.few_words))

pub slice_bounds-own-end : goal.slice_bounds-own-end
slice_bounds-own-end c =
    let n = c.args.plan.sizes.n in
    let r = word_ends n c.in-Some.t.word c.args.plan.words (word _ _ _ _ _ c.requires.held_words c.loop-l-test.true c.in-Some.is) in
    let e : c.own_range.result.end ≤ length c.args.soft.now = rw c.own_range.ensures (omega (arith, r, c.requires.stored.1)) in
    let s : c.own_range.result.start ≤ c.own_range.result.end = rw c.own_range.ensures (omega arith) in
    search rules

pub loop-l-preserved : goal.loop-l-preserved
loop-l-preserved c =
    elim c.match-taken-l.branch [
      | in-Some+then-t-eq0 w ↦
          let h = held_at_some c.args.taken.now c.loop-l.l w.in-Some.t w.in-Some.is in
          let i = iters_at_some c.args.taken.now c.loop-l.l w.in-Some.t w.in-Some.is in
          let g : get_or (held_in c.args.taken.now) c.loop-l.l 0 - 1 ≡ w.in-Some.t.word = omega (arith, h) in
          let long = middle c.args.plan.sizes.n w.in-Some.t.word c.args.soft.now w.own_range.result w.own_range.ensures c.args.plan.words (word _ _ _ _ _ c.requires.held_words c.loop-l-test.true w.in-Some.is) (omega (arith, c.requires.stored.1)) in
          loading_as _ _ _ _ _ _ w.work-is w.fresh-is
          (loading_load _ _ _ _ _ _ _ c.loop-l.l _ _ c.loop-l.fresh (set c.loop-l.fresh c.loop-l.l true) c.loop-l-test.true
          c.requires.stored.0.fair.few_lanes c.loop-l.invariant ((λ z. omega (arith, h, z)), i ∙ w.if-t-eq0.true) _
          (own _ _ _ _ w.own_range.ensures ∙ ap (λ k. own_part c.args.plan.sizes.n k c.args.soft.now) (sym g))
          (subst (λ (k : ℕ). Loaded k c.args.plan.lanes c.loop-l.l (take (w.own_range.result.end - w.own_range.result.start) (drop w.own_range.result.start c.args.soft.now)) c.loop-l.work w.load.new.work) long w.load.ensures) refl
          (length-set c.loop-l.fresh c.loop-l.l true ∙ c.loop-l.invariant.size))
      | in_default w ↦
          let stale : Fresh (held_in c.args.taken.now) (iters_in c.args.taken.now) c.loop-l.l → ⊥ =
          elim w.in_default.branch [
            | in_default-via-in-None-1 v ↦ let n : get_or c.args.taken.now c.loop-l.l None ≡ None = cc in λ f. f.0 (held_at_none c.args.taken.now c.loop-l.l n)
            | in_default-via-in-Some+else-t-eq0 v ↦ λ f. v.if-t-eq0.false (sym (iters_at_some c.args.taken.now c.loop-l.l v.in-Some.t v.in-Some.is) ∙ f.1)
          ] in
          loading_as _ _ _ _ _ _ w.work-is w.fresh-is (loading_skip _ _ _ _ _ _ _ _ _ _ c.loop-l-test.true c.loop-l.invariant stale)
    ]

pub returns : goal.returns
returns c = loading_end _ _ _ _ _ _ _ c.loop-l.l _ _ _ (omega arith) c.loop-l.invariant (clear_lanes (omega (arith, c.loop-l.invariant.size, c.requires.stored.0.fair.few_lanes)) c.clear_messages.ensures)
