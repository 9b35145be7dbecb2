use Rattle.std.proofs.Common.{◌≡◌, refl, sym, ap, ◌∙◌, ℕ, ◌+◌, ◌<◌, Bool, true, false, not, ◌&&◌, eqb, List, Option, Some, None, is_some, get_or, arith, eq-eqb, ne_eqb}
use Rattle.schedule.specs.Lanes.{any_of}
use Rattle.schedule.proofs.Lanes.{any_start, any_again, any_not}
use Rattle.decoder_assign.specs.declared.Taken.{Taken}
use Rattle.decoder_assign.specs.Taken.{held_in, iters_in, held_is, iters_at_some}
use Rattle.decoder_retire.specs.Retire.{iterations_short}
use Rattle.decoder_retire.specs.Counts.{due_at}
use Rattle.decoder_retire.proofs.Words.due.Goals as goal
use Rattle.decoder_retire.proofs.Words.due.Goals.{in_default-via-in-None-1, in_default-via-in-Some+else-not-verdict-l, in_default-via-in-Some+then-not-verdict-l+else-t-self}

one : (f : ℕ → Bool) (m k : ℕ) → k < m → f k ≡ true → true ≡ any_of f m
one f m k h e = go (any_of f m) refl
  where
    go : (b : Bool) → any_of f m ≡ b → true ≡ any_of f m
    go true a = sym a
    go false a = let n = any_not f m k a h in cc

due_none : (taken : List (Option Taken)) (verdict : ℕ → Bool) (limit l : ℕ) → get_or taken l None ≡ None → due_at (held_in taken) (iters_in taken) verdict limit l ≡ false
due_none taken verdict limit l e = ap (λ b. b && (not (verdict l) && eqb (get_or (iters_in taken) l 0 + 1) limit)) (sym (held_is taken l) ∙ ap is_some e)

due_some : (taken : List (Option Taken)) (verdict : ℕ → Bool) (limit l : ℕ) (t : Taken) (met end : Bool) → get_or taken l None ≡ Some t → verdict l ≡ met → eqb (t.iterations + 1) limit ≡ end
    → due_at (held_in taken) (iters_in taken) verdict limit l ≡ (not met && end)
due_some taken verdict limit l t met end e v x =
    λ j. (sym (held_is taken l) ∙ ap is_some e) j && (not (v j) && (ap (λ i. eqb (i + 1) limit) (iters_at_some taken l t e) ∙ x) j)

pub loop-l-init : goal.loop-l-init
loop-l-init c = sym (any_start _)

pub overflow_add-t : goal.overflow_add-t
overflow_add-t c =
    let s = c.args.self in
    omega (arith, iterations_short s.plan s.taken s.taken s.readied c.loop-l.l c.in-Some.t c.loop-l-test.true (refl, refl) c.in-Some.is, s.working.stored.fair.limit_fits)

pub returns-in-loop-l : goal.returns-in-loop-l
returns-in-loop-l c =
    let s = c.args.self in
    let v : ℕ → Bool = λ k. get_or c.args.verdict k false in
    one (due_at (held_in s.taken) (iters_in s.taken) v s.plan.limits.iterations) s.plan.lanes c.loop-l.l c.loop-l-test.true
    (due_some s.taken v s.plan.limits.iterations c.loop-l.l c.in-Some.t false true c.in-Some.is c.if-not-verdict-l.true (eq-eqb _ _ c.if-t-self.true))

pub loop-l-preserved : goal.loop-l-preserved
loop-l-preserved c =
    let s = c.args.self in
    let v : ℕ → Bool = λ k. get_or c.args.verdict k false in
    let due : ℕ → Bool = due_at (held_in s.taken) (iters_in s.taken) v s.plan.limits.iterations in
    let none : due c.loop-l.l ≡ false =
    elim c.in_default.branch [
      | in_default-via-in-None-1 w ↦
          let n : get_or s.taken c.loop-l.l None ≡ None = cc in
          due_none s.taken v s.plan.limits.iterations c.loop-l.l n
      | in_default-via-in-Some+else-not-verdict-l w ↦
          due_some s.taken v s.plan.limits.iterations c.loop-l.l w.in-Some.t true _ w.in-Some.is w.if-not-verdict-l.false refl
      | in_default-via-in-Some+then-not-verdict-l+else-t-self w ↦
          due_some s.taken v s.plan.limits.iterations c.loop-l.l w.in-Some.t false false w.in-Some.is w.if-not-verdict-l.true (ne_eqb _ _ w.if-t-self.false)
    ] in
    sym (any_again due c.loop-l.l false false false (sym c.loop-l.invariant) (sym none) refl)
