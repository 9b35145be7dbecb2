use Rattle.std.proofs.Common.{◌≡◌, sym, ap, ◌∙◌, ◌+◌, true, false, ◌||◌, eqb, get_or, None, arith}
use Rattle.fixed_code.specs.declared.Unmet.{Unmet}
use Rattle.fixed_syndrome.specs.Count.{no_unmet}
use Rattle.outcome.specs.Outcome.{bits_of}
use Rattle.outcome.specs.State.{number, ended_number}
use Rattle.decoder_words.specs.Noting.{before_bch}
use Rattle.decoder_words.specs.Book.{book, seen}
use Rattle.decoder_words.specs.Finish.{ended}
use Rattle.decoder_words.specs.declared.Noted.{Noted}
use Rattle.decoder_assign.specs.declared.Taken.{Taken}
use Rattle.decoder_assign.specs.Taken.{held_in, iters_in, iters_at_some, sized_in}
use Rattle.decoder_lanes.specs.Lane.{lane_word}
use Rattle.decoder_retire.specs.Counts.{tallied}
use Rattle.decoder_retire.specs.Retire.{held_then, word_known, iterations_short, leaves_start, leaves_skip, leaves_stay, leaves_leave, leaves_as, leaves_end}
use Rattle.decoder_retire.proofs.Words.retire.Goals as goal
use Rattle.decoder_retire.proofs.Words.retire.Goals.{in-Some+then-over, in-Some+else-over, in_default}

pub loop-l-init : goal.loop-l-init
loop-l-init c = leaves_start _ _ _ _ _ _ (sized_in c.args.self.taken (omega arith))

pub overflow_add-iterations : goal.overflow_add-iterations
overflow_add-iterations c =
    let s = c.args.self in
    omega (arith, iterations_short s.plan s.taken c.loop-l.taken s.readied c.loop-l.l c.in-Some.t c.loop-l-test.true (c.loop-l.invariant.untouched c.loop-l.l (omega arith)) c.in-Some.is, s.working.stored.fair.limit_fits)

pub write-requires-clause-stored : goal.write-requires-clause-stored
write-requires-clause-stored c =
    let s = c.args.self in (
      s.working.stored,
      word_known s.plan s.taken c.loop-l.taken s.readied c.loop-l.l c.in-Some.t c.loop-l-test.true (c.loop-l.invariant.untouched c.loop-l.l (omega arith)) c.in-Some.is,
      c.loop-l-test.true,
    )

pub loop-l-preserved : goal.loop-l-preserved
loop-l-preserved c =
    let s = c.args.self in
    let l = c.loop-l.l in
    let few = s.working.stored.fair.few_lanes in
    let u = c.loop-l.invariant.untouched l (omega arith) in
    let x : Unmet = get_or c.counted-unmet.result l no_unmet in
    let counts = tallied few c.counted-unmet.ensures (held_in s.taken) (iters_in s.taken) (λ j. get_or c.args.verdict j false) c.due.ensures c.requires.judged in
    elim c.match-taken-l.branch [
      | in-Some+then-over w ↦
          let t : Taken = w.in-Some.t in
          let some = held_then s.plan s.taken c.loop-l.taken s.readied l t c.loop-l-test.true u w.in-Some.is in
          let last : (get_or c.args.verdict l false || eqb (get_or (iters_in s.taken) l 0 + 1) s.plan.limits.iterations) ≡ true =
          (λ j. get_or c.args.verdict l false || eqb ((sym u.1 ∙ iters_at_some c.loop-l.taken l t w.in-Some.is) j + 1) s.plan.limits.iterations)
          ∙ sym w.over.ensures
          ∙ w.if-over.true in
          leaves_as _ _ _ (ap held_in w.taken-is) (ap iters_in w.taken-is) (λ i. book (w.records-is i) (w.out-is i))
          (leaves_leave _ _ _ _ _ _ l c.loop-l.taken _ c.loop-l.invariant c.loop-l-test.true few t w.in-Some.is _ (c.requires.judged l c.loop-l-test.true some) _
          w.over.ensures _ w.if-over.true
          (word_known s.plan s.taken c.loop-l.taken s.readied l t c.loop-l-test.true u w.in-Some.is) w.write.ensures.only
          (ended _ _ _ _ _ _ _ (counts l c.loop-l-test.true some last) _
          (w.write.ensures.written
          ∙ ap (λ (r : Noted). seen r (bits_of s.plan.sizes.n (lane_word s.plan s.work.now l)))
          (w.before_bch-r.ensures ∙ ap (λ z. before_bch z (t.iterations + 1) x.count x.check) (w.number-state.ensures ∙ ap number w.ended.ensures ∙ ended_number _)))))
      | in-Some+else-over w ↦
          let t : Taken = w.in-Some.t in
          leaves_as _ _ _ (ap held_in w.taken-is) (ap iters_in w.taken-is) (λ i. book (w.records-is i) (w.out-is i))
          (leaves_stay _ _ _ _ _ _ l c.loop-l.taken _ c.loop-l.invariant c.loop-l-test.true few t w.in-Some.is _
          (c.requires.judged l c.loop-l-test.true (held_then s.plan s.taken c.loop-l.taken s.readied l t c.loop-l-test.true u w.in-Some.is)) _ w.over.ensures w.if-over.false)
      | in_default w ↦
          let n : get_or c.loop-l.taken l None ≡ None = cc in
          leaves_as _ _ _ (ap held_in w.taken-is) (ap iters_in w.taken-is) (λ i. book (w.records-is i) (w.out-is i))
          (leaves_skip _ _ _ _ _ _ l c.loop-l.taken _ c.loop-l.invariant c.loop-l-test.true few n)
    ]

pub returns : goal.returns
returns c =
    let z : c.args.self.plan.lanes ≡ c.loop-l.l = omega arith in
    leaves_end _ _ _ _ _ _ _ _ _ _ c.loop-l.invariant z
