use Rattle.std.proofs.Common.{◌≡◌, refl, ◌+◌, ap, ◌∙◌, get_or, None, arith}
use Rattle.fixed_code.specs.declared.Unmet.{Unmet}
use Rattle.fixed_syndrome.specs.Count.{no_unmet}
use Rattle.outcome.specs.Outcome.{bits_of}
use Rattle.decoder_words.specs.Noting.{before_bch}
use Rattle.decoder_words.specs.Book.{book, seen}
use Rattle.decoder_words.specs.Finish.{holding_so}
use Rattle.decoder_words.specs.declared.Noted.{Noted}
use Rattle.decoder_assign.specs.Taken.{held_in, held_at_some, held_at_none, iters_at_some}
use Rattle.decoder_assign.proofs.Held.{some_of}
use Rattle.decoder_lanes.specs.Lane.{lane_word}
use Rattle.decoder_retire.specs.Counts.{counted_held}
use Rattle.decoder_retire.specs.Retire.{word_known}
use Rattle.decoder_retire.specs.Close.{closes_skip, closes_write, closes_as, closes_to}
use Rattle.decoder_retire.proofs.Words.close.Goals as goal
use Rattle.decoder_retire.proofs.Words.close.Goals.{in-Some, in_default}

pub write-requires-clause-stored : goal.write-requires-clause-stored
write-requires-clause-stored c =
    let s = c.args.self in
    (s.working.stored, word_known s.plan s.taken s.taken s.readied c.loop-l.l c.in-Some.t c.loop-l-test.true (refl, refl) c.in-Some.is, c.loop-l-test.true)

pub loop-l-preserved : goal.loop-l-preserved
loop-l-preserved c =
    let s = c.args.self in
    let l = c.loop-l.l in
    let x : Unmet = get_or c.counted-unmet.result l no_unmet in
    let counts =
    counted_held s.working.stored.fair.few_lanes c.counted-unmet.ensures (held_in s.taken) (c.some_held.ensures ∙ some_of s.taken s.plan.lanes (omega arith)) in
    elim c.match-taken-l.branch [
      | in-Some w ↦
          let is : get_or (held_in s.taken) l 0 ≡ w.in-Some.t.word + 1 = held_at_some s.taken l w.in-Some.t w.in-Some.is in
          closes_as _ _ _ _ _ (λ i. book (w.records-is i) (w.out-is i))
          (closes_write _ _ _ _ _ _ l _ c.loop-l.invariant c.loop-l-test.true w.in-Some.t.word w.in-Some.t.iterations _ is (iters_at_some s.taken l w.in-Some.t w.in-Some.is)
          (word_known s.plan s.taken s.taken s.readied l w.in-Some.t c.loop-l-test.true (refl, refl) w.in-Some.is) w.write.ensures.only
          (holding_so _ _ _ _ _ _ _ (counts l c.loop-l-test.true (λ e. omega (arith, is, e))) _
          (w.write.ensures.written
          ∙ ap (λ (r : Noted). seen r (bits_of s.plan.sizes.n (lane_word s.plan s.work.now l)))
          (w.before_bch-r.ensures ∙ ap (λ z. before_bch z w.in-Some.t.iterations x.count x.check) w.number.ensures))))
      | in_default w ↦
          let n : get_or s.taken l None ≡ None = cc in
          closes_as _ _ _ _ _ (λ i. book (w.records-is i) (w.out-is i))
          (closes_skip _ _ _ _ _ _ l _ c.loop-l.invariant c.loop-l-test.true (held_at_none s.taken l n))
    ]

pub returns : goal.returns
returns c = let z : c.loop-l.l ≡ c.args.self.plan.lanes = omega arith in closes_to _ _ _ _ _ z c.loop-l.invariant
