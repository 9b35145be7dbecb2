-- `decoder_rounds::complete` meets its contract: the laws of refilling, loading and a round, in turn; then the words still held, so that memory says of
-- each word what its status says.
use Rattle.std.proofs.Common.{◌≡◌, refl, sym, ◌∙◌, Option, None, arith}
use Rattle.std.proofs.lemmas.List.{length-replicate}
use Rattle.schedule.specs.Lanes.{any_held}
use Rattle.decoder_words.specs.Book.{book}
use Rattle.decoder_words.specs.Given.{code_by}
use Rattle.decoder_words.specs.Run.{iterate_of}
use Rattle.decoder_assign.specs.declared.Taken.{Taken}
use Rattle.decoder_assign.specs.Taken.{held_in, iters_in, held_start, sized_in}
use Rattle.decoder_assign.proofs.Held.{some_of}
use Rattle.decoder_lanes.specs.Lane.{lane_word}
use Rattle.decoder_rounds.specs.Rounds.{Pauses, Comes, goes_start, goes_order, assigned_known, pauses_after, pauses_readied, comes_finished, comes_stopped, goes_round, finishes}
use Rattle.decoder_rounds.proofs.complete.Goals as goal
use Rattle.decoder_rounds.proofs.complete.Goals.{After-load, After-some_held, then-not-some_held, else-not-some_held+then-rounds-run}

pub loop-round-init : goal.loop-round-init
loop-round-init c = (
  refl,
  goes_start _ _ _ _ _ _ _ _ _ c.requires.blank (sized_in _ (length-replicate {A = Option Taken} 64 None))
      (λ k l. held_start 64 k (omega (arith, l, c.args.run.given.fair.few_lanes))) c.requires.ordered.0,
)

pub assign-at-requires-clause-order : goal.assign-at-requires-clause-order
assign-at-requires-clause-order c = (c.requires.ordered.0, goes_order _ _ _ _ _ c.loop-round.invariant.1)

pub load-requires-clause-held_words : goal.load-requires-clause-held_words
load-requires-clause-held_words c = assigned_known _ _ _ _ _ _ _ _ _ _ _ _ c.loop-round.invariant.1 _ _ _ _ _ c.assign-at.ensures

-- after refilling and loading
paused : (c : After-load)
    → Pauses (code_by c.args.run.plan c.args.run.lists.now) (iterate_of c.args.run.plan (code_by c.args.run.plan c.args.run.lists.now)) c.args.run.plan c.args.run.soft.now c.args.order.now
    (book c.args.records.now c.args.out.now) (held_in c.assign-at.result.taken) (iters_in c.assign-at.result.taken) (lane_word c.args.run.plan c.load.new.work) c.assign-at.result.next
    c.loop-round.rounds (any_held (held_in c.assign-at.result.taken) c.args.run.plan.lanes) (book c.assign-at.new.records c.assign-at.new.out)
paused c = pauses_after _ _ _ _ _ _ _ _ c.loop-round.work _ _ _ c.loop-round.invariant.1 _ _ _ _ _ c.assign-at.ensures _ c.load.ensures

pub advance-at-requires-clause-readied : goal.advance-at-requires-clause-readied
advance-at-requires-clause-readied c = pauses_readied _ _ _ _ _ _ _ _ _ _ _ _ _ (paused (goal.at.advance-at-requires-clause-readied c).After-load)

-- whether a lane is held then
busy_is : (c : After-some_held) → any_held (held_in c.assign-at.result.taken) c.args.run.plan.lanes ≡ c.some_held.result
busy_is c = sym (c.some_held.ensures ∙ some_of c.assign-at.result.taken c.args.run.plan.lanes (omega arith))

pub loop-round-preserved : goal.loop-round-preserved
loop-round-preserved c = (
  c.advance-at.auto.work ∙ c.load.auto.work ∙ c.loop-round.invariant.0,
  goes_round _ _ _ _ _ _ _ _ _ _ _ _ _ _ (paused (goal.at.loop-round-preserved c).After-load) _ _ _ _ refl
      (busy_is (goal.at.loop-round-preserved c).After-some_held ∙ c.if-not-some_held.false) c.if-rounds-run.false c.advance-at.ensures,
)

pub invariant_of-words-clause-readied : goal.invariant_of-words-clause-readied
invariant_of-words-clause-readied c = pauses_readied _ _ _ _ _ _ _ _ _ _ _ _ _ (paused (goal.at.invariant_of-words-clause-readied c).After-load)

pub returns : goal.returns
returns c =
    let p = paused (goal.at.returns c).After-load in
    let busy = busy_is (goal.at.returns c).After-some_held in
    let came : Comes (code_by c.args.run.plan c.args.run.lists.now) (iterate_of c.args.run.plan (code_by c.args.run.plan c.args.run.lists.now)) c.args.run.plan c.args.run.soft.now c.args.order.now
    (book c.args.records.now c.args.out.now) c.if-not-some_held.ending c.loop-round.rounds (held_in c.assign-at.result.taken) (iters_in c.assign-at.result.taken)
    (lane_word c.args.run.plan c.load.new.work) c.assign-at.result.next (book c.assign-at.new.records c.assign-at.new.out) =
    elim c.if-not-some_held.branch [
      | then-not-some_held w ↦ comes_finished _ _ _ _ _ _ _ _ _ _ _ _ _ p (busy ∙ w.if-not-some_held.true) _ w.ending-is
      | else-not-some_held+then-rounds-run w ↦ comes_stopped _ _ _ _ _ _ _ _ _ _ _ _ _ p (busy ∙ w.if-not-some_held.false) w.if-rounds-run.true _ w.ending-is
    ] in
    finishes _ _ _ _ _ _ _ _ _ _ _ _ _ _ c.requires.ordered.1 c.args.run.given.fair.some_lanes came c.close.ensures
