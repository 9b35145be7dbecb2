-- `decoder::decoded` meets its contract: the order is filled, the run made over zeros, its words corrected, and the tally counted from its records.
-- Assumes nothing.
use Rattle.std.proofs.Common.{◌≡◌, refl, sym, ap, ◌∙◌, subst, List, ℕ, ◌*◌, ◌≤◌, arith, take, replicate}
use Rattle.std.proofs.Math.ListN.{length-replicate}
use Rattle.schedule.specs.WholeRun.{count}
use Rattle.schedule.specs.Run.{input_order}
use Rattle.schedule.proofs.Theorem.{input_once}
use Rattle.decoder_words.specs.Fields.{fields}
use Rattle.decoder_words.specs.Book.{book}
use Rattle.decoder_words.specs.Given.{code_by}
use Rattle.decoder_assign.specs.Assign.{Ordered}
use Rattle.decoder.specs.Accept.{order_so, order_is, cleared_blank, Finished, finished_so, finished_zero, iterations_few, next_le}
use Rattle.decoder.proofs.decoded.Goals as goal
use Rattle.decoder.proofs.decoded.Goals.{After-number, After-fill, After-correct}

order_input : (c : After-number) → take c.args.run.plan.words c.number.new.order ≡ input_order c.args.run.plan.words
order_input c =
    order_is c.args.run.plan.words c.number.new.order c.args.run.given.fair.few_words (c.number.ensures ∙ ap input_order (length-replicate {A = ℕ} 4096 0))

records_zero : (c : After-fill) → c.fill.new.self ≡ replicate (c.args.run.plan.words * fields) 0
records_zero c = c.fill.ensures.after (λ y e. e) ∙ ap (λ (m : ℕ). replicate m 0) c.requires.room.1

finished : (c : After-correct) → take c.args.run.plan.words c.number.new.order ≡ input_order c.args.run.plan.words
    → Finished (code_by c.args.run.plan c.args.run.lists.now) c.args.run.plan c.args.run.soft.now (book c.fill.new.self c.args.out.now)
    c.complete-ending.result.ending c.complete-ending.result.rounds c.complete-ending.result.loaded (book c.correct.new.records c.correct.new.out)
finished c o = finished_so _ _ _ _ _ _ _ _ _ _ o c.complete-ending.ensures c.correct.ensures

pub complete-ending-requires-clause-ordered : goal.complete-ending-requires-clause-ordered
complete-ending-requires-clause-ordered c =
    let o = order_input (goal.at.complete-ending-requires-clause-ordered c).After-number in (
      subst (λ (l : List ℕ). Ordered c.args.run.plan l) (sym o) (order_so c.args.run.plan),
      λ w. subst (λ (l : List ℕ). count w l ≤ 1) (sym o) (input_once c.args.run.plan.words w),
    )

pub complete-ending-requires-clause-blank : goal.complete-ending-requires-clause-blank
complete-ending-requires-clause-blank c =
    cleared_blank c.args.run.plan (c.args.run.plan.words * fields) _ _ (records_zero (goal.at.complete-ending-requires-clause-blank c).After-fill)

pub tally-given-requires-clause-iterations_bound : goal.tally-given-requires-clause-iterations_bound
tally-given-requires-clause-iterations_bound c =
    let at = goal.at.tally-given-requires-clause-iterations_bound c in
    iterations_few _ _ _ _ _ _ _ _ (finished at.After-correct (order_input at.After-number)) c.args.run.given.fair.some_lanes c.args.run.given.fair.limit_fits

pub overflow_cast-result : goal.overflow_cast-result
overflow_cast-result c =
    let at = goal.at.overflow_cast-result c in
    omega (arith, next_le _ _ _ _ _ _ _ _ (finished at.After-correct (order_input at.After-number)) c.args.run.given.fair.some_lanes, c.args.run.given.fair.few_words)

pub returns : goal.returns
returns c =
    let at = goal.at.returns c in
    record {
      words_are = refl;
      runs = finished_zero _ _ _ _ _ _ _ _ _ (records_zero at.After-fill) (finished at.After-correct (order_input at.After-number));
      given_are = c.tally-given.ensures.0;
      kept_are = c.tally-given.ensures.1;
      lost_are = c.tally-given.ensures.2;
      doubtful_are = c.tally-given.ensures.3;
    }
