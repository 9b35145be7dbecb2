-- `decoder_refuse::plan` meets its contract: the first test that holds gives the refusal.
use Rattle.std.proofs.Common.{◌≡◌, Bool, sym, ap, ◌∙◌, arith, lt-ltb, le-ltb}
use Rattle.std.proofs.lemmas.Result.{err_from_is_err_and}
use Rattle.refusal.specs.NumberLaws.{number_least}
use Rattle.ldpc_shape.proofs.Accepted.{table_bounded}
use Rattle.ldpc_shape.specs.declared.Sizes.{Sizes}
use Rattle.decoder_refuse.specs.Accepted.{lanes_few, words_few, first_code, first_lanes, first_words, first_limit, first_step, first_part, first_short, first_none}
use Rattle.decoder_refuse.specs.Refusal.{bad_words, bad_limit, bad_part, too_short, first_refusal}
use Rattle.decoder_refuse.proofs.plan.Goals as goal

-- a test of the code's own numbers, as the clause has it
so : {s t : Sizes} (f : Sizes → Bool) {x b : Bool} → s ≡ t → x ≡ f s → x ≡ b → f t ≡ b
so f e r is = sym (r ∙ ap f e) ∙ is

pub returns-in_err-of-clause-number : goal.returns-in_err-of-clause-number
unfolding first_refusal
returns-in_err-of-clause-number c =
    let p = err_from_is_err_and c.from_residual.result c.from_residual.ensures.1 in
    let some = number_least c.in_err-of.field-0.0 in
    rw (p.1, p.2) (c.in_err-of.ensures.number ∙ first_code _ _ _ _ _ _ _ (λ z. absurd (omega (arith, some, c.in_err-of.ensures.number, z))))

pub returns-then-bad_lanes-clause-number : goal.returns-then-bad_lanes-clause-number
unfolding first_refusal
returns-then-bad_lanes-clause-number c = first_lanes _ _ _ _ _ _ _ (sym c.in_ok-of.ensures.number) (sym c.bad_lanes.ensures ∙ c.if-bad_lanes.true)

pub bad_words-requires : goal.bad_words-requires
bad_words-requires c = omega (arith, table_bounded c.in_ok-of.field-0)

pub returns-then-bad_words-clause-number : goal.returns-then-bad_words-clause-number
unfolding first_refusal
returns-then-bad_words-clause-number c =
    first_words _ _ _ _ _ _ _ (sym c.in_ok-of.ensures.number) (sym c.bad_lanes.ensures ∙ c.if-bad_lanes.false)
    (so (λ s. bad_words s.n c.args.lent.soft) c.in_ok-of.ensures.table.0 c.bad_words.ensures c.if-bad_words.true)

pub returns-then-set-gt65535-clause-number : goal.returns-then-set-gt65535-clause-number
unfolding first_refusal bad_limit
returns-then-set-gt65535-clause-number c =
    first_limit _ _ _ _ _ _ _ (sym c.in_ok-of.ensures.number) (sym c.bad_lanes.ensures ∙ c.if-bad_lanes.false)
    (so (λ s. bad_words s.n c.args.lent.soft) c.in_ok-of.ensures.table.0 c.bad_words.ensures c.if-bad_words.false) (lt-ltb 65535 _ c.if-set-gt65535.true)

pub returns-then-bad_step-clause-number : goal.returns-then-bad_step-clause-number
unfolding first_refusal bad_limit
returns-then-bad_step-clause-number c =
    first_step _ _ _ _ _ _ _ (sym c.in_ok-of.ensures.number) (sym c.bad_lanes.ensures ∙ c.if-bad_lanes.false)
    (so (λ s. bad_words s.n c.args.lent.soft) c.in_ok-of.ensures.table.0 c.bad_words.ensures c.if-bad_words.false) (le-ltb 65535 _ c.if-set-gt65535.false)
    (sym c.bad_step.ensures ∙ c.if-bad_step.true)

pub returns-then-bad_part-clause-number : goal.returns-then-bad_part-clause-number
unfolding first_refusal bad_limit
returns-then-bad_part-clause-number c =
    first_part _ _ _ _ _ _ _ (sym c.in_ok-of.ensures.number) (sym c.bad_lanes.ensures ∙ c.if-bad_lanes.false)
    (so (λ s. bad_words s.n c.args.lent.soft) c.in_ok-of.ensures.table.0 c.bad_words.ensures c.if-bad_words.false) (le-ltb 65535 _ c.if-set-gt65535.false)
    (sym c.bad_step.ensures ∙ c.if-bad_step.false) (so (λ s. bad_part s.n c.args.set.part) c.in_ok-of.ensures.table.0 c.bad_part.ensures c.if-bad_part.true)

pub too_short-requires : goal.too_short-requires
too_short-requires c = (
  table_bounded c.in_ok-of.field-0,
  lanes_few _ (sym c.bad_lanes.ensures ∙ c.if-bad_lanes.false),
  words_few _ _ (sym c.bad_words.ensures ∙ c.if-bad_words.false),
)

pub returns-then-too_short-clause-number : goal.returns-then-too_short-clause-number
unfolding first_refusal bad_limit
returns-then-too_short-clause-number c =
    first_short _ _ _ _ _ _ _ (sym c.in_ok-of.ensures.number) (sym c.bad_lanes.ensures ∙ c.if-bad_lanes.false)
    (so (λ s. bad_words s.n c.args.lent.soft) c.in_ok-of.ensures.table.0 c.bad_words.ensures c.if-bad_words.false) (le-ltb 65535 _ c.if-set-gt65535.false)
    (sym c.bad_step.ensures ∙ c.if-bad_step.false) (so (λ s. bad_part s.n c.args.set.part) c.in_ok-of.ensures.table.0 c.bad_part.ensures c.if-bad_part.false)
    (so (λ s. too_short s c.args.set.lanes c.args.lent) c.in_ok-of.ensures.table.0 c.too_short.ensures c.if-too_short.true)

pub plan_of-requires : goal.plan_of-requires
plan_of-requires c = omega (arith, table_bounded c.in_ok-of.field-0)

pub returns-clause-number : goal.returns-clause-number
unfolding first_refusal bad_limit
returns-clause-number c =
    first_none _ _ _ _ _ _ _ (sym c.in_ok-of.ensures.number) (sym c.bad_lanes.ensures ∙ c.if-bad_lanes.false)
    (so (λ s. bad_words s.n c.args.lent.soft) c.in_ok-of.ensures.table.0 c.bad_words.ensures c.if-bad_words.false) (le-ltb 65535 _ c.if-set-gt65535.false)
    (sym c.bad_step.ensures ∙ c.if-bad_step.false) (so (λ s. bad_part s.n c.args.set.part) c.in_ok-of.ensures.table.0 c.bad_part.ensures c.if-bad_part.false)
    (so (λ s. too_short s c.args.set.lanes c.args.lent) c.in_ok-of.ensures.table.0 c.too_short.ensures c.if-too_short.false)
