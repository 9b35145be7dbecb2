-- `decoder::accepted` meets its contract: the lists are built into the lent slice, the words decoded, and what was lent is cleared.
-- Assumes nothing.
use Rattle.std.proofs.Common.{◌≡◌, ap, ◌∙◌, ◌++◌, ℕ, ◌*◌, ◌≤◌, arith, pos, length, take, drop, replicate, length-take-le, take_at, drop_at}
use Rattle.std.proofs.Math.ListN.{length-replicate, get_or-replicate}
use Rattle.ldpc_edges.specs.Code.{edge_lists}
use Rattle.fixed_conflicts.specs.Prepared.{prepared}
use Rattle.decoder_refuse.specs.Refusal.{lists_need}
use Rattle.decoder_words.specs.Fields.{fields}
use Rattle.decoder.specs.Accept.{given_so, working_so, code_so, cleared, accepts, decoded_back, decoded_of_lem, prefix_length}
use Rattle.decoder.proofs.accepted.Goals as goal
use Rattle.decoder.proofs.accepted.Goals.{After-lists_need-size, After-build}

lists_lent : (c : After-lists_need-size) → length (take c.lists_need-size.result c.args.lists.now) ≡ c.lists_need-size.result
lists_lent c = length-take-le _ c.args.lists.now (omega (arith, c.requires.lists_fit, c.lists_need-size.ensures))

built_long : (c : After-build) → length (take c.lists_need-size.result c.args.lists.now) ≡ c.lists_need-size.result → length c.build.new.lists ≡ c.lists_need-size.result
built_long c lent = c.build.auto.lists ∙ lent

lists_are : (c : After-build) → length (take c.lists_need-size.result c.args.lists.now) ≡ c.lists_need-size.result
    → take c.lists_need-size.result (c.build.new.lists ++ drop c.lists_need-size.result c.args.lists.now) ≡ edge_lists c.args.plan.sizes.n c.args.lens.now c.args.addrs.now
lists_are c lent = take_at c.build.new.lists (drop c.lists_need-size.result c.args.lists.now) _ (built_long c lent) ∙ c.build.ensures

pub invariant_of-table : goal.invariant_of-table
invariant_of-table c = record { accepted = c.requires.code; numbers = c.requires.sizes }

pub build-requires : goal.build-requires
unfolding lists_need
build-requires c =
    omega (arith, lists_lent (goal.at.build-requires c).After-lists_need-size, c.lists_need-size.ensures)

pub lay_spans-requires : goal.lay_spans-requires
lay_spans-requires c = (length-replicate {A = ℕ} 14520 0, λ l h. get_or-replicate {A = ℕ} 14520 l 0 0 (omega (arith, h)))

pub invariant_of-run : goal.invariant_of-run
invariant_of-run c =
    let at = goal.at.invariant_of-run c in
    record { given = given_so _ _ _ _ _ _ _ _ c.requires _ (lists_are at.After-build (lists_lent at.After-lists_need-size)) }

pub decoded-ran-requires : goal.decoded-ran-requires
decoded-ran-requires c =
    let at = goal.at.decoded-ran-requires c in
    let is = lists_are at.After-build (lists_lent at.After-lists_need-size) in
    let work_size : ℕ = c.work_need-need.result in
    let work_fits : work_size ≤ length c.args.work.now = omega (arith, c.requires.work_fits, c.work_need-need.ensures) in
    let work_lent : length (take work_size c.args.work.now) ≡ work_size = length-take-le _ c.args.work.now work_fits in
    record {
      working = (
        working_so _ _ _ _ _ _ _ _ c.requires _ is _ (omega (arith, c.work_need-need.ensures, work_lent)),
        (λ e. prepared _ _ _ _ _ _ c.requires.code c.requires.sizes is (c.lay_spans.ensures e)),
      );
      room = (c.requires.out_fits, length-take-le _ c.args.records.now c.requires.records_fit);
    }

pub returns : goal.returns
returns c =
    let at = goal.at.returns c in
    let lent = lists_lent at.After-lists_need-size in
    let size : ℕ = c.lists_need-size.result in
    let lists_fit : size ≤ length c.args.lists.now = omega (arith, c.requires.lists_fit, c.lists_need-size.ensures) in
    let work_size : ℕ = c.work_need-need.result in
    let work_fits : work_size ≤ length c.args.work.now = omega (arith, c.requires.work_fits, c.work_need-need.ensures) in
    let work_lent : length (take work_size c.args.work.now) ≡ work_size = length-take-le _ c.args.work.now work_fits in
    let worked_long : length c.decoded-ran.new.work ≡ work_size = c.decoded-ran.auto.work ∙ work_lent in
    let m = c.args.plan.words * fields in
    let records_lent : length (take m c.args.records.now) ≡ m = length-take-le _ c.args.records.now c.requires.records_fit in
    let q : length c.decoded-ran.new.records ≡ m = c.decoded-ran.auto.records ∙ records_lent in
    let by =
    decoded_back c.decoded-ran.new.records (drop m c.args.records.now) q
    (decoded_of_lem (code_so _ _ _ _ _ _ _ _ c.requires _ (lists_are at.After-build lent)) c.decoded-ran.ensures) in
    accepts _ _ _ c.requires.fair.some_lanes _ _ _ _ _ by _ _ _ _
    (prefix_length m c.args.records.now c.decoded-ran.new.records c.requires.records_fit q)
    (drop_at c.decoded-ran.new.records (drop m c.args.records.now) m q)
    (cleared (pos 0) work_size c.args.work.now c.decoded-ran.new.work _ work_fits worked_long (c.fill.ensures.after (λ y e. e))
    ∙ ap (λ (k : ℕ). replicate k (pos 0) ++ drop k c.args.work.now) c.work_need-need.ensures)
    (cleared 0 size c.args.lists.now c.build.new.lists _ lists_fit (built_long at.After-build lent) (c.fill-2.ensures.after (λ y e. e))
    ∙ ap (λ (k : ℕ). replicate k 0 ++ drop k c.args.lists.now) c.lists_need-size.ensures)
