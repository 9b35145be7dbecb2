use Rattle.std.proofs.Common.{ap, length, false-eqb, arith, rules, ◌*◌}
use Rattle.std.proofs.lemmas.List.{nil_from_length}
use Rattle.report_form.specs.Form.{found_as}
use Rattle.report_form.proofs.Words.{lent_length, put_back, words_room, words_again, words_none, words_unended, words_found}
use Rattle.report_form.proofs.read_words.Goals as goal

pub returns-then-is_empty : goal.returns-then-is_empty
returns-then-is_empty c = words_found c.args.n c.loop-count.invariant (nil_from_length c.loop-count.rest.now (search rules))

pub returns-in_err-rest : goal.returns-in_err-rest
returns-in_err-rest c =
    let room = words_room c.args.n c.loop-count.invariant c.told-soft c.loop-count-test.true in
    rw c.from_residual.ensures
    (words_none c.args.n c.loop-count.invariant (λ e. false-eqb (length c.loop-count.rest.now) 0 c.if-is_empty.ensures (ap length e))
    (lent_length c.args.n (c.loop-count.count * c.args.n) c.loop-count.soft room) c.in_err-rest.ensures)

pub loop-count-preserved : goal.loop-count-preserved
loop-count-preserved c =
    let room = words_room c.args.n c.loop-count.invariant c.told-soft c.loop-count-test.true in
    words_again c.args.n c.loop-count.invariant (lent_length c.args.n (c.loop-count.count * c.args.n) c.loop-count.soft room) c.in_ok-rest.ensures
    (put_back c.args.n (c.loop-count.count * c.args.n) c.loop-count.soft c.read_word.new.word room
    (omega (arith, c.read_word.auto.word, lent_length c.args.n (c.loop-count.count * c.args.n) c.loop-count.soft room)))
    c.loop-count-test.true

pub returns-then-is_empty-2 : goal.returns-then-is_empty-2
returns-then-is_empty-2 c = found_as (words_found c.args.n c.loop-count.invariant (nil_from_length c.loop-count.rest.now (search rules))) (λ x s. (omega (arith, s.0), s.1))

pub returns-else-is_empty-2 : goal.returns-else-is_empty-2
returns-else-is_empty-2 c = words_unended c.args.n c.loop-count.invariant (omega arith) (λ e. false-eqb (length c.loop-count.rest.now) 0 c.if-is_empty-2.ensures (ap length e))
