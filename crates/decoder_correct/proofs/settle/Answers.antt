-- `decoder_correct::settle` meets its contract: the word's record is read; unless the word waits, its part of the output is compared with its soft
-- values, lent from the middle and corrected there if the word is over, and the record written again with both results.
-- Assumes nothing.
use Rattle.std.proofs.Common.{◌≡◌, sym, ap, ◌∙◌, List, ℕ, length, arith}
use Rattle.outcome.specs.Outcome.{begin}
use Rattle.outcome.specs.Changed.{changed_bits}
use Rattle.decoder_words.specs.Book.{Book, book, seen}
use Rattle.decoder_words.specs.Part.{own, middle, back, written_view, written_only}
use Rattle.decoder_words.specs.declared.Noted.{Noted}
use Rattle.decoder_correct.specs.Settle.{bch_by, bits_by}
use Rattle.decoder_correct.proofs.Settled.{bits_by_length, waits_so, settled_so}
use Rattle.decoder_correct.proofs.settle.Goals as goal

pub returns-then-was-number-clause-settled : goal.returns-then-was-number-clause-settled
returns-then-was-number-clause-settled c =
    waits_so _ c.args.w _ _ (book c.args.records.now c.args.out.now) c.read-was.result c.read-was.ensures (c.if-was-number.true ∙ c.number.ensures)

pub returns : goal.returns
returns c =
    let n = c.args.plan.sizes.n in
    let w = c.args.w in
    let B : Book = book c.args.records.now c.args.out.now in
    let was : Noted = c.read-was.result in
    let bits : List ℕ = c.finish-bch.new.word in
    let own_is = own n w c.args.out.now _ c.own_range.ensures in
    let soft_is = own n w c.args.soft.now _ c.own_range-2.ensures in
    let soft_long = middle n w c.args.soft.now _ c.own_range-2.ensures c.args.plan.words c.requires.fair.1 (omega (arith, c.requires.fair.2)) in
    let long : length bits ≡ n =
    ap length c.finish-bch.ensures.bits
    ∙ bits_by_length c.args.plan.part was.state _
    ∙ middle n w c.args.out.now _ c.own_range.ensures c.args.plan.words c.requires.fair.1 c.requires.room.out in
    let out_is = back n w c.args.out.now bits _ c.own_range.ensures in
    record {
      only = written_only _ _ w B _ c.with_results.result bits c.requires.room c.requires.fair.1 c.note.ensures out_is long;
      settled =
          written_view _ _ w B _ c.with_results.result bits c.requires.room c.requires.fair.1 c.note.ensures out_is long
          ∙ ap (λ (z : Noted). seen z bits) c.with_results.ensures
          ∙ settled_so n w c.args.plan.part _ B was c.read-was.ensures (λ z. c.if-was-number.false (z ∙ sym c.number.ensures)) c.finish-bch.result
          c.changed-changed.result bits (c.finish-bch.ensures.result ∙ ap (bch_by c.args.plan.part was.state was.bch) own_is)
          (c.changed-changed.ensures ∙ (λ j. changed_bits (soft_long j) (begin (soft_long j) (soft_is j)) (own_is j)))
          (c.finish-bch.ensures.bits ∙ ap (bits_by c.args.plan.part was.state) own_is);
    }
