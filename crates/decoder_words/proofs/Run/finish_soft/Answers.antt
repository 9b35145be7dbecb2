-- `decoder_words::Run::finish_soft` meets its contract: the word's part of the output is lent from the middle, and its record is written.
-- Assumes nothing.
use Rattle.std.proofs.Common.{◌≡◌, ap, ap₂, ◌∙◌, List, ℕ, length}
use Rattle.outcome.specs.Outcome.{bits_of}
use Rattle.outcome.specs.Laws.{bits_length}
use Rattle.outcome.specs.State.{number, ended_number}
use Rattle.decoder_words.specs.Noting.{before_bch}
use Rattle.decoder_words.specs.Book.{seen}
use Rattle.decoder_words.specs.Part.{back, written_view, written_only}
use Rattle.decoder_words.specs.Given.{own_long, own_begin, own_counted}
use Rattle.decoder_words.specs.Finish.{ended}
use Rattle.decoder_words.proofs.Run.finish_soft.Goals as goal

pub returns : goal.returns
returns c =
    let n = c.args.self.plan.sizes.n in
    let bits : List ℕ = c.soft_bits.new.out in
    let begins = own_begin _ _ _ c.args.self.given c.args.w c.requires.word _ c.own_range.ensures in
    let bits_are = c.soft_bits.ensures ∙ ap₂ bits_of (own_long _ _ _ c.args.self.given c.args.w c.requires.word _ c.own_range.ensures) begins in
    let long : length bits ≡ n = ap length bits_are ∙ bits_length n _ in
    let out_is = back n c.args.w c.args.out.now bits _ c.own_range-2.ensures in
    let counted =
    own_counted _ _ _ c.args.self.given c.args.w c.requires.word _ c.own_range.ensures _ _ c.code.ensures.lists c.code.ensures.sizes.1 _ _
    c.soft_unmet-u.ensures in
    let r_is = c.before_bch.ensures ∙ ap (λ z. before_bch z 0 c.soft_unmet-u.result.count c.soft_unmet-u.result.check) (c.number-state.ensures ∙ ap number c.ended.ensures ∙ ended_number _) in
    record {
      only =
          written_only _ _ c.args.w _ _ c.before_bch.result bits c.requires.room c.requires.word c.note.ensures out_is long;
      over =
          ended _ n _ _ 0 c.soft_unmet-u.result.count c.soft_unmet-u.result.check counted _
          (written_view _ _ c.args.w _ _ c.before_bch.result bits c.requires.room c.requires.word c.note.ensures out_is
          long
          ∙ ap₂ seen r_is bits_are);
    }
