-- `decoder_lanes::write` meets its contract: the word's part of the output is lent from the middle, and its record is written.
-- Assumes nothing.
use Rattle.std.proofs.Common.{◌≡◌, ap, ◌∙◌, List, ℕ, length}
use Rattle.outcome.specs.Laws.{bits_length}
use Rattle.decoder_words.specs.Book.{seen}
use Rattle.decoder_words.specs.Part.{middle, back, written_view, written_only}
use Rattle.decoder_lanes.specs.Lane.{lane_bits}
use Rattle.decoder_lanes.proofs.write.Goals as goal

pub returns : goal.returns
returns c =
    let bits : List ℕ = c.hard.new.out in
    let bits_are =
    lane_bits c.args.plan.sizes.n c.args.plan.sizes.e c.args.plan.lanes c.args.l c.args.work.now _ _ c.hard.ensures
    (middle c.args.plan.sizes.n c.args.w c.args.out.now _ c.own_range.ensures c.args.plan.words c.requires.stored.1 c.requires.room.out) in
    let long : length bits ≡ c.args.plan.sizes.n = ap length bits_are ∙ bits_length c.args.plan.sizes.n _ in
    let out_is = back c.args.plan.sizes.n c.args.w c.args.out.now bits _ c.own_range.ensures in
    record {
      only = written_only _ _ c.args.w _ _ c.args.r bits c.requires.room c.requires.stored.1 c.note.ensures out_is long;
      written =
          written_view _ _ c.args.w _ _ c.args.r bits c.requires.room c.requires.stored.1 c.note.ensures out_is long ∙ ap (seen c.args.r) bits_are;
    }
