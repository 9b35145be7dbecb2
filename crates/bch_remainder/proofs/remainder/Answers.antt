-- `bch_remainder::remainder` meets its contract: the remainder of the part before the last 192 bits, and those bits added.
-- Assumes nothing.
use Rattle.std.proofs.Common.{◌≡◌, ◌+◌, ◌-◌, ◌∙◌, ap, sym, length, length-take-le, arith}
use Rattle.laws.specs.Lists.{lent_from}
use Rattle.bch_remainder.specs.Word.{number}
use Rattle.bch_remainder.proofs.Parity.{remainder_is}
use Rattle.bch_remainder.proofs.remainder.Goals as goal

pub slice_bounds-pack-end : goal.slice_bounds-pack-end
slice_bounds-pack-end c = sym (length-take-le 64 _ (omega (arith, c.split_at.ensures.back_len)))

pub pack-requires : goal.pack-requires
pack-requires c = omega (arith, length-take-le 64 c.split_at.result.1.now (omega (arith, c.split_at.ensures.back_len)))

pub returns : goal.returns
returns c =
    let long : length c.args.word.now ≡ length c.args.word.now - 192 + 192 = omega arith in
    remainder_is _ _ _ _ _ _ _ _ _ long c.split_at.ensures.front c.split_at.ensures.back c.parity_register.ensures
    c.pack.ensures c.pack-2.ensures (c.pack-3.ensures ∙ ap number (lent_from 128 c.split_at.result.1.now)) c.add.ensures
