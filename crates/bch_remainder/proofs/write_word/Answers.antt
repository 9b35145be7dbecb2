use Rattle.std.proofs.Common.{◌≡◌, ◌∙◌, ◌+◌, ◌-◌, ◌*◌, arith}
use Rattle.bch_remainder.proofs.Bits.{write_start, write_again}
use Rattle.bch_remainder.proofs.write_word.Goals as goal

pub loop-i-init : goal.loop-i-init
loop-i-init c = write_start _ _

pub loop-i-preserved : goal.loop-i-preserved
loop-i-preserved c =
    let i = c.loop-i.i in
    let eight : 8 * i + 8 - 8 * i ≡ 8 = omega arith in
    write_again _ _ _ c.args.v i _ c.loop-i-test.true eight c.loop-i.invariant (c.copy_from_slice.ensures.after ∙ c.spread.ensures)
