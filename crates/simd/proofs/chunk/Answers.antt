-- `simd::chunk` meets its contract. Assumes nothing.
use Rattle.std.proofs.Common.{arith}
use Rattle.laws.specs.Signed.{plain}
use Rattle.lane16.specs.Lanes.{readied_to}
use Rattle.simd.specs.Pass.{chunk_is, two_is}
use Rattle.simd.proofs.chunk.Goals as goal

pub returns-then-left-ge32 : goal.returns-then-left-ge32
returns-then-left-ge32 c =
    let o = plain c.args.offset c.ranges.offset in (
      (omega arith, omega (arith, c.requires.1)),
      two_is c.scan_two.ensures.0 (readied_to o c.prepare-one.ensures) c.scan_two.ensures.1 (readied_to o c.prepare-two.ensures)
          c.reply_two.ensures,
    )

pub returns : goal.returns
returns c =
    let o = plain c.args.offset c.ranges.offset in (
      (c.width-w.ensures.1.some, omega (arith, c.width-w.ensures.0, c.requires.1)),
      chunk_is c.scan-st.ensures (readied_to o c.prepare.ensures) c.width-w.ensures.1.few c.reply_lanes.ensures,
    )
