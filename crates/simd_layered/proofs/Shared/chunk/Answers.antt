-- `simd_layered::Shared::chunk` meets its contract. Assumes nothing.
use Rattle.std.proofs.Common.{arith, sym, ◌+◌}
use Rattle.laws.specs.Signed.{plain}
use Rattle.lane16.specs.Lanes.{readied_to}
use Rattle.simd.specs.Pass.{scan_to}
use Rattle.simd_layered.specs.Checked.{sent_is, two_parts}
use Rattle.simd_layered.proofs.Shared.chunk.Goals as goal

pub returns-then-left-ge32 : goal.returns-then-left-ge32
returns-then-left-ge32 c =
    let o = plain c.args.offset c.ranges.offset in
    let at = c.args.at in
    let first = sent_is (omega arith) c.scan_two.ensures.0 (readied_to o c.prepare-one.ensures) c.answer.ensures in
    let scanned = scan_to _ (λ k q. sym (first.outside (at + 16 + k) (omega arith) (λ l h e. omega arith))) c.scan_two.ensures.1 in (
      (omega arith, omega (arith, c.requires.1)),
      two_parts (omega (arith, c.requires.1)) first (sent_is (omega arith) scanned (readied_to o c.prepare-two.ensures) c.answer-then-left-ge32.ensures),
    )

pub returns : goal.returns
returns c = (
  (c.width-w.ensures.1.some, omega (arith, c.width-w.ensures.0, c.requires.1)),
  sent_is c.width-w.ensures.1.few c.scan-st.ensures (readied_to (plain c.args.offset c.ranges.offset) c.prepare.ensures)
      c.answer_lanes.ensures,
)
