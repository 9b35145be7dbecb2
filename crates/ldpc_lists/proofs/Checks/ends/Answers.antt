use Rattle.std.proofs.Common.{◌<◌, ◌%◌, length, arith, mod-lt}
use Rattle.ldpc_lists.specs.Ends.{ending_le, ending_next, ends_again, ends_start, ending_start}
use Rattle.ldpc_lists.proofs.Checks.ends.Goals as goal

pub loop-i-init : goal.loop-i-init
loop-i-init c = record { sum = ending_start _ _; set = ends_start _ _ _ }

pub overflow_add-e : goal.overflow_add-e
overflow_add-e c = omega (arith, c.requires.1 (c.loop-i.i % c.args.self.q) (mod-lt c.loop-i.i c.args.self.turns), c.parity_bits.ensures.1)

pub overflow_add-e-in-loop-i : goal.overflow_add-e-in-loop-i
overflow_add-e-in-loop-i c =
    omega (
      arith,
      c.requires.1 (c.loop-i.i % c.args.self.q) (mod-lt c.loop-i.i c.args.self.turns),
      ending_le c.args.counts.now c.args.self.q c.args.self.turns c.requires.1 c.loop-i.i,
      c.loop-i.invariant.sum,
      c.parity_bits.ensures.1,
      c.args.self.within,
    )

pub loop-i-preserved : goal.loop-i-preserved
loop-i-preserved c =
    let fact : c.args.self.count < length c.loop-i.starts = omega (arith, c.loop-i.auto.starts, c.requires.0) in record {
      sum = ending_next c.args.counts.now c.args.self.q c.loop-i.i c.loop-i.e _ c.parity_bits.ensures.0 c.loop-i.invariant.sum;
      set = ends_again c.args.counts.now c.args.self.q c.loop-i.starts c.loop-i.i c.loop-i.e _ (omega arith) c.parity_bits.ensures.0 c.loop-i.invariant.sum c.loop-i.invariant.set;
    }
