use Rattle.std.proofs.Common.{arith}
use Rattle.laws.specs.Modulo.{sum_none}
use Rattle.ldpc_encode.proofs.Residue.{count_next}
use Rattle.ldpc_encode.proofs.Class.odd_checks.Goals as goal

pub loop-i-init : goal.loop-i-init
loop-i-init c = record { few = omega arith; counted = sum_none _ }

pub loop-i-preserved : goal.loop-i-preserved
loop-i-preserved c = record {
  few = omega (arith, c.odd-s.ensures.1, c.loop-i.invariant.few);
  counted = count_next c.args.self.q c.args.self.l c.args.x.now c.args.p.now c.loop-i.i c.loop-i.s c.odd-s.result c.stair_bit.result c.loop-i.invariant.counted
      c.stair_bit.ensures c.odd-s.ensures.0;
}
