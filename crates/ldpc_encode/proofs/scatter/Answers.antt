use Rattle.std.proofs.Common.{◌/◌, length, arith}
use Rattle.ldpc_encode.proofs.Residue.{scatter_again}
use Rattle.ldpc_encode.proofs.scatter.Goals as goal

pub loop-i-preserved : goal.loop-i-preserved
loop-i-preserved c =
    scatter_again (length c.args.out.now / 374) c.args.l c.args.x.now c.args.out.now c.loop-i.out c.loop-i.i c.requires.1 c.loop-i-test.true (omega (arith, c.requires.0)) c.loop-i.invariant
