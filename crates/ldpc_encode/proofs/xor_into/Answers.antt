use Rattle.std.proofs.Common.{rules}
use Rattle.ldpc_encode.proofs.Bytes.{xors_again, xors_end}
use Rattle.ldpc_encode.proofs.xor_into.Goals as goal

pub loop-i-preserved : goal.loop-i-preserved
loop-i-preserved c = xors_again c.loop-i.x c.args.w.now _ c.loop-i.i (search rules) (search rules) c.loop-i.invariant

pub returns : goal.returns
returns c = xors_end c.loop-i.x _ _ c.loop-i.i (search rules) (search rules) c.loop-i.invariant
