use Rattle.std.proofs.Common.{rules}
use Rattle.ldpc_encode.proofs.Bytes.{sums_again, sums_end}
use Rattle.ldpc_encode.proofs.sum_up.Goals as goal

pub loop-c-preserved : goal.loop-c-preserved
loop-c-preserved c = sums_again c.loop-c.p _ c.loop-c.c c.loop-c.b (search rules) c.loop-c.invariant

pub returns : goal.returns
returns c = sums_end c.loop-c.p _ c.loop-c.c c.loop-c.b (search rules) (search rules) c.loop-c.invariant
