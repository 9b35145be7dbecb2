-- `ldpc_encode::stair_bit` meets its contract. Assumes nothing.
use Rattle.ldpc_encode.proofs.Bits.{stair_first, stair_later}
use Rattle.ldpc_encode.proofs.stair_bit.Goals as goal

pub returns-then-c-eq0 : goal.returns-then-c-eq0
returns-then-c-eq0 c = stair_first c.args.p.now c.args.c c.if-c-eq0.true

pub returns : goal.returns
returns c = stair_later c.args.p.now c.args.c c.if-c-eq0.false
