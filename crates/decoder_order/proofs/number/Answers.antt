use Rattle.std.proofs.Common.{length, arith}
use Rattle.schedule.proofs.Theorem.{input_is}
use Rattle.decoder_order.proofs.number.Goals as goal

pub returns : goal.returns
returns c = input_is (length c.args.order.now) _ c.loop-k.auto.order (λ i h. c.loop-k.invariant i (omega arith))
