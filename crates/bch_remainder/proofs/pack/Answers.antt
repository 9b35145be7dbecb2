use Rattle.std.proofs.Common.{◌<◌, ◌^◌, arith}
use Rattle.bch_remainder.proofs.Bits.{pack_start, pack_room, pack_again}
use Rattle.bch_table.specs.Digits.{bit_lt}
use Rattle.bch_remainder.proofs.pack.Goals as goal

pub loop-bit-init : goal.loop-bit-init
loop-bit-init c = pack_start _ _ _ _ c.as_chunks.ensures.front c.as_chunks.ensures.back c.pack_eights-v.ensures

pub overflow_mul-v : goal.overflow_mul-v
overflow_mul-v c = let h : c.loop-bit.v < 2 ^ 63 = pack_room _ _ _ _ c.loop-bit.invariant c.loop-bit-test.true c.requires in omega arith

pub overflow_add-v : goal.overflow_add-v
overflow_add-v c = let h : c.loop-bit.v < 2 ^ 63 = pack_room _ _ _ _ c.loop-bit.invariant c.loop-bit-test.true c.requires in omega (arith, bit_lt)

pub loop-bit-preserved : goal.loop-bit-preserved
loop-bit-preserved c = rw c.from.ensures (pack_again _ _ _ _ c.loop-bit.invariant c.loop-bit-test.true)
