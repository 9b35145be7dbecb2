-- `bch_remainder::write_parity` meets its contract: three words, one after the other.
-- Assumes nothing.
use Rattle.std.proofs.Common.{length-take-le, arith, sym}
use Rattle.bch_remainder.proofs.Bits.{parity_written}
use Rattle.bch_remainder.proofs.write_parity.Goals as goal

pub slice_bounds-write_word-end-2 : goal.slice_bounds-write_word-end-2
slice_bounds-write_word-end-2 c = sym (length-take-le 64 _ (omega arith))

pub write_word-requires : goal.write_word-requires
write_word-requires c = length-take-le 64 _ (omega arith)

pub returns : goal.returns
returns c = parity_written c.args.out.now _ _ _ c.args.r.hi c.args.r.mid c.args.r.lo (omega arith) (omega arith) c.write_word.ensures c.write_word-2.ensures c.write_word-3.ensures
