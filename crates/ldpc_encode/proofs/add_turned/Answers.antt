-- `ldpc_encode::add_turned` meets its contract. Assumes nothing.
use Rattle.ldpc_encode.proofs.Bits.{turned_done}
use Rattle.ldpc_encode.proofs.add_turned.Goals as goal

pub returns : goal.returns
returns c =
    turned_done c.args.x.now c.args.w.now c.args.s c.told-x c.requires.0 c.requires.1 c.xor_into.new.x c.xor_into.ensures c.xor_into-2.new.x c.xor_into-2.ensures
