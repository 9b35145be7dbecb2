-- `ldpc_encode::parity_of` meets its contract. Assumes nothing.
use Rattle.ldpc_encode.proofs.Residue.{Done, info_ones}
use Rattle.ldpc_encode.proofs.parity_of.Given as goal

abbrev pub invariant-loop-l : goal.invariant-loop-l
invariant-loop-l l = Done l.of.sizes.q l.l l.out (info_ones l.of.sizes.n l.of.lens.now l.of.addrs.now l.info)
