-- `ldpc_encode::weight_of` meets its contract. Assumes nothing.
use Rattle.std.proofs.Common.{◌≡◌, ◌*◌, ◌≤◌}
use Rattle.ldpc_encode.proofs.Residue.{unmet_below}
use Rattle.ldpc_encode.proofs.weight_of.Given as goal

abbrev pub invariant-loop-l : goal.invariant-loop-l
invariant-loop-l l = record { few : l.u ≤ 374 * l.l; counted : l.u ≡ unmet_below l.of.sizes.n l.of.lens.now l.of.addrs.now l.of.sizes.q l.bits l.l }
