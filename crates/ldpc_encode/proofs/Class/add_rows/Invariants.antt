-- `ldpc_encode::Class::add_rows` meets its contract. Assumes nothing.
use Rattle.std.proofs.Common.{◌≡◌, length}
use Rattle.ldpc_rows.specs.Rows.{left, BitsBelow}
use Rattle.ldpc_encode.specs.Sums.{info_bit}
use Rattle.ldpc_encode.proofs.Bits.{Left}
use Rattle.ldpc_encode.proofs.Rows.{info_left}
use Rattle.ldpc_encode.proofs.Class.add_rows.Given as goal

abbrev pub invariant-loop-row : goal.invariant-loop-row
invariant-loop-row l = record {
  long : length l.x ≡ 374;
  within : BitsBelow (length l.w) (left l.row-iterator);
  sums : Left l.x (info_left l.self.q l.self.l l.w l.row-iterator) l.initial.x (info_bit l.self.q l.self.l l.w l.of.lens.now l.of.addrs.now);
}
