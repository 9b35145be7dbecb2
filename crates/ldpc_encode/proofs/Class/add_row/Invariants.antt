-- `ldpc_encode::Class::add_row` meets its contract. Assumes nothing.
use Rattle.std.proofs.Common.{◌≡◌, length, drop}
use Rattle.ldpc_encode.specs.Sums.{row_bit}
use Rattle.ldpc_encode.proofs.Bits.{Left}
use Rattle.ldpc_encode.proofs.Class.add_row.Given as goal

abbrev pub invariant-loop-a : goal.invariant-loop-a
invariant-loop-a l = record { long : length l.x ≡ 374; sums : Left l.x (row_bit l.self.q l.self.l l.w (drop l.a-index l.row)) l.initial.x (row_bit l.self.q l.self.l l.w l.row) }
