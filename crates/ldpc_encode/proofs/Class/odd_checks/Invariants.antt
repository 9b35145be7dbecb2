-- `ldpc_encode::Class::odd_checks` meets its contract. Assumes nothing.
use Rattle.std.proofs.Common.{◌≡◌, ◌≤◌}
use Rattle.laws.specs.Modulo.{sum_to}
use Rattle.ldpc_encode.specs.Sums.{unmet_at}
use Rattle.ldpc_encode.proofs.Class.odd_checks.Given as goal

abbrev pub invariant-loop-i : goal.invariant-loop-i
invariant-loop-i l = record { few : l.s ≤ l.i; counted : l.s ≡ sum_to l.i (unmet_at l.q l.l l.x l.p) }
