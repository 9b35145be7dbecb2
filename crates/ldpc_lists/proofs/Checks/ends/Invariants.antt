-- `ldpc_lists::Checks::ends` meets its contract. Assumes nothing.
use Rattle.std.proofs.Common.{◌≡◌}
use Rattle.ldpc_lists.specs.Ends.{EndsSet, ending}
use Rattle.ldpc_lists.proofs.Checks.ends.Given as goal

abbrev pub invariant-loop-i : goal.invariant-loop-i
invariant-loop-i l = record { sum : l.e ≡ ending l.counts l.fn.self.q l.i; set : EndsSet l.counts l.fn.self.q l.starts l.i }
