-- `bch_locator::mend` meets its contract.
-- Assumes nothing.
use Rattle.std.proofs.Common.{◌≡◌, length, ◌≤◌}
use Rattle.bch_locator.proofs.Steps.{Mending}
use Rattle.bch_locator.proofs.mend.Given as goal

abbrev pub invariant-loop-i : goal.invariant-loop-i
invariant-loop-i l = (l.m ≤ l.i) × Mending l.c l.initial.c l.q l.m l.b l.i × (length l.c ≡ 13)
