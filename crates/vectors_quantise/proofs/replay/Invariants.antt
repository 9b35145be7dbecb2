-- All that was compared is counted, and no more of it differs.
use Rattle.std.proofs.Common.{◌≡◌, ◌+◌, ◌≤◌, length}
use Rattle.vectors_quantise.proofs.replay.Given as goal

abbrev pub invariant-loop-out : goal.invariant-loop-out
invariant-loop-out l = (l.own.all + length l.out-iterator.a.rest.now ≡ 1530) × (l.own.all + length l.out-iterator.b.rest.now ≡ 1530) × (l.own.differ ≤ l.own.all)
