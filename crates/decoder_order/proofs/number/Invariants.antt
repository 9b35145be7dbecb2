-- `decoder_order::number` meets its contract. The loop's invariant: the places below k hold their own numbers.
-- Assumes nothing.
use Rattle.std.proofs.Common.{◌≡◌, ℕ, ◌<◌, get_or}
use Rattle.decoder_order.proofs.number.Given as goal

abbrev pub invariant-loop-k : goal.invariant-loop-k
invariant-loop-k l = (i : ℕ) → i < l.k → get_or l.order i 0 ≡ i
