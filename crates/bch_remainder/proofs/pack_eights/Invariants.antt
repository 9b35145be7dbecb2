-- `bch_remainder::pack_eights` meets its contract. The loop: v is the number of the eights passed.
-- Assumes nothing.
use Rattle.std.proofs.Common.{◌≡◌, ◌*◌, ◌^◌, ◌<◌, take}
use Rattle.std.specs.List.{concat}
use Rattle.bch_remainder.specs.Word.{number}
use Rattle.bch_remainder.proofs.pack_eights.Given as goal

abbrev pub invariant-loop-eight : goal.invariant-loop-eight
invariant-loop-eight l = (l.v ≡ number (concat (take l.eight-index l.eights))) × (l.v < 2 ^ (l.eight-index * 8))
