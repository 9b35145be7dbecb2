use Rattle.std.proofs.Common.{◌≡◌, get_or}
use Rattle.bch.specs.Places.{flip_all}
use Rattle.bch.proofs.flip.Given as goal

-- the first powers are turned
abbrev pub invariant-loop-p : goal.invariant-loop-p
invariant-loop-p l = (l.word ≡ flip_all l.initial.word (λ i. get_or l.powers i 0) l.p-index)
