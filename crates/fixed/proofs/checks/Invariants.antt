-- `fixed::checks` meets its contract. Assumes nothing.
use Rattle.std.proofs.Common.{◌≡◌, length}
use Rattle.fixed.specs.Sequential.{InTurn}
use Rattle.fixed.proofs.checks.Given as goal

abbrev pub invariant-loop-x : goal.invariant-loop-x
invariant-loop-x l =
    (length l.work ≡ length l.initial.work)
    × (length l.t ≡ length l.initial.t)
    × (length l.u ≡ length l.initial.u)
    × InTurn l.turns.code.n l.turns.code.p l.turns.lanes l.turns.offset l.turns.code.lists.now l.turns.first l.turns.q l.initial.work l.x l.work
