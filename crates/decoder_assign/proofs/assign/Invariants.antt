-- `decoder_assign::assign` meets its contract. Lane by lane, lowest first: a lane takes words while it is empty and one waits.
-- Assumes nothing.
use Rattle.std.proofs.Common.{◌-◌, length}
use Rattle.decoder_words.specs.Book.{book}
use Rattle.decoder_words.specs.Given.{code_by}
use Rattle.decoder_assign.specs.Taken.{held_in, iters_in}
use Rattle.decoder_assign.proofs.Filling.{Filling}
use Rattle.decoder_assign.proofs.assign.Given as goal

abbrev pub invariant-loop-l : goal.invariant-loop-l
invariant-loop-l l =
    Filling (code_by l.run.plan l.run.lists.now) l.run.plan l.run.soft.now l.order (held_in l.initial.taken) (iters_in l.initial.taken) l.initial.next
    (book l.initial.records l.initial.out)
    l.l (held_in l.taken) (iters_in l.taken) l.next (book l.records l.out)

abbrev pub invariant-loop-word : goal.invariant-loop-word
invariant-loop-word l =
    Filling (code_by l.run.plan l.run.lists.now) l.run.plan l.run.soft.now l.order (held_in l.fn.at.taken) (iters_in l.fn.at.taken) l.fn.at.next
    (book l.fn.records l.fn.out)
    l.l (held_in l.taken) (iters_in l.taken) l.next (book l.records l.out)

abbrev pub decreases-loop-word : goal.decreases-loop-word
decreases-loop-word l = length l.order - l.next
