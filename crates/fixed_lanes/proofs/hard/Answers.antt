use Rattle.std.proofs.Common.{arith, refl, ap, sym, ◌∙◌, length-set, ℤ}
use Rattle.iteration.specs.Iteration.{hard}
use Rattle.lane16.specs.Column.{column}
use Rattle.iteration.specs.CheckLaws.{within_at}
use Rattle.fixed_lanes.specs.Read.{deciding_again, deciding_end}
use Rattle.laws.specs.Signed.{plain}
use Rattle.fixed_lanes.proofs.hard.Goals as goal

pub loop-u-preserved : goal.loop-u-preserved
loop-u-preserved c =
    deciding_again c.loop-u.invariant (omega arith)
    (c.bit.ensures
    ∙ ap (λ (z : ℤ). hard z)
    (plain c.value.result (record { sfits = c.value.type_inv })
    ∙ c.value.ensures
    ∙ sym (within_at c.args.n (column c.args.lanes c.args.work.now c.args.lane) c.loop-u.u c.loop-u-test.true)))
    (simp length-set) refl

pub returns : goal.returns
returns c = deciding_end (omega arith) c.requires.1.1 c.loop-u.invariant
