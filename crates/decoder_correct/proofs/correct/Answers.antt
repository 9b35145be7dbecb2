use Rattle.std.proofs.Common.{◌≡◌, arith}
use Rattle.decoder_correct.proofs.Settled.{settling_start, settling_again, settling_end}
use Rattle.decoder_correct.proofs.correct.Goals as goal

pub loop-w-init : goal.loop-w-init
loop-w-init c = settling_start _ _ _

pub loop-w-preserved : goal.loop-w-preserved
loop-w-preserved c = settling_again _ _ _ c.loop-w.w _ _ c.loop-w-test.true c.settle.ensures.only c.settle.ensures.settled c.loop-w.invariant

pub returns : goal.returns
returns c =
    let z : c.loop-w.w ≡ c.args.plan.words = omega arith in
    settling_end _ _ _ c.loop-w.w _ z c.requires.room.1 c.loop-w.invariant
