use Rattle.std.proofs.Common.{arith, pos}
use Rattle.std.proofs.lemmas.List.{get_or-replicate}
use Rattle.iteration.specs.Lists.{var}
use Rattle.simd.specs.Pass.{signs_start, signs_again, signs_end}
use Rattle.simd.specs.WordsLaws.{sign_parities}
use Rattle.simd.proofs.sign_parity.Goals as goal

pub loop-k-init : goal.loop-k-init
loop-k-init c =
    let check = c.args.check in
    signs_start (var check.rows.now) check.s check.lanes c.args.at c.args.work.now _
    (λ k q. get_or-replicate 16 k (pos 0) (pos 0) q)

pub loop-k-preserved : goal.loop-k-preserved
loop-k-preserved c = signs_again c.loop-k.invariant c.variable-v.ensures c.load.ensures c.flip-more.ensures

pub returns : goal.returns
returns c = sign_parities (signs_end (omega arith) c.loop-k.invariant) c.bits.ensures
