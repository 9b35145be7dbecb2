use Rattle.std.proofs.Common.{arith}
use Rattle.decoder_words.specs.Tallying.{tallying_start, tallying_again, kept_one, lost_one, doubtful_one}
use Rattle.decoder_words.proofs.tally.Goals as goal

pub loop-w-init : goal.loop-w-init
loop-w-init c = tallying_start _

pub overflow_add-kept : goal.overflow_add-kept
overflow_add-kept c = omega (arith, c.loop-w.invariant.kept_le, kept_one c.read-r.result, c.kept_of-kept.ensures, c.requires.words_bound.0)

pub overflow_add-lost : goal.overflow_add-lost
overflow_add-lost c = omega (arith, c.loop-w.invariant.lost_le, lost_one c.read-r.result, c.lost_of-lost.ensures, c.requires.words_bound.0)

pub overflow_add-doubtful : goal.overflow_add-doubtful
overflow_add-doubtful c = omega (arith, c.loop-w.invariant.doubtful_le, doubtful_one c.read-r.result, c.doubtful_of-doubtful.ensures, c.requires.words_bound.0)

pub loop-w-preserved : goal.loop-w-preserved
loop-w-preserved c =
    tallying_again _ c.loop-w.w c.loop-w.given c.loop-w.kept c.loop-w.lost c.loop-w.doubtful _ _ _ _ c.read-r.ensures c.kept_of-kept.ensures
    c.lost_of-lost.ensures c.doubtful_of-doubtful.ensures (c.requires.iterations_bound c.loop-w.w) c.loop-w.invariant
