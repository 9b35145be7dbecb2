use Rattle.std.proofs.Common.{arith, false, refl, ◌+◌, ◌-◌}
use Rattle.std.proofs.lemmas.List.{get_or-replicate}
use Rattle.fixed_syndrome.specs.Chunk.{filled_start, filled_again}
use Rattle.fixed_syndrome.specs.Met.{VerdictIn, verdicts_in, met_end}
use Rattle.fixed_syndrome.proofs.met.Goals as goal

pub loop-at-init : goal.loop-at-init
loop-at-init c =
    (refl, filled_start false (VerdictIn c.args.code.n c.args.code.p c.args.lanes c.args.code.lists.now c.args.work.now c.args.held) _ (omega arith) (λ i q. get_or-replicate 64 i false false q))

pub loop-at-preserved : goal.loop-at-preserved
loop-at-preserved c = (
  omega (arith, c.judge.ensures.long),
  filled_again (omega arith) (omega arith) c.loop-at.invariant.1 c.judge.ensures (verdicts_in _ {m = c.loop-at.at + c.min-w.result - c.loop-at.at} c.unheld.ensures c.met_rows-v.ensures (omega arith) (omega arith) (omega arith)),
)

pub returns : goal.returns
returns c = met_end (omega arith) c.loop-at.invariant.1

pub returns-2 : goal.returns-2
returns-2 c =
    met_end refl
    (filled_again (omega arith) (omega arith) c.loop-at.invariant.1 c.judge.ensures (verdicts_in _ {m = c.loop-at.at + c.min-w.result - c.loop-at.at} c.unheld.ensures c.met_rows-v.ensures (omega arith) (omega arith) (omega arith)))
