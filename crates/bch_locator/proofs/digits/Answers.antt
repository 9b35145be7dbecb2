use Rattle.std.proofs.Common.{rules, arith}
use Rattle.bch_locator.proofs.Constants.{first_powers, second_powers}
use Rattle.bch_locator.proofs.Horner.{partial_start, partial_again}
use Rattle.bch_locator.proofs.digits.Goals as goal

pub loop-k-init : goal.loop-k-init
loop-k-init c = partial_start _ _ (record { len = search rules; fit = search rules })

pub loop-k-preserved : goal.loop-k-preserved
loop-k-preserved c = partial_again _ _ c.loop-k.r c.loop-k.k _ _ _ _ _ c.loop-k.invariant (omega arith) (omega arith) first_powers second_powers c.times-one.ensures c.times-two.ensures c.add_bit-next.ensures
