-- `bch_remainder::more` meets its contract: a step of sixteen bits, or the first one.
-- Assumes nothing.
use Rattle.std.proofs.Common.{arith, ◌<◌, ◌^◌}
use Rattle.bch_remainder.specs.Word.{number}
use Rattle.bch_remainder.specs.Laws.{number_fits}
use Rattle.bch_remainder.proofs.Parity.{more_is}
use Rattle.bch_remainder.proofs.more.Goals as goal

pub overflow_cast-pack : goal.overflow_cast-pack
overflow_cast-pack c = let h : number c.args.bits.now < 2 ^ 16 = number_fits _ 16 c.requires in omega (arith, c.pack.ensures)

pub returns : goal.returns
returns c = more_is c.args.bits.now _ _ _ c.requires c.pack.ensures c.step.ensures
