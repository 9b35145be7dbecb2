-- `bch_table::Reg::shifted` meets its contract: the three words, shifted, are one number's.
-- Assumes nothing.
use Rattle.std.proofs.Common.{arith}
use Rattle.bch_table.proofs.Shift.{shifted_is}
use Rattle.bch_table.proofs.Reg.shifted.Goals as goal

pub returns : goal.returns
returns c = let r = c.args.self in shifted_is r.hi r.mid r.lo (omega arith) (omega arith) (omega arith)
