-- `bch_table::Reg::step` meets its contract: what is left of the register, and what each byte that leaves leaves behind.
-- Assumes nothing.
use Rattle.std.proofs.Common.{arith}
use Rattle.bch_table.proofs.Shift.{stepped}
use Rattle.bch_table.proofs.Reg.step.Goals as goal

pub returns : goal.returns
returns c =
    let r = c.args.self in
    stepped r.hi r.mid r.lo c.args.bits _ _ _ _ _ (omega arith) (omega arith) (omega arith) (omega arith) c.shifted.ensures c.upper.ensures c.lower.ensures c.add.ensures c.add-2.ensures
