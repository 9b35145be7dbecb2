-- `bch_table::Reg::add` meets its contract: xor word by word.
-- Assumes nothing.
use Rattle.std.proofs.Common.{arith}
use Rattle.laws.specs.Definitions.{◌⊕◌}
use Rattle.bch_table.specs.Words.{xored}
use Rattle.bch_table.proofs.Reg.add.Goals as goal

pub returns : goal.returns
unfolding ◌⊕◌
returns c =
    let r = c.args.self in
    let s = c.args.other in
    xored r.hi r.mid r.lo s.hi s.mid s.lo (omega arith) (omega arith) (omega arith) (omega arith)
