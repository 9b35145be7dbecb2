use Rattle.std.proofs.Common.{rules, pos}
use Rattle.lane16.proofs.bits.Goals as goal

pub returns : goal.returns
returns c = record { is = λ k q. let h = c.map.ensures.items.at k (pos 0) 0 q in search (rules, h) }
