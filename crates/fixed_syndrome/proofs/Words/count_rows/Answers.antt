use Rattle.std.proofs.Common.{arith}
use Rattle.std.proofs.lemmas.List.{get_or-replicate}
use Rattle.fixed_syndrome.specs.Count.{counting_start, counting_again, counting_room}
use Rattle.fixed_syndrome.proofs.Words.count_rows.Goals as goal

pub loop-from-init : goal.loop-from-init
loop-from-init c = counting_start _ _ _ (omega arith) (λ k q. get_or-replicate 16 k 0 0 q) (λ k q. get_or-replicate 16 k 0 0 q)

pub joined-u-requires : goal.joined-u-requires
joined-u-requires c = (omega arith, λ k q. omega (arith, counting_room c.loop-from.invariant k q))

pub loop-from-preserved : goal.loop-from-preserved
loop-from-preserved c = counting_again (omega arith) (omega arith) c.loop-from.invariant c.count_block.ensures c.joined-u.ensures

pub returns-2 : goal.returns-2
returns-2 c = counting_again (omega arith) (omega arith) c.loop-from.invariant c.count_block.ensures c.joined-u.ensures
