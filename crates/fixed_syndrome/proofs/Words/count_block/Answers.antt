use Rattle.std.proofs.Common.{◌≡◌, ◌-◌, min, arith}
use Rattle.std.proofs.lemmas.List.{get_or-replicate}
use Rattle.fixed_syndrome.specs.Count.{block_start, block_again, block_room}
use Rattle.fixed_syndrome.proofs.Words.count_block.Goals as goal

pub loop-k-2-init : goal.loop-k-2-init
loop-k-2-init c =
    let e : c.min-d.result ≡ c.loop-k.k = omega arith in
    (rw e c.loop-k.invariant.1, block_start _ _ _ _ (λ k q. get_or-replicate 16 k 0 0 q) (λ k q. get_or-replicate 16 k 0 0 q))

pub added-b-requires : goal.added-b-requires
added-b-requires c = λ k q. omega (arith, block_room c.loop-k-2.invariant.1 (c.loop-k-2.invariant.0.is c.loop-k-2.k (omega arith)) k q)

pub loop-k-2-preserved : goal.loop-k-2-preserved
loop-k-2-preserved c = (c.loop-k-2.invariant.0, block_again c.loop-k-2.invariant.1 (c.loop-k-2.invariant.0.is c.loop-k-2.k (omega arith)) c.added-b.ensures)

pub returns : goal.returns
returns c =
    let e : min (c.args.self.code.p - c.args.from) 120 ≡ c.loop-k-2.k = omega arith in
    rw e c.loop-k-2.invariant.1
