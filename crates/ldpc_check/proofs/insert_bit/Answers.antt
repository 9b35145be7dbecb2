use Rattle.std.proofs.Common.{ℕ, ◌-◌, ◌<◌, arith, length}
use Rattle.ldpc_check.proofs.Loops.{insert_swap, insert_keep, insert_end}
use Rattle.ldpc_check.proofs.insert_bit.Goals.{then-v-b, else-v-b}
use Rattle.ldpc_check.proofs.insert_bit.Goals as goal

pub loop-i-preserved : goal.loop-i-preserved
loop-i-preserved c =
    let n : ℕ = length c.args.out.now - 1 in
    let inside : n < length c.loop-i.out = omega (arith, c.loop-i.auto.out, c.requires) in
    elim c.if-v-b.branch [
      | then-v-b w ↦ insert_swap c.args.m n c.args.out.now c.loop-i.out _ c.loop-i.v _ c.loop-i.i c.loop-i-test.true inside w.if-v-b.true w.out-is w.v-is c.loop-i.invariant
      | else-v-b w ↦ insert_keep c.args.m n c.args.out.now c.loop-i.out _ c.loop-i.v _ c.loop-i.i c.loop-i-test.true inside w.if-v-b.false w.out-is w.v-is c.loop-i.invariant
    ]

pub returns : goal.returns
returns c =
    insert_end c.args.m (length c.args.out.now - 1) c.args.out.now c.loop-i.out c.loop-i.v c.loop-i.i (omega arith) (omega (arith, c.loop-i.auto.out, c.requires)) c.loop-i.invariant
