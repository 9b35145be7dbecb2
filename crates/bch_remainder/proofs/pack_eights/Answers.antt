use Rattle.std.proofs.Common.{◌<◌, ◌^◌, sym, arith, lit<, get_or, le_of_eq, []}
use Rattle.bch_remainder.specs.Word.{number}
use Rattle.bch_remainder.proofs.Bits.{number_none, eights_room, eights_again}
use Rattle.bch_remainder.specs.Laws.{number_fits}
use Rattle.bch_remainder.proofs.pack_eights.Goals as goal

pub loop-eight-init : goal.loop-eight-init
loop-eight-init c = (sym number_none, omega arith)

pub overflow_mul-v : goal.overflow_mul-v
overflow_mul-v c = let i = c.loop-eight in omega (arith, eights_room i.eight-index i.v 0 i.invariant.1 (omega (arith, c.requires, c.loop-eight-test.true)) (lit< tt))

pub overflow_add-v : goal.overflow_add-v
overflow_add-v c =
    let i = c.loop-eight in
    let n : number (get_or c.args.eights.now i.eight-index []) < 2 ^ 8 = number_fits _ 8 (le_of_eq (c.told-eights i.eight-index c.loop-eight-test.true)) in
    omega (arith, c.pack_eight.ensures, eights_room i.eight-index i.v _ i.invariant.1 (omega (arith, c.requires, c.loop-eight-test.true)) n)

pub loop-eight-preserved : goal.loop-eight-preserved
loop-eight-preserved c = let t = c.loop-eight-test.true in eights_again _ _ _ _ t (c.told-eights c.loop-eight.eight-index t) c.pack_eight.ensures c.loop-eight.invariant
