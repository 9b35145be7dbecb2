use Rattle.std.proofs.Common.{◌∙◌, w8}
use Rattle.std.specs.Float.{nan}
use Rattle.std.proofs.lemmas.Int.{to_z-of_z}
use Rattle.quantise.specs.Soft.{soft_of}
use Rattle.quantise.proofs.Writes.{upto_again}
use Rattle.quantise.proofs.write.Goals as goal

pub loop-i-preserved : goal.loop-i-preserved
loop-i-preserved c =
    upto_again (soft_of c.args.scale) nan c.args.llr.now c.args.out.now c.loop-i.out c.loop-i.i _ c.loop-i-test.true c.requires
    c.loop-i.invariant (to_z-of_z w8 c.soft.result (record { sfits = c.soft.type_inv }) ∙ c.soft.ensures)
