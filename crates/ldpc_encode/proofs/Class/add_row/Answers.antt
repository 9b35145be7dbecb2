use Rattle.std.proofs.Common.{sym, subst, ap, ◌∙◌, length}
use Rattle.ldpc_encode.specs.Sums.{AddedToSums, turned_bit}
use Rattle.ldpc_encode.proofs.Bits.{row_hit, row_miss, row_end}
use Rattle.ldpc_encode.proofs.Class.add_row.Goals.{then-residue-self, else-residue-self}
use Rattle.ldpc_encode.proofs.Class.add_row.Goals as goal

pub loop-a-preserved : goal.loop-a-preserved
loop-a-preserved c =
    elim c.if-residue-self.branch [
      | then-residue-self w ↦ record {
        long = ap length w.x-is ∙ w.add_turned.ensures.long;
        sums = row_hit c.args.self.q c.args.self.l c.args.w.now c.args.row.now c.loop-a.a-index c.loop-a.x _ c.args.x.now c.residue.result w.turn.result c.loop-a-test.true c.residue.ensures.0 w.if-residue-self.true
            w.turn.ensures.0 (subst (λ y. AddedToSums c.loop-a.x y (turned_bit c.args.w.now w.turn.result)) (sym w.x-is) w.add_turned.ensures) c.loop-a.invariant.sums;
      }
      | else-residue-self w ↦ record {
        long = ap length w.x-is ∙ c.loop-a.invariant.long;
        sums = row_miss c.args.self.q c.args.self.l c.args.w.now c.args.row.now c.loop-a.a-index c.loop-a.x _ c.args.x.now c.residue.result c.loop-a-test.true c.residue.ensures.0 w.if-residue-self.false w.x-is
            c.loop-a.invariant.sums;
      }
    ]

pub returns : goal.returns
returns c = row_end c.args.self.q c.args.self.l c.args.w.now c.args.row.now c.loop-a.a-index c.loop-a.x c.args.x.now c.loop-a.invariant.long c.loop-a-test.false c.loop-a.invariant.sums
