use Rattle.std.proofs.Common.{arith, ◌+◌, ◌<◌, ap, refl, sym, ◌∙◌, length, length-take-le}
use Rattle.std.specs.Slice.Iter.{iter_rest}
use Rattle.std.specs.Iterator.Adapters.{rev_source}
use Rattle.ldpc_check.proofs.Loops.{row_start_lem, row_room, row_hit, row_miss}
use Rattle.ldpc_check.proofs.CheckAt.row.Goals as goal

pub loop-a-init : goal.loop-a-init
loop-a-init c = row_start_lem c.args.self.q c.args.self.c c.args.row.first c.args.row.addrs.now (omega (arith, c.args.self.within)) c.args.self.within _ c.args.out.now
    (ap (λ z. iter_rest (rev_source z)) c.into_iter-a-iterator.ensures.into_iter_gives ∙ ap iter_rest c.rev-a-items.ensures.source ∙ c.iter.ensures.rest)

pub slice_bounds-insert_bit-end : goal.slice_bounds-insert_bit-end
slice_bounds-insert_bit-end c =
    let h : c.loop-a.n < length c.loop-a.out = row_room c.args.self.q c.args.self.c c.args.row.first c.args.row.addrs.now (omega (arith, c.args.self.within)) c.args.self.within _ _ c.loop-a.out c.args.out.now c.loop-a.n c.in-Some.field-0.now c.residue.result _ c.loop-a.invariant c.in-Some.ensures.steps c.requires c.residue.ensures.0 refl c.if-residue-l.true in
    omega arith

pub slice_bounds-insert_bit-end-then-residue-l : goal.slice_bounds-insert_bit-end-then-residue-l
slice_bounds-insert_bit-end-then-residue-l c =
    let h : c.loop-a.n < length c.loop-a.out = row_room c.args.self.q c.args.self.c c.args.row.first c.args.row.addrs.now (omega (arith, c.args.self.within)) c.args.self.within _ _ c.loop-a.out c.args.out.now c.loop-a.n c.in-Some.field-0.now c.residue.result _ c.loop-a.invariant c.in-Some.ensures.steps c.requires c.residue.ensures.0 refl c.if-residue-l.true in
    sym (length-take-le (c.loop-a.n + 1) c.loop-a.out (omega arith))

pub insert_bit-requires : goal.insert_bit-requires
insert_bit-requires c =
    let h : c.loop-a.n < length c.loop-a.out = row_room c.args.self.q c.args.self.c c.args.row.first c.args.row.addrs.now (omega (arith, c.args.self.within)) c.args.self.within _ _ c.loop-a.out c.args.out.now c.loop-a.n c.in-Some.field-0.now c.residue.result _ c.loop-a.invariant c.in-Some.ensures.steps c.requires c.residue.ensures.0 refl c.if-residue-l.true in
    omega (arith, length-take-le (c.loop-a.n + 1) c.loop-a.out (omega arith))

pub loop-a-preserved-then-residue-l : goal.loop-a-preserved-then-residue-l
loop-a-preserved-then-residue-l c =
    row_hit c.args.self.q c.args.self.c c.args.row.first c.args.row.addrs.now (omega (arith, c.args.self.within)) c.args.self.within _ _ c.loop-a.out c.args.out.now c.loop-a.n c.in-Some.field-0.now c.residue.result _ c.loop-a.invariant c.in-Some.ensures.steps c.requires c.residue.ensures.0 refl c.if-residue-l.true
    _ c.insert_bit.new.out (ap (λ z. c.args.row.first + z) c.bit_of.ensures.0) c.insert_bit.ensures

pub loop-a-preserved : goal.loop-a-preserved
loop-a-preserved c =
    row_miss c.args.self.q c.args.self.c c.args.row.first c.args.row.addrs.now (omega (arith, c.args.self.within)) c.args.self.within _ _ c.loop-a.out c.args.out.now c.loop-a.n c.in-Some.field-0.now c.residue.result _ c.loop-a.invariant c.in-Some.ensures.steps c.requires c.residue.ensures.0 refl c.if-residue-l.false
