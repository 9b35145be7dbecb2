use Rattle.std.proofs.Common.{rules, arith, List, ℕ, ◌≡◌, ◌/◌, ◌%◌, length, ap, ◌∙◌, subst}
use Rattle.ldpc_shape.specs.declared.Table.{Table}
use Rattle.ldpc_encode.specs.Sums.{Scattered}
use Rattle.ldpc_shape.proofs.Accepted.{table_bounded}
use Rattle.ldpc_encode.proofs.Residue.{info_ones, info_is, done_again, parity_done, from_zeros}
use Rattle.ldpc_encode.proofs.parity_of.Goals as goal

pub invariant_of-class : goal.invariant_of-class
invariant_of-class c = record { below = search rules; few = (table_bounded c.args.of).q_le }

-- q, as `scatter` reckons it
q_is : (T : Table) (out : List ℕ) → length out ≡ T.sizes.p → length out / 374 ≡ T.sizes.q
q_is T out e = omega (arith, e, table_bounded T)

pub scatter-requires : goal.scatter-requires
scatter-requires c =
    let b = table_bounded c.args.of in
    let long = c.loop-l.auto.out ∙ c.requires.1 in
    (omega (arith, long, b), omega (arith, q_is c.args.of c.loop-l.out long), omega (arith, long, b))

pub loop-l-preserved : goal.loop-l-preserved
loop-l-preserved c =
    let e = q_is c.args.of c.loop-l.out (c.loop-l.auto.out ∙ c.requires.1) in
    done_again c.args.of.sizes.q c.loop-l.l c.add_rows.new.x c.loop-l.out _ (info_ones c.args.of.sizes.n c.args.of.lens.now c.args.of.addrs.now c.args.info.now)
    (search rules) (subst (λ (z : ℕ). Scattered 374 z c.loop-l.l c.add_rows.new.x c.loop-l.out c.scatter.new.out) e c.scatter.ensures)
    (λ i h. from_zeros c.add_rows.new.x _ c.add_rows.ensures i h ∙ ap (λ (z : ℕ). z % 2) (info_is c.args.of c.args.info.now c.loop-l.l i)) c.loop-l.invariant

pub returns : goal.returns
returns c =
    c.sum_up.ensures ∙ parity_done c.args.of c.args.info.now c.loop-l.out (c.loop-l.auto.out ∙ c.requires.1) c.loop-l.l (search rules) c.loop-l.invariant
