use Rattle.std.proofs.Common.{◌≡◌, true, false, not, sym, ◌∙◌, ◌%◌, eqb}
use Rattle.std.proofs.lemmas.Bool.{eq-eqb, ne_eqb}
use Rattle.ldpc_shape.specs.Shape.{bad_length}
use Rattle.ldpc_shape.proofs.bad_length.Goals.{then-n-eq0, else-n-eq0}
use Rattle.ldpc_shape.proofs.bad_length.Goals as goal

pub returns-then-n-ne0 : goal.returns-then-n-ne0
unfolding bad_length
returns-then-n-ne0 c =
    elim c.if-n-eq0.branch [
      | then-n-eq0 w ↦ let e = eq-eqb _ _ w.if-n-eq0.true in rw e c.if-n-ne0.true
      | else-n-eq0 w ↦ let e = ne_eqb _ _ w.if-n-eq0.false in let f : not (eqb (c.args.n % 374) 0) ≡ true = sym w.value-is ∙ c.if-n-ne0.true in rw (e, f) c.if-n-ne0.true
    ]

pub returns-else-n-ne0 : goal.returns-else-n-ne0
unfolding bad_length
returns-else-n-ne0 c =
    elim c.if-n-eq0.branch [
      | then-n-eq0 w ↦ cc (eq-eqb _ _ w.if-n-eq0.true)
      | else-n-eq0 w ↦ let e = ne_eqb _ _ w.if-n-eq0.false in let f : not (eqb (c.args.n % 374) 0) ≡ false = sym w.value-is ∙ c.if-n-ne0.false in rw (e, f)
    ]
