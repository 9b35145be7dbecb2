use Rattle.std.proofs.Common.{rules, arith, length-set, ◌≡◌, sym, subst, ◌∙◌, false, ℕ, ◌<◌, min, ℤ, pos, nat_abs, to_z, of_z}
use Rattle.std.specs.Int.{w8}
use Rattle.laws.specs.Signed.{plain}
use Rattle.laws.specs.Definitions.{negative}
use Rattle.iteration.specs.Value.{reduced, signed}
use Rattle.lane_math.specs.Laws.{reduced_small}
use Rattle.lane16.specs.Lanes.{int_at, nat_at, Reduced, reduced_all_small}
use Rattle.laws.specs.Stores.{grown}
use Rattle.lane16.proofs.prepare.Goals as goal

-- a magnitude reduced is small
small : (o x : ℤ) (m : ℕ) → x ≡ reduced o m → nat_abs x < 128
small o x m e = subst (λ (y : ℤ). nat_abs y < 128) (sym e) (reduced_small false o m)

pub signed-requires-in-loop-i : goal.signed-requires-in-loop-i
signed-requires-in-loop-i c =
    small (to_z w8 (of_z w8 c.args.offset)) _ (min (nat_at c.args.st.min2 c.loop-i.i) 127)
    (plain c.reduce-in-loop-i.result (search rules) ∙ c.reduce-in-loop-i.ensures)

pub loop-i-preserved : goal.loop-i-preserved
loop-i-preserved c =
    let i = c.loop-i.i in
    let st = c.args.st in
    let o = to_z w8 (of_z w8 c.args.offset) in
    let s_is = plain (int_at st.sign i) (search rules) in
    let r1 = plain c.reduce.result (search rules) ∙ c.reduce.ensures in
    let r2 = plain c.reduce-in-loop-i.result (search rules) ∙ c.reduce-in-loop-i.ensures in (
      simp length-set (omega arith),
      simp length-set (omega arith),
      grown (pos 0) (λ (k : ℕ) (x : ℤ). x ≡ signed (negative (int_at st.sign k)) (reduced o (min (nat_at st.min1 k) 127))) _ i _
          (omega arith) c.loop-i.invariant.2
          (plain c.signed.result (search rules) ∙ c.signed.ensures ∙ (λ j. signed (negative (s_is j)) (r1 j))),
      grown (pos 0) (λ (k : ℕ) (x : ℤ). x ≡ signed (negative (int_at st.sign k)) (reduced o (min (nat_at st.min2 k) 127))) _ i _
          (omega arith) c.loop-i.invariant.3
          (plain c.signed-in-loop-i.result (search rules) ∙ c.signed-in-loop-i.ensures ∙ (λ j. signed (negative (s_is j)) (r2 j))),
    )

-- magnitudes less the offset are no -128
pub invariant_of-result : goal.invariant_of-result
invariant_of-result c =
    let o = to_z w8 (of_z w8 c.args.offset) in
    let st = c.args.st in
    let r1 : Reduced o st.sign st.min1 c.loop-i.m1 = record { is = λ k q. c.loop-i.invariant.2 k (omega arith) } in
    let r2 : Reduced o st.sign st.min2 c.loop-i.m2 = record { is = λ k q. c.loop-i.invariant.3 k (omega arith) } in
    record { small = (reduced_all_small r1, reduced_all_small r2) }
