use Rattle.std.proofs.Common.{rules, arith, length-set, ◌≡◌, ap, ◌∙◌, ℕ, min, max, ℤ, pos, nat_abs, ◌-ℤ◌, to_z, of_z}
use Rattle.std.proofs.Math.Nat.{min_comm}
use Rattle.std.specs.Int.{w8}
use Rattle.laws.specs.Signed.{plain}
use Rattle.laws.specs.Definitions.{negative, times}
use Rattle.iteration.specs.Value.{sat_z}
use Rattle.lane16.specs.Lanes.{int_at, nat_at}
use Rattle.laws.specs.Stores.{grown, kept}
use Rattle.lane16.proofs.scan.Goals as goal

pub loop-i-preserved : goal.loop-i-preserved
loop-i-preserved c =
    let now = c.loop-i.invariant in
    let i = c.loop-i.i in
    let old = c.args.st in
    let t : ℕ → ℤ = λ k. sat_z (int_at c.args.lv k -ℤ int_at c.args.rv k) in
    let x_is : to_z w8 (of_z w8 c.sat_sub-x.result) ≡ t i =
    plain c.sat_sub-x.result (search rules)
    ∙ c.sat_sub-x.ensures
    ∙ (λ j. sat_z (plain (int_at c.args.lv i) (search rules) j -ℤ plain (int_at c.args.rv i) (search rules) j)) in
    let a_is : c.unsigned_abs-a.result ≡ nat_abs (t i) = c.unsigned_abs-a.ensures.value ∙ ap nat_abs x_is in
    let min1_step : c.min-in-loop-i.result ≡ min (nat_at old.min1 i) (nat_abs (t i)) =
    c.min-in-loop-i.ensures
    ∙ min_comm c.unsigned_abs-a.result _
    ∙ (λ j. min (now.min1_kept i (omega arith) j) (a_is j)) in
    let min2_step : c.max.result ≡ max (nat_at old.min1 i) (min (nat_at old.min2 i) (nat_abs (t i))) =
    c.max.ensures
    ∙ (λ j. max (now.min1_kept i (omega arith) j) ((c.min.ensures ∙ (λ k. min (now.min2_kept i (omega arith) k) (a_is k))) j)) in
    let sign_step : negative (to_z w8 (of_z w8 c.flip.result)) ≡ times (negative (int_at old.sign i)) (negative (t i)) =
    ap negative (plain c.flip.result (search rules))
    ∙ c.flip.ensures
    ∙ (λ j. times (negative ((plain (int_at c.loop-i.st.sign i) (search rules) ∙ now.sign_kept i (omega arith)) j)) (negative (x_is j))) in
    record {
      long = (
        simp length-set (omega arith),
        simp length-set (omega arith),
        simp length-set (omega arith),
        simp length-set (omega arith),
      );
      t_is = grown (pos 0) (λ (k : ℕ) (x : ℤ). x ≡ t k) _ i _ (omega arith) now.t_is x_is;
      min1_is = grown 0 (λ (k : ℕ) (x : ℕ). x ≡ min (nat_at old.min1 k) (nat_abs (t k))) _ i _ (omega arith) now.min1_is min1_step;
      min2_is =
          grown 0 (λ (k : ℕ) (x : ℕ). x ≡ max (nat_at old.min1 k) (min (nat_at old.min2 k) (nat_abs (t k)))) _ i _ (omega arith)
          now.min2_is min2_step;
      sign_is =
          grown (pos 0) (λ (k : ℕ) (x : ℤ). negative x ≡ times (negative (int_at old.sign k)) (negative (t k))) _ i _ (omega arith)
          now.sign_is sign_step;
      min1_kept = kept 0 _ _ i _ now.min1_kept;
      min2_kept = kept 0 _ _ i _ now.min2_kept;
      sign_kept = kept (pos 0) _ _ i _ now.sign_kept;
    }
