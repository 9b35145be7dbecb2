use Rattle.std.proofs.Common.{rules, arith, length-set, ◌≡◌, ◌∙◌, ℕ, ℤ, pos, ◌+ℤ◌, to_z, of_z}
use Rattle.std.specs.Int.{w8}
use Rattle.laws.specs.Signed.{plain}
use Rattle.iteration.specs.Value.{sat_z}
use Rattle.lane_math.specs.Reply.{replied}
use Rattle.lane16.specs.Lanes.{int_at, nat_at}
use Rattle.laws.specs.Stores.{grown}
use Rattle.lane16.proofs.reply.Goals as goal

pub loop-i-preserved : goal.loop-i-preserved
loop-i-preserved c =
    let i = c.loop-i.i in
    let ready = c.args.ready in
    let m : ℕ → ℤ = λ k. replied (int_at c.args.t k) (nat_at ready.least k) (int_at ready.m1 k) (int_at ready.m2 k) in
    let x_is = plain (int_at c.args.t i) (search rules) in
    let q_is : to_z w8 (of_z w8 c.reply-q.result) ≡ m i =
    plain c.reply-q.result (search rules)
    ∙ c.reply-q.ensures
    ∙ (λ j. replied (x_is j) (nat_at ready.least i) (plain (int_at ready.m1 i) (search rules) j)
    (plain (int_at ready.m2 i) (search rules) j)) in (
      simp length-set (omega arith),
      simp length-set (omega arith),
      grown (pos 0) (λ (k : ℕ) (x : ℤ). x ≡ m k) _ i _ (omega arith) c.loop-i.invariant.2 q_is,
      grown (pos 0) (λ (k : ℕ) (x : ℤ). x ≡ sat_z (int_at c.args.t k +ℤ m k)) _ i _ (omega arith) c.loop-i.invariant.3
          (plain c.sat_add.result (search rules) ∙ c.sat_add.ensures ∙ (λ j. sat_z (x_is j +ℤ q_is j))),
    )
