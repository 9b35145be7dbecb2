use Rattle.std.proofs.Common.{rules, arith, ◌∙◌, cond, ◌+ℤ◌, ◌-ℤ◌, w32}
use Rattle.std.proofs.lemmas.Int.{to_z-of_z}
use borrow.Author.Rules.{sfits_of}
use Rattle.laws.specs.Signed.{plain}
use Rattle.lane16.specs.Lanes.{int_at}
use Rattle.fixed_layered.specs.Sums.{lanes_again}
use Rattle.fixed_layered.proofs.gather.Goals as goal

pub loop-i-preserved : goal.loop-i-preserved
loop-i-preserved c =
    let i = c.loop-i.i in
    lanes_again _ c.loop-i.invariant (omega arith) (search rules) (search rules) (search rules)
    (to_z-of_z w32 c.gathered.result (sfits_of c.gathered.type_inv)
    ∙ c.gathered.ensures
    ∙ (λ j. cond c.args.seen
    (to_z-of_z w32 (int_at c.loop-i.sums i) (search rules) j +ℤ (plain (int_at c.args.new.now i) (search rules) j -ℤ plain (int_at c.args.old.now i) (search rules) j))
    (plain (int_at c.args.t.now i) (search rules) j +ℤ plain (int_at c.args.new.now i) (search rules) j)))
