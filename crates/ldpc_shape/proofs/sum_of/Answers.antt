use Rattle.std.proofs.Common.{◌≡◌, sym, ◌∙◌, rules, sum}
use Rattle.ldpc_shape.proofs.Loops.{total_sum}
use Rattle.ldpc_shape.proofs.sum_of.Goals as goal

pub returns : goal.returns
returns c = let e : c.sum.result ≡ sum c.args.lens.now = search rules in e ∙ sym (total_sum c.args.lens.now)
