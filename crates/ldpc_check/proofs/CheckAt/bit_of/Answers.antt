-- `ldpc_check::CheckAt::bit_of` meets its contract. Assumes nothing.
use Rattle.std.proofs.Common.{ℕ, ◌+◌, ◌-◌, ◌/◌, ◌%◌, ap, arith, mod-lt}
use Rattle.ldpc_edges.specs.Insert.{place}
use Rattle.ldpc_check.proofs.CheckAt.bit_of.Goals as goal

pub returns : goal.returns
unfolding place
returns c = (
  ap (λ (a : ℕ). (c.args.self.c / c.args.self.q + 374 - a / c.args.self.q % 374) % 374) c.from.ensures,
  mod-lt (c.args.self.c / c.args.self.q + 374 - c.from.result / c.args.self.q % 374) {m = 374} (omega arith),
)
