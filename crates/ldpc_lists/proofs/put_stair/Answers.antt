-- `ldpc_lists::put_stair` meets its contract. Assumes nothing.
use Rattle.ldpc_lists.proofs.Stairs.{stair_first, stair_second, stair_one, stair_two}
use Rattle.ldpc_lists.specs.Build.{as_lists}
use Rattle.std.proofs.Common.{◌+◌, refl}
use Rattle.std.proofs.Math.Decide.{ℕ_discrete}
use Rattle.ldpc_lists.proofs.put_stair.Goals as goal

pub put_one-requires : goal.put_one-requires
put_one-requires c =
    stair_first c.args.k c.args.c (c.args.k + c.args.c) (as_lists c.args.starts.now c.args.rows.now) refl c.requires.1 (ℕ_discrete c.args.c 0)

pub returns-then-c-eq0 : goal.returns-then-c-eq0
returns-then-c-eq0 c = stair_one _ _ (c.args.k + c.args.c) _ _ refl c.if-c-eq0.true c.put_one.ensures

pub put_one-requires-2 : goal.put_one-requires-2
put_one-requires-2 c =
    stair_second c.args.k c.args.c (c.args.k + c.args.c) _ (as_lists c.args.starts.now c.args.rows.now) refl c.if-c-eq0.false c.requires.1 c.put_one.ensures

pub returns : goal.returns
returns c = stair_two _ _ (c.args.k + c.args.c) _ _ _ refl c.if-c-eq0.false c.put_one.ensures c.put_one-2.ensures
