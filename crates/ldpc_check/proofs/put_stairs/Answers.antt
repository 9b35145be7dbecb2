-- `ldpc_check::put_stairs` meets its contract. Assumes nothing.
use Rattle.std.proofs.Common.{◌+◌, refl, arith, length-set}
use Rattle.ldpc_check.proofs.Loops.{stair_one, stair_two}
use Rattle.ldpc_check.proofs.put_stairs.Goals as goal

pub bounds-out-0 : goal.bounds-out-0
bounds-out-0 c = (stair_one c.args.out.now c.args.k c.args.c (c.args.k + c.args.c) refl c.if-c-eq0.true c.requires.1).0

pub returns-then-c-eq0 : goal.returns-then-c-eq0
returns-then-c-eq0 c = let e = stair_one c.args.out.now c.args.k c.args.c (c.args.k + c.args.c) refl c.if-c-eq0.true c.requires.1 in (e.1, e.2)

pub bounds-out-0-2 : goal.bounds-out-0-2
bounds-out-0-2 c = omega (arith, (stair_two c.args.out.now c.args.k c.args.c (c.args.k + c.args.c) refl c.if-c-eq0.false c.requires.1).0)

pub bounds-out-1 : goal.bounds-out-1
bounds-out-1 c = simp length-set ((stair_two c.args.out.now c.args.k c.args.c (c.args.k + c.args.c) refl c.if-c-eq0.false c.requires.1).0)

pub returns : goal.returns
returns c = let e = stair_two c.args.out.now c.args.k c.args.c (c.args.k + c.args.c) refl c.if-c-eq0.false c.requires.1 in (e.1, e.2)
