use Rattle.std.proofs.Common.{List, ℕ, ◌++◌, take, refl, ap, arith, ◌∙◌}
use Rattle.ldpc_check.specs.Found.{found, all_of}
use Rattle.ldpc_check.proofs.Loops.{rest_of, rest_start, rest_end, rest_next, list_fits, rows_on, rows_done}
use Rattle.ldpc_check.proofs.CheckAt.rows.Goals as goal

pub loop-row-init : goal.loop-row-init
loop-row-init c =
    let n = c.from-row-items in
    let g = n.ensures in
    let it = c.into_iter-row-iterator in
    record {
      below = omega arith;
      all = rest_start c.args.self.q c.args.self.c it.result n.result c.args.of.lens.now c.args.of.addrs.now it.ensures.into_iter_gives g.0 g.1 g.2;
      kept = refl;
    }

-- what is left: the row's bits, and those of the rows behind it
pub row-n-requires : goal.row-n-requires
row-n-requires c =
    let r = c.in-Some.row in
    let next = rest_next c.args.self.q c.args.self.c c.loop-row.row-iterator c.next.new.self r c.in-Some.ensures.steps in
    list_fits c.loop-row.out c.args.out.now c.loop-row.n (all_of c.args.self.q c.args.self.c c.args.of.lens.now c.args.of.addrs.now) (found c.args.self.q c.args.self.c r.first r.addrs.now)
    (rest_of c.args.self.q c.args.self.c c.next.new.self) c.loop-row.auto.out c.loop-row.invariant.below
    (c.loop-row.invariant.all ∙ ap (λ (z : List ℕ). take c.loop-row.n c.loop-row.out ++ z) next) c.requires

-- the row's bits laid behind those of the rows before
pub loop-row-preserved : goal.loop-row-preserved
loop-row-preserved c =
    let r = c.in-Some.row in
    let next = rest_next c.args.self.q c.args.self.c c.loop-row.row-iterator c.next.new.self r c.in-Some.ensures.steps in
    let on =
    rows_on c.loop-row.out c.args.out.now c.loop-row.n (all_of c.args.self.q c.args.self.c c.args.of.lens.now c.args.of.addrs.now) (found c.args.self.q c.args.self.c r.first r.addrs.now)
    (rest_of c.args.self.q c.args.self.c c.next.new.self) c.loop-row.auto.out c.loop-row.invariant.below
    (c.loop-row.invariant.all ∙ ap (λ (z : List ℕ). take c.loop-row.n c.loop-row.out ++ z) next) c.requires c.row-n.new.out c.row-n.result c.row-n.ensures.0
    c.row-n.ensures.1 c.loop-row.invariant.kept
    in
    record { below = on.1; all = on.2; kept = on.3 }

pub returns : goal.returns
returns c =
    rows_done c.loop-row.out c.args.out.now (all_of c.args.self.q c.args.self.c c.args.of.lens.now c.args.of.addrs.now) (rest_of c.args.self.q c.args.self.c c.loop-row.row-iterator) c.loop-row.n
    c.loop-row.invariant.below c.loop-row.invariant.all (rest_end c.args.self.q c.args.self.c c.loop-row.row-iterator c.in-None.ensures.steps.0) c.loop-row.invariant.kept
