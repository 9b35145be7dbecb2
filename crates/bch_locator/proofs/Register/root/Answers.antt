use Rattle.std.proofs.Common.{◌+◌, ap, length, refl, arith}
use Rattle.bch_locator.proofs.Search.{one_hit, one_miss, power_start, power_again, places_start, places_miss, places_hit, places_full, places_end}
use Rattle.bch_locator.proofs.Register.root.Goals as goal

pub loop-p-init : goal.loop-p-init
loop-p-init c = (power_start, c.new-found.ensures, places_start _ _ _ c.new-found.ensures, omega arith)

pub returns-then-x-self : goal.returns-then-x-self
returns-then-x-self c =
    let z = one_hit c.args.self.now.c c.loop-p.p _ _ c.args.self.now.first c.loop-p.invariant.0 refl c.if-x-self.true in
    places_full _ c.args.self.now.c 1 (c.loop-p.p + 1) c.args.n (omega arith) (omega arith) c.args.self.now.first (omega (arith, c.push.ensures.len, ap length c.loop-p.invariant.1))
    (places_hit _ _ c.args.self.now.c 1 c.loop-p.p (omega arith) c.args.self.now.first c.loop-p.invariant.2 z (rw c.from.ensures at c.push.ensures.items))

pub loop-p-preserved : goal.loop-p-preserved
loop-p-preserved c = (
  power_again c.loop-p.x _ c.loop-p.p c.loop-p.invariant.3 c.loop-p.invariant.0 (rw c.from-in-loop-p.ensures at c.fold-x.ensures),
  c.loop-p.invariant.1,
  places_miss _ c.args.self.now.c 1 c.loop-p.p c.loop-p.invariant.2 (one_miss c.args.self.now.c c.loop-p.p _ _ c.args.self.now.first c.loop-p.invariant.0 refl c.loop-p.invariant.3 (omega arith) c.if-x-self.false),
  omega arith,
)

pub returns : goal.returns
returns c = places_end _ _ _ c.loop-p.p _ (omega arith) c.loop-p.invariant.2
