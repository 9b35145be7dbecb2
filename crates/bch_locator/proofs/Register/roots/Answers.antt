use Rattle.std.proofs.Common.{◌≡◌, ◌+◌, ap, refl, arith}
use Rattle.gf16.specs.Field16.{R16, value_at}
use Rattle.bch_locator.specs.Element.{poly}
use Rattle.bch_locator.proofs.Constants.{place_powers}
use Rattle.bch_locator.proofs.Search.{terms_start, terms_again, sum_hit, sum_miss, count_fits, places_start, places_miss, places_hit, places_full, places_as, places_end}
use Rattle.bch_locator.proofs.Register.roots.Goals as goal
use Rattle.bch_locator.proofs.Register.roots.Goals.{then-lane_sum-last+else-len-self, else-lane_sum-last}

pub loop-p-init : goal.loop-p-init
loop-p-init c = (terms_start _ _ _ c.reversed-t.ensures, places_start _ _ _ c.new-found.ensures)

pub push-requires : goal.push-requires
push-requires c =
    let h : value_at (poly c.args.self.now.c) c.args.self.now.len c.loop-p.p ≡ R16.𝟘 =
    sum_hit c.loop-p.t c.args.self.now.c c.args.self.now.len c.loop-p.p _ _ c.args.self.now.short c.loop-p.invariant.0 c.lane_sum.ensures refl c.if-lane_sum-last.true in
    let k = count_fits c.loop-p.found.items c.args.self.now.c c.args.self.now.len c.loop-p.p (omega arith) c.args.self.now.first c.loop-p.invariant.1 h in
    omega (arith, k, c.args.self.now.short)

pub returns-then-len-self : goal.returns-then-len-self
returns-then-len-self c =
    let h : value_at (poly c.args.self.now.c) c.args.self.now.len c.loop-p.p ≡ R16.𝟘 =
    sum_hit c.loop-p.t c.args.self.now.c c.args.self.now.len c.loop-p.p _ _ c.args.self.now.short c.loop-p.invariant.0 c.lane_sum.ensures refl c.if-lane_sum-last.true in
    places_full _ c.args.self.now.c c.args.self.now.len (c.loop-p.p + 1) c.args.n (omega arith) (omega arith) c.args.self.now.first (omega arith)
    (places_hit _ _ c.args.self.now.c c.args.self.now.len c.loop-p.p (omega arith) c.args.self.now.first c.loop-p.invariant.1 h (rw c.from.ensures at c.push.ensures.items))

pub loop-p-preserved : goal.loop-p-preserved
loop-p-preserved c = (
  terms_again _ c.loop-p.t _ _ _ c.loop-p.p c.args.self.now.short c.loop-p.invariant.0 place_powers c.times-next.ensures,
  elim c.if-lane_sum-last.branch [
    | then-lane_sum-last+else-len-self w ↦
        let h : value_at (poly c.args.self.now.c) c.args.self.now.len c.loop-p.p ≡ R16.𝟘 =
        sum_hit c.loop-p.t c.args.self.now.c c.args.self.now.len c.loop-p.p _ _ c.args.self.now.short c.loop-p.invariant.0 c.lane_sum.ensures refl w.if-lane_sum-last.true in
        places_as _ _ _ _ _ (ap (λ v. v.items) w.found-is) (places_hit _ _ c.args.self.now.c c.args.self.now.len c.loop-p.p (omega arith) c.args.self.now.first c.loop-p.invariant.1 h (rw w.from.ensures at w.push.ensures.items))
    | else-lane_sum-last w ↦
        places_as _ _ _ _ _ (ap (λ v. v.items) w.found-is) (places_miss _ c.args.self.now.c c.args.self.now.len c.loop-p.p c.loop-p.invariant.1
        (sum_miss c.loop-p.t c.args.self.now.c c.args.self.now.len c.loop-p.p _ _ c.args.self.now.short c.loop-p.invariant.0 c.lane_sum.ensures refl (omega arith) (omega arith) w.if-lane_sum-last.false))
  ],
)

pub returns : goal.returns
returns c = places_end _ _ _ c.loop-p.p _ (omega arith) c.loop-p.invariant.1
