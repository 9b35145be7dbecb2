use Rattle.std.proofs.Common.{◌≡◌, List, Bool, ℤ, ℕ, ◌+◌, arith, refl, sym, subst, length}
use Rattle.fixed_lanes.specs.Clear.{Cleared, clear_start, clear_end}
use Rattle.fixed_lanes.specs.Part.{clear_join}
use Rattle.fixed_lanes.proofs.clear_messages.Goals as goal
use Rattle.fixed_lanes.proofs.clear_messages.Goals.{else-loop-k-test, then-loop-k-test+else-blocked-k-gt128}

-- the rows from j on after the first j
joined : {n lanes : ℕ} {fresh : List Bool} {a a' a'' : List ℤ} {j k m e : ℕ} → j ≡ k → k + m ≡ e → Cleared n lanes fresh a j a' → Cleared (n + k) lanes fresh a' m a'' → Cleared n lanes fresh a e a''
joined s t v p = clear_end t (clear_join (clear_end s v) p)

pub loop-k-init : goal.loop-k-init
loop-k-init c = clear_end (omega arith) (clear_start c.args.n (length c.args.fresh.now) c.args.fresh.now c.args.work.now)

pub loop-k-preserved : goal.loop-k-preserved
loop-k-preserved c = joined (omega arith) (omega arith) c.loop-k.invariant c.clear.ensures

pub returns : goal.returns
returns c = joined refl (omega arith) blocks c.clear_rows.ensures
  where
    Blocks : List ℤ → Type 0
    Blocks a = Cleared c.args.n (length c.args.fresh.now) c.args.fresh.now c.args.work.now c.saturating_sub-blocked.result a

    blocks : Blocks c.loop-k-test.work
    blocks = elim c.loop-k-test.branch [
      | else-loop-k-test w ↦ subst Blocks (sym w.work-is) (clear_end (omega arith) c.loop-k.invariant)
      | then-loop-k-test+else-blocked-k-gt128 w ↦ subst Blocks (sym w.work-is) (joined (omega arith) (omega arith) c.loop-k.invariant w.clear.ensures)
    ]
