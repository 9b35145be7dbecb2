use Rattle.std.proofs.Common.{◌≡◌, ℕ, List, arith, Bool, false, replicate, refl, sym, subst, ◌∙◌, ext_get_or}
use Rattle.std.proofs.lemmas.List.{length-replicate}
use Rattle.fixed_conflicts.specs.Table.{Flagged, flagged_start, flagged_end, zeros}
use Rattle.fixed_conflicts.proofs.RowSpans.shared.Goals as goal

pub loop-g-init : goal.loop-g-init
loop-g-init c = flagged_start c.args.self.table.now c.args.rows c.args.q c.args.l (replicate 120 false) _ (length-replicate 120 false) (omega arith) (zeros 120) refl

-- where none is flagged
none : {table : List ℕ} {rows q l k : ℕ} {flags : List Bool} → Flagged table rows q l k flags false → Flagged table rows q l k (replicate 120 false) false
none {table} {rows} {q} {l} {k} {flags} v =
    let same : flags ≡ replicate 120 false = ext_get_or false flags (replicate 120 false) (v.long ∙ sym (length-replicate 120 false)) (λ g _. v.none refl g ∙ sym (zeros 120 g)) in
    subst (λ (fs : List Bool). Flagged table rows q l k fs false) same v

pub returns-else-any : goal.returns-else-any
returns-else-any c = none (rw c.if-any.false at (flagged_end (omega arith) c.loop-g.invariant))
