use Rattle.std.proofs.Common.{◌≡◌, sym, ◌∙◌, subst, rules, Result, Err}
use Rattle.refusal.specs.declared.Refusal.{Refusal}
use Rattle.window.specs.declared.Window.{Window}
use Rattle.window.specs.Push.{Pushes}
use Rattle.window.specs.Series.{passed_over}
use Rattle.window.proofs.PushLaws.{refuses, accepts, takes}
use Rattle.window.proofs.push.Goals as goal

pub returns-in_err-accept : goal.returns-in_err-accept
returns-in_err-accept c =
    let f : c.from_residual.result ≡ Err c.in_err-accept.field-0.0 = search rules in
    subst (λ (p : Result Window Refusal). Pushes c.args.width c.args.was c.args.new c.args.ring.now c.args.ring.now p) (sym f)
    (refuses c.args.width c.args.was c.args.new c.args.ring.now _ c.in_err-accept.ensures)

pub returns-then-not-is_finished : goal.returns-then-not-is_finished
returns-then-not-is_finished c =
    accepts c.args.width c.args.was c.args.new c.args.ring.now (sym c.in_ok-accept.ensures) _
    (sym (passed_over c.args.width (record { window = c.args.was; ring = c.args.ring.now }) c.args.new (sym c.is_finished.ensures ∙ c.if-not-is_finished.true)))

pub returns : goal.returns
returns c =
    accepts c.args.width c.args.was c.args.new c.args.ring.now (sym c.in_ok-accept.ensures) (record { window = c.advance.result; ring = c.put.new.ring })
    (takes c.args.width c.args.was c.args.new c.args.ring.now (sym c.is_finished.ensures ∙ c.if-not-is_finished.false) c.slot_of-slot.result c.oldest-old.result c.advance.result
    c.put.new.ring (rw c.from-w.ensures at c.slot_of-slot.ensures) (rw c.from-w.ensures at c.oldest-old.ensures) (rw c.from-w.ensures at c.advance.ensures) c.put.ensures)
