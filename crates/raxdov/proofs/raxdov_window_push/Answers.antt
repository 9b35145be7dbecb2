use Rattle.std.proofs.Common.{◌≡◌, List, ℕ, Result, Ok, Err, refl, rules, subst, sym, ap, ◌∙◌, arith}
use Rattle.decoder_words.specs.declared.Noted.{Noted}
use Rattle.refusal.specs.Number.{number_of}
use Rattle.refusal.specs.NumberLaws.{number_least}
use Rattle.refusal.specs.declared.Refusal.{Refusal}
use Rattle.window.specs.declared.Record.{Record}
use Rattle.window.specs.declared.Window.{Window}
use Rattle.window.specs.Push.{Handed, Pushes, Afresh}
use Rattle.raxdov.specs.Numbers.{window_of, handed_of, record_of, window_into}
use Rattle.raxdov.proofs.raxdov_window_push.Goals as goal

afresh : (width : ℕ) (h : Handed) (r : Record) (R : Result Window Refusal) → ((now : Window) → R ≡ Ok now → Afresh width h r now) → number_of R ≡ 0
    → (was : List ℕ) → Afresh width h r (window_of (window_into R was))
afresh width h r (Ok now) f z was = f now refl
afresh width h r (Err e) f z was = absurd (omega (arith, z, number_least e))

pub returns-clause-afresh : goal.returns-clause-afresh
returns-clause-afresh c =
    let read = c.from-new.ensures ∙ ap (λ (q : Noted). record { state = q.state; iterations = q.iterations; bch = q.bch }) c.from.ensures in
    let W = window_of c.args.window.now in
    let p₀ = subst (λ (W : Window). Pushes c.args.width W c.from-new.result c.args.ring.now c.push-pushed.new.ring c.push-pushed.result) c.from-was.ensures c.push-pushed.ensures in
    let p = subst (λ (r : Record). Pushes c.args.width W r c.args.ring.now c.push-pushed.new.ring c.push-pushed.result) read p₀ in
    let written : c.told.new.to ≡ window_into c.push-pushed.result c.args.window.now = search rules in
    let number : c.told.result ≡ number_of c.push-pushed.result = search rules in
    let h = handed_of c.args.window.now c.args.ring.now in
    let r = record_of c.args.numbers.now in
    λ z.
    subst (λ (w : List ℕ). Afresh c.args.width h r (window_of w)) (sym written)
    (afresh c.args.width h r c.push-pushed.result p.afresh (sym number ∙ z) c.args.window.now)
