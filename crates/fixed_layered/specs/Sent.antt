-- What a column holds of each of the run's edges once their messages are sent.
use Rattle.std.specs.Prelude.{◌≡◌, refl, Bool, true, false, cond, ℕ, zero, suc, ◌+◌, ◌*◌, ◌≤◌, ◌<◌, eqb, ltb, ℤ, pos, ◌-ℤ◌}
use Rattle.std.proofs.Common.{sym, ap, ◌∙◌, arith, ltb-true, ltb-false}
use Rattle.laws.specs.Definitions.{put}
use Rattle.iteration.specs.Value.{sat_z}
use Rattle.iteration.specs.Check.{wrote, t_of, within}
use Rattle.iteration.specs.Iteration.{Code, degree, Run, run_of}
use Rattle.iteration.specs.CheckLaws.{wrote_other, within_at}
use Rattle.simd.specs.Words.{word_of}
use Rattle.fixed_layered.specs.Full.{full_of}
use Rattle.iteration.specs.Full.{Full, place_of, t_sent, old_sent, part_full}
use Rattle.fixed_layered.specs.Order.{laid_at, place_ends}
use Rattle.iteration.specs.InTurn.{before}
use Rattle.iteration.specs.Once.{Order}

-- ---- rows written one after the other, of E
wrote_base : (u : ℕ → ℕ) (x f g : ℕ → ℤ) (d e : ℕ) → f e ≡ g e → wrote u x f d e ≡ wrote u x g d e
unfolding wrote put
wrote_base u x f g zero e h = h
wrote_base u x f g (suc d) e h = ap (λ (z : ℤ). cond (eqb e (u d)) (x d) z) (wrote_base u x f g d e h)

pub within_wrote : (E p d : ℕ) (x f g : ℕ → ℤ) → p + d ≤ E → ((e : ℕ) → e < E → g e ≡ wrote (λ k. p + k) x f d e) → within E g ≡ wrote (λ k. p + k) x (within E f) d
unfolding within
within_wrote E p d x f g h is = λ i e. go e (ltb e E) refl i
  where
    go : (e : ℕ) (b : Bool) → ltb e E ≡ b → cond b (g e) (pos 0) ≡ wrote (λ k. p + k) x (within E f) d e
    go e true s = is e (ltb-true e E s) ∙ wrote_base (λ k. p + k) x f (within E f) d e (sym (within_at E f e (ltb-true e E s)))
    go e false s =
        sym (wrote_other (λ k. p + k) x (within E f) d e (λ k q y. omega (arith, ltb-false e E s)) ∙ ap (λ (b : Bool). cond b (f e) (pos 0)) s)

-- ---- what a column holds of the edges of a run whose messages are sent
pub record Sent (n E : ℕ) (code : Code) (c : ℕ → ℕ) (m : ℕ) (w : Run) (f : ℕ → ℤ) : Type 0 where
  pub t_is : (x k : ℕ) → x < m → k < degree code (c x) → f (n + E + (place_of code c x + k)) ≡ sat_z (w.L (code.rows (code.row_start (c x) + k)) -ℤ w.old (code.row_start (c x) + k))
  pub old_is : (x k : ℕ) → x < m → k < degree code (c x) → f (n + 2 * E + (place_of code c x + k)) ≡ w.old (code.row_start (c x) + k)
  pub new_is : (x k : ℕ) → x < m → k < degree code (c x) → f (n + (code.row_start (c x) + k)) ≡ w.new (code.row_start (c x) + k)

pub sent : {n E : ℕ} {code : Code} {c : ℕ → ℕ} {m : ℕ} (sh : ℕ → Bool) (o : ℤ) (f : ℕ → ℤ) (w : Full) → Order code c m E n → full_of n E f ≡ part_full o code c sh m w
    → Sent n E code c m (run_of o code c m w.word) f
unfolding t_of word_of
sent {n} {E} {code} {c} {m} sh o f w ord is =
    record {
      t_is =
          λ x k h q. sym (within_at E (λ e. f (n + E + e)) (place_of code c x + k) (omega (arith, place_ends ord x h)))
          ∙ ap (λ (z : Full). z.t (place_of code c x + k)) is
          ∙ laid_at ord (t_sent o code c w.word) w.t m (omega arith) x k h q
          ∙ ap (λ (z : ℤ). sat_z (w.word.L (code.rows (code.row_start (c x) + k)) -ℤ z)) (before ord o w.word.L w.word.r x k h);
      old_is =
          λ x k h q. sym (within_at E (λ e. f (n + 2 * E + e)) (place_of code c x + k) (omega (arith, place_ends ord x h)))
          ∙ ap (λ (z : Full). z.old (place_of code c x + k)) is
          ∙ laid_at ord (old_sent o code c w.word) w.old m (omega arith) x k h q
          ∙ before ord o w.word.L w.word.r x k h;
      new_is =
          λ x k h q. sym (within_at E (λ e. f (n + e)) (code.row_start (c x) + k) (omega (arith, ord.last x h)))
          ∙ ap (λ (z : Full). z.word.r (code.row_start (c x) + k)) is;
    }
