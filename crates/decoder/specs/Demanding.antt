-- Demand 3 of what a run wrote, joined from the run's definition and a word alone.
use Rattle.std.specs.Prelude.{◌≡◌, Bool, true, false, ℤ}
use Rattle.std.proofs.Math.Path.{refl, ap, ap₂, subst}
use Rattle.std.proofs.Common.{sym, ◌∙◌, List, [], ◌∷◌, ℕ, ◌≤◌, ◌<◌, max}
use Rattle.iteration.specs.Check.{Word}
use Rattle.iteration.specs.Iteration.{Code}
use Rattle.schedule.specs.Run.{Result}
use Rattle.schedule.specs.Alone.{after, ends}
use Rattle.schedule.specs.Status.{Status, waiting, holding, done, status, spent, sum, largest}
use Rattle.schedule.specs.WholeRun.{case, given, longest, WholeRun, AsAlone}
use Rattle.schedule.proofs.Places.{sum_ext}
use Rattle.schedule.proofs.Theorem.{spent_within}
use Rattle.outcome.specs.Laws.{finished_of}
use Rattle.outcome.specs.Outcome.{Outcome, met_of, bits_of, changed_of, state_of, is_finished, outcome_of, alone}
use Rattle.decoder_plan.specs.declared.Plan.{Plan}
use Rattle.decoder_words.specs.Book.{View}
use Rattle.decoder_words.specs.Run.{words_of}
use Rattle.decoder_correct.specs.Tells.{Tells}
use Rattle.decoder.specs.Demand.{beginning, Demanded}

module _ (code : Code) (iterate : Word → Word) (plan : Plan) (soft : List ℤ) (order : List ℕ) (r : Result Word)
    (d : WholeRun (words_of code iterate plan soft) order plan.lanes plan.limits.rounds r) (bits : ℕ → List ℕ) (v : ℕ → View)
    (as_status : (w : ℕ) → Tells code plan.sizes.n plan.sizes.p plan.part (bits w) (beginning plan soft w) (status r.last w) (v w)) where
  pub demanded : (w : ℕ) → Demanded code iterate plan soft (bits w) w (status r.last w) (v w)
  unfolding words_of alone
  demanded w = at (status r.last w) (as_status w) (d.as_alone w)
    where
      at : (st : Status Word) → Tells code plan.sizes.n plan.sizes.p plan.part (bits w) (beginning plan soft w) st (v w) → AsAlone (words_of code iterate plan soft) w st
          → Demanded code iterate plan soft (bits w) w st (v w)
      at waiting t a = t
      at (holding x i) t a =
          let now = a.0 ∙ ap (after (beginning plan soft w) iterate) (sym t.iterations) in
          record {
            bits = t.bits ∙ ap (bits_of plan.sizes.n) now;
            changed = t.changed ∙ ap (changed_of plan.sizes.n (beginning plan soft w)) now;
            fewer = subst (λ k. k < ends (beginning plan soft w) iterate (met_of code plan.sizes.p) plan.limits.iterations) (sym t.iterations) a.1;
          }
      at (done x i) t a = t.outcome ∙ ap₂ (outcome_of code plan.sizes.n plan.sizes.p plan.part (beginning plan soft w)) a.0 a.1

  -- a record's iterations are the word's
  spent_is : (w : ℕ) → (v w).iterations ≡ spent (status r.last w)
  unfolding outcome_of
  spent_is w = at (status r.last w) (as_status w)
    where
      at : (st : Status Word) → Tells code plan.sizes.n plan.sizes.p plan.part (bits w) (beginning plan soft w) st (v w) → (v w).iterations ≡ spent st
      at waiting t = ap (λ (x : View). x.iterations) t
      at (holding x i) t = t.iterations
      at (done x i) t = ap (λ (o : Outcome). o.iterations) t.outcome

  -- those that are finished
  finished_at : (w : ℕ) → finished_of (v w).state ≡ case 0 0 1 (status r.last w)
  unfolding outcome_of is_finished
  finished_at w = at (status r.last w) (as_status w)
    where
      ended : (met : Bool) → finished_of (state_of met) ≡ 1
      ended true = refl
      ended false = refl

      at : (st : Status Word) → Tells code plan.sizes.n plan.sizes.p plan.part (bits w) (beginning plan soft w) st (v w) → finished_of (v w).state ≡ case 0 0 1 st
      at waiting t = ap (λ (x : View). finished_of x.state) t
      at (holding x i) t = ap finished_of t.state
      at (done x i) t = ap (λ (o : Outcome). finished_of o.state) t.outcome ∙ ended (met_of code plan.sizes.p x)

  pub finished_is : sum (λ w. finished_of (v w).state) order ≡ sum (λ w. case 0 0 1 (status r.last w)) order
  finished_is = sum_ext (λ w. finished_of (v w).state) (λ w. case 0 0 1 (status r.last w)) order (λ w l. finished_at w)

  largest_same : (f g : ℕ → ℕ) → ((w : ℕ) → f w ≡ g w) → (ws : List ℕ) → largest f ws ≡ largest g ws
  unfolding largest
  largest_same f g e [] = refl
  largest_same f g e (w ∷ ws) = ap₂ max (e w) (largest_same f g e ws)

  pub given_is : sum (λ w. (v w).iterations) order ≡ given order r.last
  unfolding given
  given_is = sum_ext (λ w. (v w).iterations) (λ w. spent (status r.last w)) order (λ w l. spent_is w)

  pub longest_is : largest (λ w. (v w).iterations) order ≡ longest order r.last
  unfolding longest
  longest_is = largest_same (λ w. (v w).iterations) (λ w. spent (status r.last w)) spent_is order

  -- no record has more iterations than the limit
  pub iterations_within : (w : ℕ) → (v w).iterations ≤ plan.limits.iterations
  unfolding words_of
  iterations_within w =
      subst (λ k. k ≤ plan.limits.iterations) (sym (spent_is w)) (spent_within (words_of code iterate plan soft) w (status r.last w) (d.as_alone w))
