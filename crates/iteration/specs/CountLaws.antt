-- What a count of unsatisfied checks promises; checks counted one after the other.
use Rattle.std.specs.Prelude.{◌≡◌, refl, Bool, true, false, cond, eqb, ℕ, zero, suc, ◌+◌, ◌≤◌}
use Rattle.std.proofs.Common.{sym, ap, ◌∙◌, add-one, arith, eqb-true}
use Rattle.std.proofs.lemmas.Bool.{eqb-false}
use Rattle.iteration.specs.Check.{Word}
use Rattle.iteration.specs.Iteration.{Code, unsatisfied, unsatisfied_count}
use Rattle.iteration.specs.Count.{unmet_at, Names}

-- what a count promises: how many of p checks the values x leave unsatisfied, and one of them
pub record UnmetCounted (code : Code) (p : ℕ) (x : Word) (count check : ℕ) : Type 0 where
  pub all : count ≡ unsatisfied_count code p x.L
  pub named : Names code p x check

module _ (code : Code) (x : Word) where
  pub unmet_le : (c : ℕ) → unmet_at code x.L c ≤ 1
  unfolding unsatisfied
  unmet_le c = omega arith

  -- one check more
  pub unmet_step : (c u : ℕ) → unmet_at code x.L c ≡ u → unsatisfied_count code (c + 1) x.L ≡ unsatisfied_count code c x.L + u
  unfolding unsatisfied_count
  unmet_step c u e = ap (λ (z : ℕ). unsatisfied_count code z x.L) (add-one c) ∙ ap (λ (z : ℕ). unsatisfied_count code c x.L + z) e

  pub unmet_few : (c : ℕ) → unsatisfied_count code c x.L ≤ c
  unfolding unsatisfied_count
  unmet_few zero = omega arith
  unmet_few (suc c) = omega (arith, unmet_few c, unmet_le c)

  none_unmet : unsatisfied_count code 0 x.L ≡ 0
  unfolding unsatisfied_count
  none_unmet = refl

  pub counted_start : (count check : ℕ) → count ≡ 0 → check ≡ 0 → UnmetCounted code 0 x count check
  counted_start count check e f =
      record { all = e ∙ sym none_unmet; named = record { some = λ h. absurd (omega (arith, h, none_unmet)); none = λ h. f } }

  -- check c's bit is counted, and the check is named if it is 1
  pub counted_again : {c count check : ℕ} (bit count' check' : ℕ) → UnmetCounted code c x count check → bit ≡ unmet_at code x.L c → count' ≡ count + bit → check' ≡ cond (eqb bit 0) check c
      → UnmetCounted code (c + 1) x count' check'
  counted_again {c} {count} {check} bit count' check' k e f g = go (eqb bit 0) refl
    where
      s : unsatisfied_count code (c + 1) x.L ≡ unsatisfied_count code c x.L + bit
      s = unmet_step c bit (sym e)

      go : (b : Bool) → eqb bit 0 ≡ b → UnmetCounted code (c + 1) x count' check'
      go true q =
          let z = eqb-true bit 0 q in
          let same : check' ≡ check = g ∙ ap (λ (b : Bool). cond b check c) q in
          record {
            all = omega (arith, f, k.all, s);
            named =
                record {
                  some = λ h. let m = k.named.some (omega (arith, h, s, z)) in (omega (arith, m.0, same), ap (unmet_at code x.L) same ∙ m.1);
                  none = λ h. same ∙ k.named.none (omega (arith, h, s));
                };
          }
      go false q =
          let one : bit ≡ 1 = omega (arith, e, unmet_le c, eqb-false bit 0 q) in
          let here : check' ≡ c = g ∙ ap (λ (b : Bool). cond b check c) q in
          record {
            all = omega (arith, f, k.all, s);
            named = record { some = λ h. (omega (arith, here), ap (unmet_at code x.L) here ∙ sym e ∙ one); none = λ h. absurd (omega (arith, h, s, one)) };
          }
