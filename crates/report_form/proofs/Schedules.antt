-- A schedule, read as `S` or by way of a number.
use Rattle.std.proofs.Common.{◌≡◌, refl, sym, ◌∙◌, subst, T, List, ◌∷◌, ◌++◌, ℕ, ◌+◌, ◌<◌}
use Rattle.laws.specs.Decimal.{Stops}
use Rattle.report_form.specs.Description.{Schedule, sequential, layered, ScheduleWithin, schedule_text}
use Rattle.report_form.specs.Form.{Found, Missing, byte}
use Rattle.report_form.specs.Forms.{numbers, not_decimal, schedules}
use Rattle.report_form.proofs.Spell.{goes_on_digit}

pub s_missing : {t u : List ℕ} {d : ℕ} {v : List ℕ} → Found (byte 83) (λ _. Unit) t u → d < 10 → u ≡ (48 + d) ∷ v → Missing schedules t
s_missing {t} {u} {d} {v} h l e = record { none = go }
  where
    go : (s : Schedule) (r : List ℕ) → ScheduleWithin s → Stops r → t ≡ schedule_text s ++ r → ⊥
    go sequential r w f g =
        let p : 83 ∷ u ≡ 83 ∷ r = sym h.here ∙ g in
        let q : u ≡ r = cc in
        subst T (sym (goes_on_digit d l) ∙ subst Stops (sym q ∙ e) f) tt
    go (layered k) r w f g = not_decimal (83 ∷ u) k r refl (sym h.here ∙ g)

pub step_missing : {t : List ℕ} → Missing (byte 83) t → Missing (numbers 4294967295) t → Missing schedules t
step_missing {t} n m = record { none = go }
  where
    go : (s : Schedule) (r : List ℕ) → ScheduleWithin s → Stops r → t ≡ schedule_text s ++ r → ⊥
    go sequential r w f g = n.none tt r tt tt g
    go (layered v) r w f g = m.none v r w f g
