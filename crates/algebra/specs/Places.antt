-- Counting the places where a value is zero, as a search does; and an error put together from values at listed places.
use Rattle.std.specs.Prelude.{◌≡◌, ◌≢◌}
use Rattle.std.proofs.Math.Path.{refl, ap}
use Rattle.std.proofs.Common.{sym, ◌∙◌, not-suc-le-zero, le_refl, arith, ℕ, zero, suc, ◌<◌}
use Rattle.std.proofs.Math.Logic.{ite, if_pos, if_neg}
use Rattle.std.proofs.Math.Decide.{ℕ_discrete}
use Rattle.algebra.specs.Ring.{Field}
use Rattle.algebra.specs.Series.{zeros}
use Rattle.algebra.specs.Errors.{weight, weight_none, weight_same, weight_more, weight_mono}

-- z_i at place i of the first e, and zero elsewhere
unfoldable pub spread : {F : Type 0} → F → (ℕ → ℕ) → (ℕ → F) → ℕ → ℕ → F
spread o place z zero p = o
spread o place z (suc e) p = ite (ℕ_discrete (place e) p) (z e) (spread o place z e p)

module _ {F : Type 0} (o : F) (place : ℕ → ℕ) (z : ℕ → F) where
  pub spread_at : (e : ℕ) → ((i j : ℕ) → i < j → j < e → place i < place j) → (i : ℕ) → i < e → spread o place z e (place i) ≡ z i
  unfolding spread
  spread_at zero order i h = absurd (not-suc-le-zero h)
  spread_at (suc e) order i h = pick (ℕ_discrete i e) (spread_at e (λ i j a b. order i j a (omega arith)) i)
    where
      pick : Dec (i ≡ e) → (i < e → spread o place z e (place i) ≡ z i) → spread o place z (suc e) (place i) ≡ z i
      pick (yes q) r = if_pos (ℕ_discrete (place e) (place i)) (ap place (sym q)) _ _ ∙ ap z (sym q)
      pick (no q) r =
          let t = order i e (omega arith) (le_refl (suc e)) in
          if_neg (ℕ_discrete (place e) (place i)) (λ a. omega arith) _ _ ∙ r (omega arith)

  pub spread_off : (e p : ℕ) → ((i : ℕ) → i < e → place i ≢ p) → spread o place z e p ≡ o
  unfolding spread
  spread_off zero p off = refl
  spread_off (suc e) p off = if_neg (ℕ_discrete (place e) p) (off e (le_refl (suc e))) _ _ ∙ spread_off e p (λ i h. off i (omega arith))

module _ {F : Type 0} (K : Field F) where
  open K.ring use {𝟘, 𝟙}

  -- ---- the zeros of v
  pub zeros_none : (v : ℕ → F) → zeros K 0 v ≡ 0
  unfolding zeros
  zeros_none v = refl

  pub zeros_more : (n : ℕ) (v : ℕ → F) → v n ≡ 𝟘 → zeros K (suc n) v ≡ suc (zeros K n v)
  unfolding zeros
  zeros_more n v z = if_pos (K.dec (v n) 𝟘) z _ _

  pub zeros_same : (n : ℕ) (v : ℕ → F) → v n ≢ 𝟘 → zeros K (suc n) v ≡ zeros K n v
  unfolding zeros
  zeros_same n v nz = if_neg (K.dec (v n) 𝟘) nz _ _

  -- 1 where v is 0
  unfoldable pub mark : (ℕ → F) → ℕ → F
  mark v p = ite (K.dec (v p) 𝟘) 𝟙 𝟘

  pub mark_zero : (v : ℕ → F) (p : ℕ) → v p ≡ 𝟘 → mark v p ≢ 𝟘
  unfolding mark
  mark_zero v p z e = K.one_nz (sym (if_pos (K.dec (v p) 𝟘) z 𝟙 𝟘) ∙ e)

  pub zero_mark : (v : ℕ → F) (p : ℕ) → mark v p ≢ 𝟘 → v p ≡ 𝟘
  unfolding mark
  zero_mark v p ne = pick (K.dec (v p) 𝟘)
    where
      pick : Dec (v p ≡ 𝟘) → v p ≡ 𝟘
      pick (yes z) = z
      pick (no nz) = absurd (ne (if_neg (K.dec (v p) 𝟘) nz 𝟙 𝟘))

  pub zeros_mark : (n : ℕ) (v : ℕ → F) → zeros K n v ≡ weight K n (mark v)
  zeros_mark zero v = zeros_none v ∙ sym (weight_none K (mark v))
  zeros_mark (suc n) v = pick (zeros_mark n v) (K.dec (v n) 𝟘)
    where
      pick : zeros K n v ≡ weight K n (mark v) → Dec (v n ≡ 𝟘) → zeros K (suc n) v ≡ weight K (suc n) (mark v)
      pick r (yes z) = zeros_more n v z ∙ ap suc r ∙ sym (weight_more K n (mark v) (mark_zero v n z))
      pick r (no nz) = zeros_same n v nz ∙ r ∙ sym (weight_same K n (mark v) (none (K.dec (mark v n) 𝟘)))
        where
          none : Dec (mark v n ≡ 𝟘) → mark v n ≡ 𝟘
          none (yes e) = e
          none (no ne) = absurd (nz (zero_mark v n ne))

  -- the zeros are where ε is not zero: as many
  pub zeros_weight : (n : ℕ) (v ε : ℕ → F) → ((p : ℕ) → p < n → ε p ≢ 𝟘 → v p ≡ 𝟘) → ((p : ℕ) → p < n → v p ≡ 𝟘 → ε p ≢ 𝟘) → zeros K n v ≡ weight K n ε
  zeros_weight n v ε wrong right =
      let a = weight_mono K n ε (mark v) (λ p h ne. mark_zero v p (wrong p h ne)) in
      let b = weight_mono K n (mark v) ε (λ p h ne. right p h (zero_mark v p ne)) in
      omega (arith, zeros_mark n v)
