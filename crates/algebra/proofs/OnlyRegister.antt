-- There is only one shortest register of length at most half of what it generates, from specs/Unique.antt on: none begins later than the
-- shortest (`no_start`), so the difference of two is zero (`only_register`).
use Rattle.std.specs.Prelude.{◌≡◌, ◌≢◌, ℕ, zero, suc, ◌+◌, ◌-◌, ◌≤◌, ◌<◌}
use Rattle.std.proofs.Common.{ap₂, ◌∙◌, not-suc-le-zero, le_refl, arith}
use Rattle.std.proofs.Math.Path.{ap, fun_ext}
use Rattle.std.proofs.Math.Decide.{ℕ_discrete, le_ind}
use Rattle.algebra.specs.Ring.{Ring, Field}
use Rattle.algebra.specs.RingLaws.{⊞-cancel}
use Rattle.algebra.specs.Series.{conv}
use Rattle.algebra.specs.SeriesLaws.{conv_add_l}
use Rattle.algebra.specs.Register.{Gen, Shortest}
use Rattle.algebra.specs.Unique.{same_length, moved as moved_by, fits, start, again}

module _ {F : Type 0} (K : Field F) where
  open K.ring use {𝟘, 𝟙, ◌⊞◌, ◌⊠◌, ⊞-zero, ⊞-self}

  infixl 60 ◌⊞◌
  abbrev R : Ring F
  R = K.ring

  module _ (s : ℕ → F) (k : ℕ) (c : ℕ → F) (l : ℕ) (S : Shortest R s k c l) where
    module _ (half : l + l ≤ k) (d : ℕ → F) (supp : (i : ℕ) → l < i → d i ≡ 𝟘) (zeros : (n : ℕ) → l ≤ n → n < k → conv R d s n ≡ 𝟘) where
      module _ (j : ℕ) (pos : 0 < j) (low : (i : ℕ) → i < j → d i ≡ 𝟘) (nz : d j ≢ 𝟘) where
        abbrev moved : ℕ → F
        moved = moved_by K s k c l S half d supp zeros j pos low nz

        all_of_it : Gen R s k moved (l - j)
        all_of_it =
            le_ind (λ m. m ≤ k → Gen R s m moved (l - j)) (λ _. start K s k c l S half d supp zeros j pos low nz)
            (λ m a ih h. again K s k c l S half d supp zeros j pos low nz m a (ih (omega arith)) h) k (omega arith) (le_refl k)

        no_start : ⊥
        no_start = omega (arith, S.short moved (l - j) all_of_it, fits K s k c l S half d supp zeros j pos low nz, pos)

      none_below : d 0 ≡ 𝟘 → (j i : ℕ) → i < j → d i ≡ 𝟘
      none_below z zero i h = absurd (not-suc-le-zero h)
      none_below z (suc j) i h = pick (ℕ_discrete i j) (none_below z j)
        where
          here : (j : ℕ) → ((i : ℕ) → i < j → d i ≡ 𝟘) → Dec (d j ≡ 𝟘) → d j ≡ 𝟘
          here j low (yes e) = e
          here zero low (no nz) = z
          here (suc j) low (no nz) = absurd (no_start (suc j) (omega arith) low nz)

          pick : Dec (i ≡ j) → ((i : ℕ) → i < j → d i ≡ 𝟘) → d i ≡ 𝟘
          pick (yes e) low = ap d e ∙ here j low (K.dec (d j) 𝟘)
          pick (no ne) low = low i (omega arith)

    -- two shortest registers of the same length are the same
    only_at : l + l ≤ k → (c' : ℕ → F) → Gen R s k c' l → (i : ℕ) → c i ≡ c' i
    only_at half c' g i =
        ⊞-cancel R (c i) (c' i)
        (none_below half (λ i. c i ⊞ c' i) (λ i h. ap₂ ◌⊞◌ (S.gen.supp i h) (g.supp i h) ∙ ⊞-zero 𝟘)
        (λ n h h'. conv_add_l R n c c' s ∙ ap₂ ◌⊞◌ (S.gen.zeros n h h') (g.zeros n h h') ∙ ⊞-zero 𝟘)
        (ap₂ ◌⊞◌ S.gen.head g.head ∙ ⊞-self 𝟙) (suc i) i (le_refl (suc i)))

  -- the shortest register is one, when its length is at most half of what it generates
  pub only_register : (s : ℕ → F) (k : ℕ) (c : ℕ → F) (l : ℕ) (c' : ℕ → F) (l' : ℕ)
      → Shortest R s k c l → Shortest R s k c' l' → l + l ≤ k → (l ≡ l') × (c ≡ c')
  only_register s k c l c' l' S S' half = (same, fun_ext (only_at s k c l S half c' gen'))
    where
      same : l ≡ l'
      same = same_length K s k c l S c' l' S'

      gen' : Gen R s k c' l
      gen' =
          record {
            head = S'.gen.head;
            supp = λ i h. S'.gen.supp i (omega (arith, same));
            zeros = λ n h h'. S'.gen.zeros n (omega (arith, same)) h';
          }
