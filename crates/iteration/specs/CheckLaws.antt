-- What agrees on a check's edges gives the same messages; writes in order; the first m of a function.
use Rattle.std.specs.Prelude.{◌≡◌, refl, Bool, cond, ltb, eqb, ℕ, zero, suc, ◌+◌, ◌<◌, min, ℤ, pos}
use Rattle.std.proofs.Common.{sym, ap, subst, ◌∙◌, arith, add-one, below_more, ltb-true, lt-ltb, eqb-true}
use Rattle.std.proofs.Math.Decide.{ℕ_discrete}
use Rattle.laws.specs.Definitions.{negative, times, put}
use Rattle.laws.specs.Choice.{by_bool}
use Rattle.laws.specs.Put.{put_same, put_other}
use Rattle.iteration.specs.Value.{magnitude, signed, reduced}
use Rattle.iteration.specs.Check.{min1, min2, first, others, message, wrote, within}

-- e below n + 1 is n or below n
pub last_or : {P : ℕ → Type 0} (n : ℕ) → ((e : ℕ) → e < n → P e) → P n → (e : ℕ) → e < suc n → P e
last_or {P} n h p = subst (λ (m : ℕ). (e : ℕ) → e < m → P e) (add-one n) (below_more P n h p)

-- ---- what agrees on the first n edges
module _ (t u : ℕ → ℤ) where
  abbrev Agree : ℕ → Type 0
  Agree n = (k : ℕ) → k < n → t k ≡ u k

  fewer : (n : ℕ) → Agree (suc n) → Agree n
  fewer n h k q = h k (omega arith)

  min1_same : (n : ℕ) → Agree n → min1 t n ≡ min1 u n
  unfolding min1
  min1_same zero h = refl
  min1_same (suc n) h = λ i. min (min1_same n (fewer n h) i) (magnitude (h n (omega arith) i))

  min2_same : (n : ℕ) → Agree n → min2 t n ≡ min2 u n
  unfolding min2
  min2_same zero h = refl
  min2_same (suc n) h =
      let a : min1 t n ≡ min1 u n = min1_same n (fewer n h) in
      let b : min2 t n ≡ min2 u n = min2_same n (fewer n h) in
      let c : t n ≡ u n = h n (omega arith) in
      rw (a, b, c) refl

  first_same : (n : ℕ) → Agree n → first t n ≡ first u n
  unfolding first
  first_same zero h = refl
  first_same (suc n) h = λ i. cond (ltb (magnitude (h n (omega arith) i)) (min1_same n (fewer n h) i)) n (first_same n (fewer n h) i)

  others_same : (e n : ℕ) → Agree n → others t e n ≡ others u e n
  unfolding others
  others_same e zero h = refl
  others_same e (suc n) h =
      λ i. cond (eqb n e) (others_same e n (fewer n h) i) (times (others_same e n (fewer n h) i) (negative (h n (omega arith) i)))

  pub message_same : (offset : ℤ) (d e : ℕ) → ((k : ℕ) → k < d → t k ≡ u k) → message offset t d e ≡ message offset u d e
  unfolding message
  message_same offset d e h =
      λ i. signed (others_same e d h i) (reduced offset (cond (eqb e (first_same d h i)) (min2_same d h i) (min1_same d h i)))

-- ---- writes
pub wrote_same : (u : ℕ → ℕ) (x y f : ℕ → ℤ) (n : ℕ) → ((k : ℕ) → k < n → x k ≡ y k) → wrote u x f n ≡ wrote u y f n
unfolding wrote
wrote_same u x y f zero h = refl
wrote_same u x y f (suc n) h = λ i. put (wrote_same u x y f n (λ k q. h k (omega arith)) i) (u n) (h n (omega arith) i)

pub wrote_other : (u : ℕ → ℕ) (x f : ℕ → ℤ) (n w : ℕ) → ((k : ℕ) → k < n → w ≡ u k → ⊥) → wrote u x f n w ≡ f w
unfolding wrote
wrote_other u x f zero w h = refl
wrote_other u x f (suc n) w h = put_other (wrote u x f n) (u n) (x n) w (h n (omega arith)) ∙ wrote_other u x f n w (λ k q. h k (omega arith))

-- writes one after the other
pub wrote_at : (p : ℕ) (x f : ℕ → ℤ) (d k : ℕ) → k < d → wrote (λ k. p + k) x f d (p + k) ≡ x k
unfolding wrote
wrote_at p x f zero k h = absurd (omega (arith, h))
wrote_at p x f (suc d) k h = go (ℕ_discrete k d) (λ (g : k < d). wrote_at p x f d k g)
  where
    go : Dec (k ≡ d) → (k < d → wrote (λ k. p + k) x f d (p + k) ≡ x k) → put (wrote (λ k. p + k) x f d) (p + d) (x d) (p + k) ≡ x k
    go (yes e) ih =
        ap (λ (j : ℕ). put (wrote (λ k. p + k) x f d) (p + d) (x d) (p + j)) e ∙ put_same (wrote (λ k. p + k) x f d) (p + d) (x d) ∙ ap x (sym e)
    go (no e) ih = put_other (wrote (λ k. p + k) x f d) (p + d) (x d) (p + k) (λ z. omega arith) ∙ ih (omega arith)

-- ---- the first m of a function
pub within_at : (m : ℕ) (f : ℕ → ℤ) (u : ℕ) → u < m → within m f u ≡ f u
unfolding within
within_at m f u h = ap (λ (b : Bool). cond b (f u) (pos 0)) (lt-ltb u m h)

pub within_put : (m : ℕ) (f : ℕ → ℤ) (u : ℕ) (x : ℤ) → u < m → within m (put f u x) ≡ put (within m f) u x
unfolding within put
within_put m f u x h =
    λ i w. by_bool (λ b. cond (ltb w m) (cond b x (f w)) (pos 0) ≡ cond b x (cond (ltb w m) (f w) (pos 0))) (eqb w u)
    (λ e. ap (λ (b : Bool). cond b x (pos 0)) (lt-ltb w m (omega (arith, eqb-true w u e)))) (λ _. refl) i

-- a row that none of the first m is
pub within_other : (m : ℕ) (f g : ℕ → ℤ) → ((w : ℕ) → w < m → f w ≡ g w) → within m f ≡ within m g
unfolding within
within_other m f g h =
    λ i w. by_bool (λ b. cond b (f w) (pos 0) ≡ cond b (g w) (pos 0)) (ltb w m) (λ e. h w (ltb-true w m e)) (λ _. refl) i
