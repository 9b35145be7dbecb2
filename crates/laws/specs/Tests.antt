-- A test that antt computes once, at each number below k, and what it shows at each (`below_at`).
use Rattle.std.specs.Prelude.{◌≡◌, Bool, true, ◌&&◌, ℕ, zero, suc, ◌<◌, T}
use Rattle.std.proofs.Common.{subst, sym, not-suc-le-zero, arith}
use Rattle.std.proofs.Math.Decide.{ℕ_discrete}
use Rattle.std.specs.Float.Ieee.Fits.{and_l, and_r}

-- the test f passes at each number below k
unfoldable pub below : ℕ → (ℕ → Bool) → Bool
below zero f = true
below (suc k) f = f k && below k f

pub below_at : (k : ℕ) (f : ℕ → Bool) → T (below k f) → (i : ℕ) → i < k → T (f i)
unfolding below
below_at zero f t i h = absurd (not-suc-le-zero h)
below_at (suc k) f t i h = pick (below_at k f (and_r (f k) (below k f) t) i) (ℕ_discrete i k)
  where
    pick : (i < k → T (f i)) → Dec (i ≡ k) → T (f i)
    pick r (yes e) = subst (λ (j : ℕ). T (f j)) (sym e) (and_l (f k) (below k f) t)
    pick r (no ne) = r (omega arith)
