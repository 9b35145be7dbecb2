-- What holds of a choice and of a test, by the cases of the test with its outcome in hand. Assumes nothing.
--
-- In order: a fact of `cond b x y` (`by_cond`) and of the test itself (`by_bool`); tests joined by or; equality as a test, either way round;
-- `same`, which is 1 where two numbers are equal.
--
-- Not here: what a test's outcome says of the numbers, `eqb-true`, `ltb-false`, `eq-eqb` and the like (std's Common).
use Rattle.std.specs.Prelude.{◌≡◌, refl, Bool, true, false, cond, ◌||◌, ℕ, eqb}
use Rattle.std.proofs.Common.{sym, ap, eqb-true, eq-eqb, ne_eqb}
use Rattle.std.proofs.lemmas.Bool.{eqb-false}

-- a fact of `cond b x y`
pub by_cond : {A : Type 0} (P : A → Type 0) (b : Bool) (x y : A) → (b ≡ true → P x) → (b ≡ false → P y) → P (cond b x y)
by_cond P true x y f g = f refl
by_cond P false x y f g = g refl

-- a fact of the test itself
pub by_bool : (P : Bool → Type 0) (b : Bool) → (b ≡ true → P true) → (b ≡ false → P false) → P b
by_bool P true f g = f refl
by_bool P false f g = g refl

-- ---- neither of two tests
pub or_left : (a b : Bool) → (a || b) ≡ false → a ≡ false
or_left true b e = cc
or_left false b e = refl

pub or_right : (a b : Bool) → (a || b) ≡ false → b ≡ false
or_right true b e = cc
or_right false b e = e

-- ---- equality
pub eqb_sym : (v w : ℕ) → eqb v w ≡ eqb w v
eqb_sym v w =
    by_bool (λ b. eqb v w ≡ b → b ≡ eqb w v) (eqb v w)
    (λ _ e. sym (eq-eqb w v (sym (eqb-true v w e)))) (λ _ e. sym (ne_eqb w v (λ q. eqb-false v w e (sym q)))) refl

-- ---- 1 where two numbers are equal, else 0
abbrev pub same : ℕ → ℕ → ℕ
same v w = cond (eqb v w) 1 0

pub same_self : (w : ℕ) → same w w ≡ 1
same_self w = ap {B = ℕ} (λ b. cond b 1 0) (eq-eqb w w refl)

pub same_sym : (v w : ℕ) → same v w ≡ same w v
same_sym v w = ap {B = ℕ} (λ b. cond b 1 0) (eqb_sym v w)
