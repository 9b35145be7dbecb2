-- A sum of 8 bit numbers takes no more than 32 bits.
use Rattle.std.specs.Prelude.{◌≡◌, refl, Bool, true, false, cond, ℕ, zero, suc, ◌+◌, ◌-◌, ◌≤◌, ◌<◌, ℤ, pos, negsuc, neg_ℤ, nat_abs, ◌+ℤ◌, ◌-ℤ◌, ltb}
use Rattle.std.proofs.Common.{arith, SFits, ltb-true}
use Rattle.std.specs.Int.{w8, w32}

diff_abs : (m n : ℕ) → nat_abs (cond (ltb m n) (negsuc (n - suc m)) (pos (m - n))) ≤ m + n
diff_abs m n = go (ltb m n) refl
  where
    go : (b : Bool) → ltb m n ≡ b → nat_abs (cond b (negsuc (n - suc m)) (pos (m - n))) ≤ m + n
    go true e = omega (arith, ltb-true m n e)
    go false e = omega arith

pub abs_add : (x y : ℤ) → nat_abs (x +ℤ y) ≤ nat_abs x + nat_abs y
abs_add (pos a) (pos b) = omega arith
abs_add (pos a) (negsuc b) = diff_abs a (suc b)
abs_add (negsuc a) (pos b) = omega (arith, diff_abs b (suc a))
abs_add (negsuc a) (negsuc b) = omega arith

abs_neg : (x : ℤ) → nat_abs (neg_ℤ x) ≡ nat_abs x
abs_neg (pos zero) = refl
abs_neg (pos (suc n)) = refl
abs_neg (negsuc n) = refl

pub abs_sub : (x y : ℤ) → nat_abs (x -ℤ y) ≤ nat_abs x + nat_abs y
abs_sub x y = omega (arith, abs_add x (neg_ℤ y), abs_neg y)

pub abs_byte : (z : ℤ) → SFits w8 z → nat_abs z ≤ 128
abs_byte (pos n) f = omega (arith, f.sfits)
abs_byte (negsuc n) f = omega (arith, f.sfits)

fits32 : (z : ℤ) → nat_abs z < 2147483648 → SFits w32 z
fits32 (pos n) h = record { sfits = omega (arith, h) }
fits32 (negsuc n) h = record { sfits = omega (arith, h) }

-- the two ways to gather
module _ (x y : ℤ) (f : SFits w8 x) (g : SFits w8 y) where
  pub diff_fits32 : SFits w32 (x -ℤ y)
  diff_fits32 = fits32 (x -ℤ y) (omega (arith, abs_sub x y, abs_byte x f, abs_byte y g))

  pub sum_fits32 : SFits w32 (x +ℤ y)
  sum_fits32 = fits32 (x +ℤ y) (omega (arith, abs_add x y, abs_byte x f, abs_byte y g))

  pub more_fits32 : (s : ℤ) → nat_abs s ≤ 2000000000 → SFits w32 (s +ℤ (x -ℤ y))
  more_fits32 s h = fits32 (s +ℤ (x -ℤ y)) (omega (arith, abs_add s (x -ℤ y), abs_sub x y, abs_byte x f, abs_byte y g))
