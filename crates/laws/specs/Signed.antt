-- Whole numbers of 8 and 16 bits, as antt's omega does not read them: each law by the cases of the sign.
--
-- In order: what the machine reads back from a number's bits (`plain`, `wide`); sums, differences and negatives of 8 bit numbers take 16 bits;
-- the absolute value as a larger of two; signs: as a test, of a larger of two, of a product (`times_swap`, `times_twice`), and of the xor of two
-- numbers (`xor_sign`).
--
-- Not here: sat, magnitude and messages (iteration).
use Rattle.std.specs.Prelude.{◌≡◌, refl, Bool, true, false, cond, ℕ, zero, suc, ◌-◌, ◌<◌, ◌≤◌, ◌^◌, ◌/◌, ℤ, pos, negsuc, ◌+ℤ◌, ◌-ℤ◌, neg_ℤ, nat_abs, ltb}
use Rattle.std.proofs.Common.{ap, ◌∙◌, arith, SFits, to_z, of_z, lt-ltb, le-ltb}
use Rattle.std.specs.Int.Signed.{lt_z}
use Rattle.std.specs.Int.{w8, w16}
use Rattle.std.proofs.lemmas.Int.{to_z-of_z}
use Rattle.std.specs.Int.Bits.{bit_xor}
use Rattle.std.proofs.lemmas.Nat.{xor_shr}
use Rattle.laws.specs.Definitions.{max_z, negative, times}
use Rattle.laws.specs.Choice.{by_cond}

-- ---- what the machine reads back from a number's bits
pub plain : (z : ℤ) → SFits w8 z → to_z w8 (of_z w8 z) ≡ z
plain z f = to_z-of_z w8 z f

pub widen : {z : ℤ} → SFits w8 z → SFits w16 z
widen f = record { sfits = omega (arith, f.sfits) }

-- an 8 bit number that was cast to 16
pub wide : (z : ℤ) → SFits w8 z → to_z w16 (of_z w16 (to_z w8 (of_z w8 z))) ≡ z
wide z f = ap (λ (y : ℤ). to_z w16 (of_z w16 y)) (plain z f) ∙ to_z-of_z w16 z (widen f)

-- ---- a sum and a difference of two 8 bit numbers take 16 bits
diff_fits : (b : Bool) (m n : ℕ) → m < 512 → n < 512 → SFits w16 (cond b (negsuc (n - suc m)) (pos (m - n)))
diff_fits true m n p q = record { sfits = omega arith }
diff_fits false m n p q = record { sfits = omega arith }

pub add_fits16 : (x y : ℤ) → SFits w8 x → SFits w8 y → SFits w16 (x +ℤ y)
add_fits16 (pos a) (pos b) f g = record { sfits = omega (arith, f.sfits, g.sfits) }
add_fits16 (pos a) (negsuc b) f g = diff_fits (ltb a (suc b)) a (suc b) (omega (arith, f.sfits)) (omega (arith, g.sfits))
add_fits16 (negsuc a) (pos b) f g = diff_fits (ltb b (suc a)) b (suc a) (omega (arith, g.sfits)) (omega (arith, f.sfits))
add_fits16 (negsuc a) (negsuc b) f g = record { sfits = omega (arith, f.sfits, g.sfits) }

pub sub_fits16 : (x y : ℤ) → SFits w8 x → SFits w8 y → SFits w16 (x -ℤ y)
sub_fits16 (pos a) (pos zero) f g = record { sfits = omega (arith, f.sfits) }
sub_fits16 (pos a) (pos (suc b)) f g = diff_fits (ltb a (suc b)) a (suc b) (omega (arith, f.sfits)) (omega (arith, g.sfits))
sub_fits16 (pos a) (negsuc b) f g = record { sfits = omega (arith, f.sfits, g.sfits) }
sub_fits16 (negsuc a) (pos zero) f g = diff_fits (ltb zero (suc a)) zero (suc a) (omega arith) (omega (arith, f.sfits))
sub_fits16 (negsuc a) (pos (suc b)) f g = record { sfits = omega (arith, f.sfits, g.sfits) }
sub_fits16 (negsuc a) (negsuc b) f g = diff_fits (ltb (suc b) (suc a)) (suc b) (suc a) (omega (arith, g.sfits)) (omega (arith, f.sfits))

pub neg_fits16 : (z : ℤ) → SFits w8 z → SFits w16 (neg_ℤ z)
neg_fits16 (pos zero) f = record { sfits = omega arith }
neg_fits16 (pos (suc n)) f = record { sfits = omega (arith, f.sfits) }
neg_fits16 (negsuc n) f = record { sfits = omega (arith, f.sfits) }

pub abs : (x : ℤ) → max_z x (neg_ℤ x) ≡ pos (nat_abs x)
abs (pos zero) = refl
abs (pos (suc n)) = refl
abs (negsuc n) = refl

-- ---- signs
pub sign_test : (z : ℤ) → lt_z z (pos 0) ≡ negative z
sign_test (pos n) = le-ltb n 0 (omega arith)
sign_test (negsuc n) = refl

pub max_nonneg : (z : ℤ) → lt_z (max_z z (pos 0)) (pos 0) ≡ false
max_nonneg z = by_cond (λ y. lt_z y (pos 0) ≡ false) (lt_z z (pos 0)) (pos 0) z (λ _. refl) (λ e. e)

pub times_swap : (a b c : Bool) → times (times a b) c ≡ times (times a c) b
times_swap a true true = refl
times_swap a false false = refl
times_swap true true false = refl
times_swap true false true = refl
times_swap false true false = refl
times_swap false false true = refl

pub times_twice : (a b : Bool) → times (times a b) b ≡ a
times_twice true true = refl
times_twice true false = refl
times_twice false true = refl
times_twice false false = refl

plus : (n : ℕ) → n < 128 → negative (to_z w8 n) ≡ false
plus n h = rw (lt-ltb n 128 h) refl

minus : (n : ℕ) → 128 ≤ n → negative (to_z w8 n) ≡ true
minus n h = rw (le-ltb n 128 h) refl

half : (a b x y : ℕ) → a / 2 ^ 7 ≡ x → b / 2 ^ 7 ≡ y → bit_xor a b / 128 ≡ bit_xor x y
half a b x y p q = xor_shr a b 7 ∙ (λ i. bit_xor (p i) (q i))

-- the xor of two numbers has the sign of their product
pub xor_sign : (x y : ℤ) → SFits w8 x → SFits w8 y → negative (to_z w8 (bit_xor (of_z w8 x) (of_z w8 y))) ≡ times (negative x) (negative y)
xor_sign (pos a) (pos b) f g =
    let h : bit_xor a b / 128 ≡ 0 = half a b 0 0 (omega (arith, f.sfits)) (omega (arith, g.sfits)) in
    plus (bit_xor a b) (omega arith)
xor_sign (pos a) (negsuc b) f g =
    let h : bit_xor a (256 - suc b) / 128 ≡ 1 = half a (256 - suc b) 0 1 (omega (arith, f.sfits)) (omega (arith, g.sfits)) in
    minus (bit_xor a (256 - suc b)) (omega arith)
xor_sign (negsuc a) (pos b) f g =
    let h : bit_xor (256 - suc a) b / 128 ≡ 1 = half (256 - suc a) b 1 0 (omega (arith, f.sfits)) (omega (arith, g.sfits)) in
    minus (bit_xor (256 - suc a) b) (omega arith)
xor_sign (negsuc a) (negsuc b) f g =
    let h : bit_xor (256 - suc a) (256 - suc b) / 128 ≡ 0 = half (256 - suc a) (256 - suc b) 1 1 (omega (arith, f.sfits)) (omega (arith, g.sfits)) in
    plus (bit_xor (256 - suc a) (256 - suc b)) (omega arith)
