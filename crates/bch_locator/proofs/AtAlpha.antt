-- A polynomial of 31 digits at α, by xor and shifts: the sum of x and g, g α, g α^3, g α^12, where g is the quotient by α's polynomial.
-- All of it is additive, so that its values at the powers of two, which are computed, decide. Assumes nothing.
use Rattle.std.proofs.Common.{◌≡◌, refl, sym, ap, ap₂, ◌∙◌, ℕ, zero, suc, ◌*◌, ◌/◌, ◌%◌, ◌^◌, ◌<◌, not-suc-le-zero, le_of_suc-le-suc, le_of_lt, pow-suc, mod-eq_of_lt, arith, T, eqb, eqb→eq, ltb, ltb→lt, lit<, bit_and, bit_xor}
use Rattle.std.proofs.Math.Nat.{div-eq_of_lt}
use Rattle.std.proofs.lemmas.Nat.{and_mask}
use Rattle.laws.specs.Xor.{⊕-zero, ⊕-div, ⊕-mod, ⊕-swap, span}
use Rattle.laws.specs.Definitions.{◌⊕◌}
use Rattle.laws.specs.Poly.{⊕-shift}
use Rattle.laws.specs.Tests.{below, below_at}
use Rattle.algebra.specs.Ring.{Ring}
use Rattle.algebra.specs.RingLaws.{⊠-zero}
use Rattle.algebra.specs.Series.{pow, bit, ev}
use Rattle.algebra.specs.Values.{ev_add, ev_zero, ev_double, ev_more}
use Rattle.algebra.specs.Gf.{mul, mul_n, xt}
use Rattle.gf16.specs.Field16.{R16, α}
use Rattle.bch_locator.specs.Element.{to_el, to_el_xor, to_el_zero, to_el_one, to_el_two, to_el_mul}

-- ---- additive functions
abbrev Additive : (ℕ → ℕ) → Type 0
Additive f = (a b : ℕ) → f (a ⊕ b) ≡ f a ⊕ f b

add_sum : (f g : ℕ → ℕ) → Additive f → Additive g → Additive (λ x. f x ⊕ g x)
add_sum f g p q a b = ap₂ ◌⊕◌ (p a b) (q a b) ∙ ⊕-swap (f a) (f b) (g a) (g b)

add_down : (f : ℕ → ℕ) (k : ℕ) → Additive f → Additive (λ x. f x / 2 ^ k)
add_down f k p a b = ap (λ (z : ℕ). z / 2 ^ k) (p a b) ∙ ⊕-div (f a) (f b) k

add_low : (f : ℕ → ℕ) (k : ℕ) → Additive f → Additive (λ x. f x % 2 ^ k)
add_low f k p a b = ap (λ (z : ℕ). z % 2 ^ k) (p a b) ∙ ⊕-mod (f a) (f b) k

add_up : (f : ℕ → ℕ) (k : ℕ) → Additive f → Additive (λ x. f x * 2 ^ k)
add_up f k p a b = ap (λ (z : ℕ). z * 2 ^ k) (p a b) ∙ ⊕-shift (f a) (f b) k

-- ---- the code's
unfoldable pub high : ℕ → ℕ
high x = x / 2 ^ 16

unfoldable pub quotient : ℕ → ℕ
quotient x = high x ⊕ high x / 2 ^ 4 ⊕ high x / 2 ^ 8 ⊕ high x / 2 ^ 12 ⊕ high x / 2 ^ 13

unfoldable pub folded : ℕ → ℕ
folded x = x % 2 ^ 16 ⊕ quotient x ⊕ quotient x * 2 ^ 1 % 2 ^ 16 ⊕ quotient x * 2 ^ 3 % 2 ^ 16 ⊕ quotient x * 2 ^ 12 % 2 ^ 16

high_add : Additive high
unfolding high
high_add a b = ⊕-div a b 16

quotient_add : Additive quotient
unfolding quotient
quotient_add =
    add_sum _ _ (add_sum _ _ (add_sum _ _ (add_sum _ _ high_add (add_down high 4 high_add)) (add_down high 8 high_add)) (add_down high 12 high_add)) (add_down high 13 high_add)

times_add : (k : ℕ) → Additive (λ x. quotient x * 2 ^ k % 2 ^ 16)
times_add k = add_low (λ x. quotient x * 2 ^ k) 16 (add_up quotient k quotient_add)

folded_add : Additive folded
unfolding folded
folded_add =
    add_sum _ _ (add_sum _ _ (add_sum _ _ (add_sum _ _ (λ a b. ⊕-mod a b 16) quotient_add) (times_add 1)) (times_add 3)) (times_add 12)

-- ---- at the powers of two
steps_right : T (below 30 (λ i. eqb (folded (2 ^ suc i)) (mul 15 0x100B 2 (folded (2 ^ i)))))
unfolding below folded quotient high mul mul_n xt ◌⊕◌
steps_right = tt

steps_fit : T (below 31 (λ i. ltb (folded (2 ^ i)) 65536))
unfolding below folded quotient high ◌⊕◌
steps_fit = tt

folded_one : folded 1 ≡ 1
unfolding folded quotient high ◌⊕◌
folded_one = refl

folded_zero : folded 0 ≡ 0
unfolding folded quotient high ◌⊕◌
folded_zero = refl

-- below 2 ^ 16 there is nothing to fold
small : (x : ℕ) → x < 65536 → folded x ≡ x
unfolding folded quotient high ◌⊕◌
small x h =
    ap (λ (z : ℕ). bit_xor (bit_xor (bit_xor (bit_xor (x % 65536) (q z)) (q z * 2 % 65536)) (q z * 8 % 65536)) (q z * 4096 % 65536)) (div-eq_of_lt h)
    ∙ ⊕-zero _ ∙ ⊕-zero _ ∙ ⊕-zero _ ∙ ⊕-zero _ ∙ mod-eq_of_lt h
  where
    q : ℕ → ℕ
    q z = bit_xor (bit_xor (bit_xor (bit_xor z (z / 16)) (z / 256)) (z / 4096)) (z / 8192)

power : (i : ℕ) → i < 31 → to_el (folded (2 ^ i)) ≡ pow R16 α i
unfolding pow
power zero h = ap to_el folded_one ∙ to_el_one
power (suc i) h =
    to_el_mul 2 (folded (2 ^ i)) _ (lit< tt) (ltb→lt _ _ (below_at 31 _ steps_fit i (le_of_lt h))) (eqb→eq _ _ (below_at 30 _ steps_right i (le_of_suc-le-suc h)))
    ∙ ap₂ R16.◌⊠◌ to_el_two (power i (le_of_lt h))

ev_power : {F : Type 0} (R : Ring F) (k i : ℕ) (z : F) → i < k → ev R k (2 ^ i) z ≡ pow R z i
unfolding pow ev bit
ev_power R zero i z h = absurd (not-suc-le-zero h)
ev_power R (suc k) zero z h = ap (λ y. R.◌⊞◌ R.𝟙 (R.◌⊠◌ z y)) (ev_zero R k z) ∙ ap (R.◌⊞◌ R.𝟙) (⊠-zero R z) ∙ R.⊞-zero R.𝟙
ev_power R (suc k) (suc i) z h = ap (λ (w : ℕ). ev R (suc k) w z) (pow-suc 2 i) ∙ ev_double R k (2 ^ i) z ∙ ap (R.◌⊠◌ z) (ev_power R k i z (le_of_suc-le-suc h))

folded_law : (x : ℕ) → x < 2147483648 → to_el (folded x) ≡ ev R16 32 x α
folded_law =
    span (λ x. to_el (folded x) ≡ ev R16 32 x α) (ap to_el folded_zero ∙ to_el_zero ∙ sym (ev_zero R16 32 α)) 31
    (λ a b _ _ p q. ap to_el (folded_add a b) ∙ to_el_xor (folded a) (folded b) ∙ ap₂ R16.◌⊞◌ p q ∙ sym (ev_add R16 32 a b α))
    (λ i h. power i h ∙ sym (ev_power R16 32 i α (omega arith)))

-- an element is its own value at α
pub ev_itself : (x : ℕ) → x < 65536 → ev R16 16 x α ≡ to_el x
ev_itself x h = sym (ev_more R16 16 32 x α h (omega arith)) ∙ sym (folded_law x (omega arith)) ∙ ap to_el (small x h)

-- the code's low half is a mask
pub fold_is : (x r : ℕ) → x < 2147483648
    → r ≡ bit_and x 65535 ⊕ quotient x ⊕ quotient x * 2 ^ 1 % 2 ^ 16 ⊕ quotient x * 2 ^ 3 % 2 ^ 16 ⊕ quotient x * 2 ^ 12 % 2 ^ 16 → to_el r ≡ ev R16 32 x α
unfolding folded
fold_is x r h e =
    ap to_el (e ∙ ap (λ (z : ℕ). z ⊕ quotient x ⊕ quotient x * 2 ^ 1 % 2 ^ 16 ⊕ quotient x * 2 ^ 3 % 2 ^ 16 ⊕ quotient x * 2 ^ 12 % 2 ^ 16) (and_mask x 16))
    ∙ folded_law x h
