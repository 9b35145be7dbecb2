-- Polynomials over two elements as numbers (Definitions: `clmul`, `rem`): `rem` is the remainder of a division by g of degree d, and the only one.
-- That g has degree d is `g / 2 ^ d ≡ 1` everywhere.
--
-- In order: the quotient, and `division`; the remainder is below 2 ^ d (`rem_lt`); digits joined and moved up; the remainder does not depend on
-- the number of digits, is additive, and is the number itself if that is small (`rem_digits`, `rem_add`, `rem_small`); degrees of products;
-- multiples of g; `remainder_only`; what a shift register needs (`rem_shift`); `Divides` is remainder 0.
--
-- Not here: the laws of a ring and of a field (algebra).
use Rattle.std.specs.Prelude.{◌≡◌, refl, ℕ, zero, suc, ◌+◌, ◌*◌, ◌/◌, ◌%◌, ◌^◌, ◌≤◌, ◌<◌}
use Rattle.std.proofs.Common.{sym, ap, ap₂, ◌∙◌, subst, mod-lt, pow-suc, zero-mul, one-mul, mul-div_cancel, mul_comm, div-add-mod', zero-add, suc-add, add-zero, add-suc, add_comm, mul-one, mul_assoc, div-le_self, lt_of_lt_of_le, lt_of_le_of_lt, mod-eq_of_lt, div-lt_iff_lt-mul, arith, pow_pos, shl_lt, shr-shr, pow_mono}
use Rattle.std.proofs.Math.Nat.{mul-mod_left, zero-div, div-eq_of_lt}
use Rattle.std.proofs.Math.Arith.{lt-one, digits_div, digits_mod}
use Rattle.std.specs.Int.Bits.{xor_shifted}
use Rattle.laws.specs.Xor.{⊕-assoc, ⊕-comm, ⊕-self, ⊕-zero, zero-⊕, ⊕-lt, ⊕-half, ⊕-odd, ⊕-double, ⊕-swap, ⊕-split, ⊕-div, bit_mul, two_cases, two_pos}
use Rattle.laws.specs.Definitions.{◌⊕◌, clmul, shifted, into, rem, Divides}

unfoldable pub quo : ℕ → ℕ → ℕ → ℕ → ℕ
quo d g zero w = 0
quo d g (suc k) w = quo d g k (w / 2) * 2 + shifted (rem d g k (w / 2)) (w % 2) / 2 ^ d % 2

pub deeper : (w n : ℕ) → w / 2 / 2 ^ n ≡ w / 2 ^ suc n
deeper w n = shr-shr w 1 n ∙ ap (λ (m : ℕ). w / 2 ^ m) one_more
  where
    one_more : 1 + n ≡ suc n
    one_more = omega arith

pub half_down : (w k : ℕ) → w < 2 ^ suc k → w / 2 < 2 ^ k
half_down w k h = omega (arith, pow-suc 2 k)

by_digits : (w : ℕ) → w ≡ (w / 2 * 2) ⊕ (w % 2)
by_digits w = ⊕-split w 1

pub division : (d g k w : ℕ) → w < 2 ^ k → w ≡ clmul k (quo d g k w) g ⊕ rem d g k w
unfolding clmul rem quo into shifted
division d g zero w h = lt-one h ∙ sym (⊕-zero 0)
division d g (suc k) w h =
    by_digits w ∙ ap (λ (z : ℕ). (z * 2) ⊕ (w % 2)) (division d g k (w / 2) (half_down w k h))
    ∙ ap (λ (z : ℕ). z ⊕ (w % 2)) (⊕-double C r) ∙ ⊕-assoc (C * 2) (r * 2) (w % 2)
    ∙ sym (ap (λ (z : ℕ). z ⊕ (v ⊕ (t * g))) product ∙ arrange (t * g) (C * 2) v)
  where
    r : ℕ
    r = rem d g k (w / 2)

    q : ℕ
    q = quo d g k (w / 2)

    C : ℕ
    C = clmul k q g

    v : ℕ
    v = (r * 2) ⊕ (w % 2)

    t : ℕ
    t = v / 2 ^ d % 2

    t_lt : t < 2
    t_lt = mod-lt (v / 2 ^ d) two_pos

    product : ((q * 2 + t) % 2 * g) ⊕ (clmul k ((q * 2 + t) / 2) g * 2) ≡ (t * g) ⊕ (C * 2)
    product = ap₂ (λ (a b : ℕ). (a * g) ⊕ (clmul k b g * 2)) (digits_mod q t_lt) (digits_div q t_lt)

    arrange : (a b c : ℕ) → (a ⊕ b) ⊕ (c ⊕ a) ≡ b ⊕ c
    arrange a b c = ap₂ ◌⊕◌ (⊕-comm a b) (⊕-comm c a) ∙ ⊕-assoc b a (a ⊕ c) ∙ ap (λ (z : ℕ). b ⊕ z) (sym (⊕-assoc a a c) ∙ ap (λ (z : ℕ). z ⊕ c) (⊕-self a) ∙ zero-⊕ c)

small_of_top : (x d : ℕ) → x / 2 ^ d ≡ 0 → x < 2 ^ d
small_of_top x d e =
    subst (λ (z : ℕ). z < 2 ^ d) (sym (zero-add _) ∙ ap (λ (z : ℕ). z + x % 2 ^ d) (sym (zero-mul (2 ^ d)) ∙ ap (λ (z : ℕ). z * 2 ^ d) (sym e)) ∙ div-add-mod' x (2 ^ d)) (mod-lt x (pow_pos d))

into_lt : (d g r b : ℕ) → r < 2 ^ d → b < 2 → g / 2 ^ d ≡ 1 → into d g r b < 2 ^ d
unfolding into shifted
into_lt d g r b hr hb e = small_of_top _ d (⊕-div v (t * g) d ∙ ap₂ ◌⊕◌ top low ∙ ⊕-self t)
  where
    v : ℕ
    v = (r * 2) ⊕ b

    t : ℕ
    t = v / 2 ^ d % 2

    v_lt : v < 2 ^ suc d
    v_lt = ⊕-lt (suc d) (omega (arith, pow-suc 2 d)) (lt_of_lt_of_le hb (pow_mono {i = 1} (omega arith)))

    top : v / 2 ^ d ≡ t
    top = sym (mod-eq_of_lt ((div-lt_iff_lt-mul (pow_pos d)).1 (subst (λ (z : ℕ). v < z) (pow-suc 2 d ∙ mul_comm (2 ^ d) 2) v_lt)))

    low : t * g / 2 ^ d ≡ t
    low =
        two_cases (λ t. t * g / 2 ^ d ≡ t) (ap (λ (z : ℕ). z / 2 ^ d) (zero-mul g) ∙ div-eq_of_lt (pow_pos d)) (ap (λ (z : ℕ). z / 2 ^ d) (one-mul g) ∙ e) t
        (mod-lt (v / 2 ^ d) two_pos)

pub rem_lt : (d g k w : ℕ) → g / 2 ^ d ≡ 1 → rem d g k w < 2 ^ d
unfolding rem
rem_lt d g zero w e = pow_pos d
rem_lt d g (suc k) w e = into_lt d g (rem d g k (w / 2)) (w % 2) (rem_lt d g k (w / 2) e) (mod-lt w two_pos) e

-- ---- digits put together, and moved up
pub ⊕-join : (a k b : ℕ) → b < 2 ^ k → (a * 2 ^ k) ⊕ b ≡ a * 2 ^ k + b
unfolding ◌⊕◌
⊕-join = xor_shifted

pub ⊕-shift : (a b k : ℕ) → (a ⊕ b) * 2 ^ k ≡ (a * 2 ^ k) ⊕ (b * 2 ^ k)
⊕-shift a b zero = mul-one (a ⊕ b) ∙ sym (ap₂ ◌⊕◌ (mul-one a) (mul-one b))
⊕-shift a b (suc k) =
    up (a ⊕ b) ∙ ap (λ (z : ℕ). z * 2) (⊕-shift a b k) ∙ ⊕-double (a * 2 ^ k) (b * 2 ^ k) ∙ sym (ap₂ ◌⊕◌ (up a) (up b))
  where
    up : (x : ℕ) → x * 2 ^ suc k ≡ x * 2 ^ k * 2
    up x = ap (λ (z : ℕ). x * z) (pow-suc 2 k) ∙ sym (mul_assoc x (2 ^ k) 2)

-- ---- the remainder does not depend on the number of digits, once that covers w
pub rem_zero : (d g k : ℕ) → rem d g k 0 ≡ 0
unfolding rem into shifted
rem_zero d g zero = refl
rem_zero d g (suc k) =
    ap (λ (r : ℕ). into d g r 0) (rem_zero d g k)
    ∙ ap₂ ◌⊕◌ (⊕-zero 0) (ap (λ (z : ℕ). z % 2 * g) (ap (λ (z : ℕ). z / 2 ^ d) (⊕-zero 0) ∙ zero-div (2 ^ d)) ∙ zero-mul g) ∙ ⊕-zero 0

rem_more : (d g j k w : ℕ) → w < 2 ^ k → rem d g (k + j) w ≡ rem d g k w
unfolding rem
rem_more d g j zero w h = ap (rem d g (0 + j)) (lt-one h) ∙ rem_zero d g (0 + j)
rem_more d g j (suc k) w h = ap (λ (m : ℕ). rem d g m w) (suc-add k j) ∙ ap (λ (r : ℕ). into d g r (w % 2)) (rem_more d g j k (w / 2) (half_down w k h))

pub rem_digits : (d g j k w : ℕ) → w < 2 ^ j → w < 2 ^ k → rem d g j w ≡ rem d g k w
rem_digits d g j k w hj hk = sym (rem_more d g k j w hj) ∙ ap (λ (m : ℕ). rem d g m w) (add_comm j k) ∙ rem_more d g j k w hk

-- ---- it is additive
into_add : (d g r b s c : ℕ) → into d g (r ⊕ s) (b ⊕ c) ≡ into d g r b ⊕ into d g s c
unfolding into shifted
into_add d g r b s c =
    ap (λ (x : ℕ). x ⊕ (x / 2 ^ d % 2 * g)) (ap (λ (z : ℕ). z ⊕ (b ⊕ c)) (⊕-double r s) ∙ ⊕-swap (r * 2) (s * 2) b c)
    ∙ ap (λ (z : ℕ). (v ⊕ u) ⊕ z) (ap (λ (z : ℕ). z % 2 * g) (⊕-div v u d) ∙ ap (λ (z : ℕ). z * g) (⊕-odd (v / 2 ^ d) (u / 2 ^ d))
    ∙ bit_mul (v / 2 ^ d % 2) (u / 2 ^ d % 2) g (mod-lt (v / 2 ^ d) two_pos) (mod-lt (u / 2 ^ d) two_pos))
    ∙ ⊕-swap v u (v / 2 ^ d % 2 * g) (u / 2 ^ d % 2 * g)
  where
    v : ℕ
    v = (r * 2) ⊕ b

    u : ℕ
    u = (s * 2) ⊕ c

pub rem_add : (d g k a b : ℕ) → rem d g k (a ⊕ b) ≡ rem d g k a ⊕ rem d g k b
unfolding rem
rem_add d g zero a b = sym (⊕-zero 0)
rem_add d g (suc k) a b =
    ap₂ (λ (x y : ℕ). into d g (rem d g k x) y) (⊕-half a b) (⊕-odd a b)
    ∙ ap (λ (r : ℕ). into d g r ((a % 2) ⊕ (b % 2))) (rem_add d g k (a / 2) (b / 2))
    ∙ into_add d g (rem d g k (a / 2)) (a % 2) (rem d g k (b / 2)) (b % 2)

-- ---- what is below 2 ^ d is its own remainder
into_small : (d g w : ℕ) → w < 2 ^ d → into d g (w / 2) (w % 2) ≡ w
unfolding into shifted
into_small d g w h =
    ap (λ (x : ℕ). x ⊕ (x / 2 ^ d % 2 * g)) (sym (by_digits w))
    ∙ ap (λ (z : ℕ). w ⊕ z) (ap (λ (z : ℕ). z % 2 * g) (div-eq_of_lt h) ∙ zero-mul g) ∙ ⊕-zero w

pub rem_small : (d g k w : ℕ) → w < 2 ^ d → w < 2 ^ k → rem d g k w ≡ w
unfolding rem
rem_small d g zero w hd hk = sym (lt-one hk)
rem_small d g (suc k) w hd hk =
    ap (λ (r : ℕ). into d g r (w % 2)) (rem_small d g k (w / 2) (lt_of_le_of_lt (div-le_self w 2) hd) (half_down w k hk)) ∙ into_small d g w hd

-- ---- a multiple of g has remainder 0
pub degree_lt : (d g : ℕ) → g / 2 ^ d ≡ 1 → g < 2 ^ suc d
degree_lt d g e = subst (λ (z : ℕ). g < z) (sym (pow-suc 2 d ∙ mul_comm (2 ^ d) 2)) ((div-lt_iff_lt-mul (pow_pos d)).0 below)
  where
    below : g / 2 ^ d < 2
    below = omega (arith, e)

rem_own : (d g : ℕ) → g / 2 ^ d ≡ 1 → rem d g (suc d) g ≡ 0
unfolding rem into shifted
rem_own d g e =
    ap (λ (r : ℕ). into d g r (g % 2)) (rem_small d g d (g / 2) half half)
    ∙ ap (λ (x : ℕ). x ⊕ (x / 2 ^ d % 2 * g)) (sym (by_digits g))
    ∙ ap (λ (z : ℕ). g ⊕ z) (ap (λ (z : ℕ). z % 2 * g) e ∙ one-mul g) ∙ ⊕-self g
  where
    half : g / 2 < 2 ^ d
    half = half_down g d (degree_lt d g e)

rem_double : (d g k w : ℕ) → rem d g k w ≡ 0 → rem d g (suc k) (w * 2) ≡ 0
unfolding rem into shifted
rem_double d g k w h =
    ap₂ (λ (x y : ℕ). into d g (rem d g k x) y) (mul-div_cancel w two_pos) (mul-mod_left w 2)
    ∙ ap (λ (r : ℕ). into d g r 0) h ∙ rem_zero d g 1

digit_times_lt : (k t g : ℕ) → t < 2 → g < 2 ^ k → t * g < 2 ^ k
digit_times_lt k t g ht hg = two_cases (λ t. t * g < 2 ^ k) (subst (λ (z : ℕ). z < 2 ^ k) (sym (zero-mul g)) (pow_pos k)) (subst (λ (z : ℕ). z < 2 ^ k) (sym (one-mul g)) hg) t ht

double_lt : (k w : ℕ) → w < 2 ^ k → w * 2 < 2 ^ suc k
double_lt k w h = omega (arith, pow-suc 2 k)

pub clmul_lt : (k q m g : ℕ) → g < 2 ^ m → clmul k q g < 2 ^ (k + m)
unfolding clmul
clmul_lt zero q m g h = pow_pos (0 + m)
clmul_lt (suc k) q m g h =
    subst (λ (n : ℕ). (q % 2 * g) ⊕ (clmul k (q / 2) g * 2) < 2 ^ n) (sym (suc-add k m))
    (⊕-lt (suc (k + m)) (digit_times_lt (suc (k + m)) (q % 2) g (mod-lt q two_pos) (lt_of_lt_of_le h (pow_mono up))) (double_lt (k + m) (clmul k (q / 2) g) (clmul_lt k (q / 2) m g h)))
  where
    up : m ≤ suc (k + m)
    up = omega arith

-- degrees add: k + 1 digits of q and m of g give k + m
pub clmul_degree : (k q m g : ℕ) → g < 2 ^ m → clmul (suc k) q g < 2 ^ (k + m)
unfolding clmul
clmul_degree zero q m g h =
    subst (λ (n : ℕ). (q % 2 * g) ⊕ 0 < 2 ^ n) (sym (zero-add m)) (subst (λ (x : ℕ). x < 2 ^ m) (sym (⊕-zero (q % 2 * g))) (digit_times_lt m (q % 2) g (mod-lt q two_pos) h))
clmul_degree (suc k) q m g h =
    subst (λ (n : ℕ). (q % 2 * g) ⊕ (clmul (suc k) (q / 2) g * 2) < 2 ^ n) (sym (suc-add k m))
    (⊕-lt (suc (k + m)) (digit_times_lt (suc (k + m)) (q % 2) g (mod-lt q two_pos) (lt_of_lt_of_le h (pow_mono up))) (double_lt (k + m) (clmul (suc k) (q / 2) g) (clmul_degree k (q / 2) m g h)))
  where
    up : m ≤ suc (k + m)
    up = omega arith

rem_multiple : (d g k q : ℕ) → g / 2 ^ d ≡ 1 → rem d g (k + suc d) (clmul k q g) ≡ 0
unfolding clmul
rem_multiple d g zero q e = rem_zero d g (0 + suc d)
rem_multiple d g (suc k) q e =
    ap (λ (n : ℕ). rem d g n (clmul (suc k) q g)) (suc-add k (suc d))
    ∙ rem_add d g (suc (k + suc d)) (q % 2 * g) (clmul k (q / 2) g * 2)
    ∙ ap₂ ◌⊕◌ (own (q % 2) (mod-lt q two_pos)) (rem_double d g (k + suc d) (clmul k (q / 2) g) (rem_multiple d g k (q / 2) e)) ∙ ⊕-zero 0
  where
    reach : g < 2 ^ suc (k + suc d)
    reach = lt_of_lt_of_le (degree_lt d g e) (pow_mono (omega arith))

    own : (t : ℕ) → t < 2 → rem d g (suc (k + suc d)) (t * g) ≡ 0
    own = two_cases (λ t. rem d g (suc (k + suc d)) (t * g) ≡ 0)
        (ap (rem d g (suc (k + suc d))) (zero-mul g) ∙ rem_zero d g (suc (k + suc d)))
        (ap (rem d g (suc (k + suc d))) (one-mul g) ∙ rem_digits d g (suc (k + suc d)) (suc d) g reach (degree_lt d g e) ∙ rem_own d g e)

-- ---- beside `division`: the remainder is the only one below 2 ^ d
pub remainder_only : (d g k q r n w : ℕ) → g / 2 ^ d ≡ 1 → r < 2 ^ d → w ≡ clmul k q g ⊕ r → w < 2 ^ n → r ≡ rem d g n w
remainder_only d g k q r n w e hr hw h =
    sym (rem_digits d g n all w h (reach n from_n h) ∙ ap (rem d g all) hw ∙ rem_add d g all (clmul k q g) r
    ∙ ap₂ ◌⊕◌ (rem_digits d g all (k + suc d) (clmul k q g) (reach (k + suc d) from_k product) product ∙ rem_multiple d g k q e) (rem_small d g all r hr (reach d from_d hr)) ∙ zero-⊕ r)
  where
    all : ℕ
    all = n + (k + suc d)

    from_n : n ≤ all
    from_n = omega arith

    from_k : k + suc d ≤ all
    from_k = omega arith

    from_d : d ≤ all
    from_d = omega arith

    product : clmul k q g < 2 ^ (k + suc d)
    product = clmul_lt k q (suc d) g (degree_lt d g e)

    reach : (m : ℕ) → m ≤ all → {x : ℕ} → x < 2 ^ m → x < 2 ^ all
    reach m hm hx = lt_of_lt_of_le hx (pow_mono hm)

-- ---- what a shift register needs: the remainder of w can stand for w before more digits
shift_up : (d g k j w : ℕ) → g / 2 ^ d ≡ 1 → rem d g (k + j) (w * 2 ^ j) ≡ rem d g (d + j) (rem d g k w * 2 ^ j)
unfolding rem
shift_up d g k zero w e =
    ap₂ (rem d g) (add-zero k) (mul-one w)
    ∙ sym (ap₂ (rem d g) (add-zero d) (mul-one (rem d g k w)) ∙ rem_small d g d (rem d g k w) (rem_lt d g k w e) (rem_lt d g k w e))
shift_up d g k (suc j) w e = down k w ∙ ap (λ (r : ℕ). into d g r 0) (shift_up d g k j w e) ∙ sym (down d (rem d g k w))
  where
    down : (k w : ℕ) → rem d g (k + suc j) (w * 2 ^ suc j) ≡ into d g (rem d g (k + j) (w * 2 ^ j)) 0
    down k w =
        ap₂ (rem d g) (add-suc k j) (ap (λ (z : ℕ). w * z) (pow-suc 2 j) ∙ sym (mul_assoc w (2 ^ j) 2))
        ∙ ap₂ (λ (x y : ℕ). into d g (rem d g (k + j) x) y) (mul-div_cancel (w * 2 ^ j) two_pos) (mul-mod_left (w * 2 ^ j) 2)

pub rem_shift : (d g k j n w v : ℕ) → g / 2 ^ d ≡ 1 → w < 2 ^ k → k + j ≤ n → d + j ≤ n
    → rem d g n ((w * 2 ^ j) ⊕ v) ≡ rem d g n ((rem d g k w * 2 ^ j) ⊕ v)
rem_shift d g k j n w v e hw hk hd =
    rem_add d g n (w * 2 ^ j) v
    ∙ ap (λ (z : ℕ). z ⊕ rem d g n v)
    (rem_digits d g n (k + j) (w * 2 ^ j) (lt_of_lt_of_le long (pow_mono hk)) long ∙ shift_up d g k j w e
    ∙ sym (rem_digits d g n (d + j) (rem d g k w * 2 ^ j) (lt_of_lt_of_le short (pow_mono hd)) short))
    ∙ sym (rem_add d g n (rem d g k w * 2 ^ j) v)
  where
    long : w * 2 ^ j < 2 ^ (k + j)
    long = shl_lt k j hw

    short : rem d g k w * 2 ^ j < 2 ^ (d + j)
    short = shl_lt d j (rem_lt d g k w e)

-- ---- g divides w
pub divides_rem : (d g n w : ℕ) → g / 2 ^ d ≡ 1 → w < 2 ^ n → Divides g w → rem d g n w ≡ 0
divides_rem d g n w e h m = sym (remainder_only d g m.digits m.quotient 0 n w e (pow_pos d) (m.product ∙ sym (⊕-zero (clmul m.digits m.quotient g))) h)

pub rem_divides : (d g n w : ℕ) → w < 2 ^ n → rem d g n w ≡ 0 → Divides g w
rem_divides d g n w h z =
    record { digits = n; quotient = quo d g n w; product = division d g n w h ∙ ap (λ (r : ℕ). clmul n (quo d g n w) g ⊕ r) z ∙ ⊕-zero (clmul n (quo d g n w) g) }
