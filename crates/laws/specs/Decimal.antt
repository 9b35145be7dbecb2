-- Decimal numbers as bytes (Definitions: `decimal`, `signed`), and what makes a text that begins with one readable in one way only.
--
-- In order: digits; a number by its digits (`decimal_small`, `decimal_more`, `decimal_snoc`); all bytes are digits; the number that digits spell;
-- the first byte (`decimal_leads`); how many bytes; a text behind a number (`span_prefix`, `decimal_unique`, `signed_unique`).
--
-- Not here: how a reader goes through a text (report_form).
use Rattle.std.specs.Prelude.{◌≡◌, refl, Bool, false, ◌&&◌, List, [], ◌∷◌, ◌++◌, ℕ, zero, suc, ◌+◌, ◌-◌, ◌*◌, ◌/◌, ◌%◌, ◌^◌, ◌≤◌, ◌<◌, T, leb, ℤ, pos, negsuc, length, get_or}
use Rattle.std.proofs.Common.{sym, ap, ap₂, ◌∙◌, subst, not-suc-le-zero, mod-lt, div-add-mod', div-lt_iff_lt-mul, pow-suc, arith, lt-ltb, le-ltb, le-leb, length-append}
use Rattle.std.proofs.Math.Decide.{dec_lt}
use Rattle.laws.specs.Definitions.{digits, decimal, signed}

-- a byte that is a digit
abbrev pub digit : ℕ → Bool
digit b = leb 48 b && leb b 57

abbrev pub Digits : List ℕ → Type 0
Digits [] = Unit
Digits (x ∷ xs) = T (digit x) × Digits xs

-- a text that does not go on with a digit
abbrev pub Stops : List ℕ → Type 0
Stops r = digit (get_or r 0 0) ≡ false

digit_of : (d : ℕ) → d < 10 → T (digit (48 + d))
digit_of d h =
    subst (λ (a : Bool). T (a && leb (48 + d) 57)) (sym (le-leb 48 (48 + d) (omega arith)))
    (subst T (sym (le-leb (48 + d) 57 (omega arith))) tt)

digits_small : (k n : ℕ) → n < 10 → digits (suc k) n ≡ (48 + n) ∷ []
unfolding digits
digits_small k n h = rw (lt-ltb n 10 h) refl

digits_more : (k n : ℕ) → 10 ≤ n → digits (suc k) n ≡ digits k (n / 10) ++ ((48 + n % 10) ∷ [])
unfolding digits
digits_more k n h = rw (le-ltb n 10 h) refl

less : (n k : ℕ) → 10 ≤ n → n < suc k → n / 10 < k
less n k h l = omega (arith, div-add-mod' n 10)

enough : (k j n : ℕ) → n < k → n < j → digits k n ≡ digits j n
enough zero j n h l = absurd (not-suc-le-zero h)
enough (suc k) zero n h l = absurd (not-suc-le-zero l)
enough (suc k) (suc j) n h l = go (enough k j (n / 10)) (dec_lt n 10)
  where
    go : (n / 10 < k → n / 10 < j → digits k (n / 10) ≡ digits j (n / 10)) → Dec (n < 10) → digits (suc k) n ≡ digits (suc j) n
    go r (yes s) = digits_small k n s ∙ sym (digits_small j n s)
    go r (no b) =
        let m : 10 ≤ n = omega arith in
        digits_more k n m ∙ ap (λ (x : List ℕ). x ++ ((48 + n % 10) ∷ [])) (r (less n k m h) (less n j m l)) ∙ sym (digits_more j n m)

pub decimal_small : (n : ℕ) → n < 10 → decimal n ≡ (48 + n) ∷ []
unfolding decimal
decimal_small n h = digits_small n n h

pub decimal_more : (n : ℕ) → 10 ≤ n → decimal n ≡ decimal (n / 10) ++ ((48 + n % 10) ∷ [])
unfolding decimal
decimal_more n h =
    digits_more n n h
    ∙ ap (λ (x : List ℕ). x ++ ((48 + n % 10) ∷ [])) (enough n (suc (n / 10)) (n / 10) (less n n h (omega arith)) (omega arith))

-- one digit more behind a number that is not 0
pub decimal_snoc : (v d : ℕ) → 0 < v → d < 10 → decimal (v * 10 + d) ≡ decimal v ++ ((48 + d) ∷ [])
decimal_snoc v d h l =
    let q : (v * 10 + d) / 10 ≡ v = omega (arith, div-add-mod' (v * 10 + d) 10) in
    let m : (v * 10 + d) % 10 ≡ d = omega (arith, div-add-mod' (v * 10 + d) 10) in
    decimal_more (v * 10 + d) (omega arith) ∙ ap₂ (λ (x y : ℕ). decimal x ++ ((48 + y) ∷ [])) q m

-- induction on a number by its decimal digits
by_digits {ℓ} : (P : ℕ → Type ℓ) → ((n : ℕ) → n < 10 → P n) → ((n : ℕ) → 10 ≤ n → P (n / 10) → P n) → (k n : ℕ) → n < k → P n
by_digits P s m zero n h = absurd (not-suc-le-zero h)
by_digits P s m (suc k) n h = go (by_digits P s m k (n / 10)) (dec_lt n 10)
  where
    go : (n / 10 < k → P (n / 10)) → Dec (n < 10) → P n
    go r (yes l) = s n l
    go r (no b) = let l : 10 ≤ n = omega arith in m n l (r (less n k l h))

decimal-ind {ℓ} : (P : ℕ → Type ℓ) → ((n : ℕ) → n < 10 → P n) → ((n : ℕ) → 10 ≤ n → P (n / 10) → P n) → (n : ℕ) → P n
decimal-ind P s m n = by_digits P s m (suc n) n (omega arith)

Digits-append : (xs ys : List ℕ) → Digits xs → Digits ys → Digits (xs ++ ys)
Digits-append [] ys h l = l
Digits-append (x ∷ xs) ys h l = (h.0, Digits-append xs ys h.1 l)

pub decimal_digits : (n : ℕ) → Digits (decimal n)
decimal_digits =
    decimal-ind (λ (n : ℕ). Digits (decimal n)) (λ n h. subst Digits (sym (decimal_small n h)) (digit_of n h, tt))
    (λ n h r. subst Digits (sym (decimal_more n h)) (Digits-append (decimal (n / 10)) ((48 + n % 10) ∷ []) r (digit_of (n % 10) (mod-lt n (omega arith)), tt)))

-- the number that digits spell behind the number v
abbrev spelled : ℕ → List ℕ → ℕ
spelled v [] = v
spelled v (x ∷ xs) = spelled (v * 10 + (x - 48)) xs

spelled_append : (v : ℕ) (xs ys : List ℕ) → spelled v (xs ++ ys) ≡ spelled (spelled v xs) ys
spelled_append v [] ys = refl
spelled_append v (x ∷ xs) ys = spelled_append (v * 10 + (x - 48)) xs ys

spelled_le : (v : ℕ) (xs : List ℕ) → v ≤ spelled v xs
spelled_le v [] = omega arith
spelled_le v (x ∷ xs) = omega (arith, spelled_le (v * 10 + (x - 48)) xs)

spelled_decimal : (n : ℕ) → spelled 0 (decimal n) ≡ n
spelled_decimal =
    decimal-ind (λ (n : ℕ). spelled 0 (decimal n) ≡ n) (λ n h. rw (decimal_small n h) (omega arith))
    (λ n h r. ap (spelled 0) (decimal_more n h) ∙ spelled_append 0 (decimal (n / 10)) ((48 + n % 10) ∷ []) ∙ ap (λ (x : ℕ). x * 10 + (48 + n % 10 - 48)) r ∙ whole n)
  where
    whole : (n : ℕ) → n / 10 * 10 + (48 + n % 10 - 48) ≡ n
    whole n = omega (arith, div-add-mod' n 10)

decimal_injective : (m n : ℕ) → decimal m ≡ decimal n → m ≡ n
decimal_injective m n e = sym (spelled_decimal m) ∙ ap (spelled 0) e ∙ spelled_decimal n

-- a number whose digits go on from those of w is w or more
pub decimal_prefix : (x w : ℕ) (t : List ℕ) → decimal x ≡ decimal w ++ t → w ≤ x
decimal_prefix x w t e =
    let s : spelled (spelled 0 (decimal w)) t ≡ x = sym (spelled_append 0 (decimal w) t) ∙ ap (spelled 0) (sym e) ∙ spelled_decimal x in
    omega (arith, s, spelled_le (spelled 0 (decimal w)) t, spelled_decimal w)

-- a number's first byte is a digit, and no 0 unless the number is 0
pub record Leads (n : ℕ) (xs : List ℕ) : Type 0 where
  pub first : ℕ
  pub others : List ℕ
  pub is : xs ≡ first ∷ others
  pub low : 48 ≤ first
  pub high : first ≤ 57
  pub zero_only : first ≡ 48 → n ≡ 0

leads_append : (m n : ℕ) (xs ys : List ℕ) → (m ≡ 0 → n ≡ 0) → Leads m xs → Leads n (xs ++ ys)
leads_append m n xs ys z l =
    record { first = l.first; others = l.others ++ ys; is = ap (λ (a : List ℕ). a ++ ys) l.is; low = l.low; high = l.high; zero_only = λ e. z (l.zero_only e) }

pub decimal_leads : (n : ℕ) → Leads n (decimal n)
decimal_leads =
    decimal-ind (λ (n : ℕ). Leads n (decimal n))
    (λ n h. record { first = 48 + n; others = []; is = decimal_small n h; low = omega arith; high = omega arith; zero_only = λ e. omega arith })
    (λ n h r. subst (Leads n) (sym (decimal_more n h)) (leads_append (n / 10) n (decimal (n / 10)) ((48 + n % 10) ∷ []) (λ e. omega (arith, div-add-mod' n 10)) r))

-- a number below 10 ^ k has at most k digits
pub decimal_length : (k n : ℕ) → n < 10 ^ suc k → length (decimal n) ≤ suc k
decimal_length zero n h = rw (decimal_small n h) (omega arith)
decimal_length (suc k) n h = go (decimal_length k (n / 10)) (dec_lt n 10)
  where
    go : (n / 10 < 10 ^ suc k → length (decimal (n / 10)) ≤ suc k) → Dec (n < 10) → length (decimal n) ≤ suc (suc k)
    go r (yes s) = rw (decimal_small n s) (omega arith)
    go r (no b) =
        let l = r ((div-lt_iff_lt-mul (omega arith)).1 (subst (λ (p : ℕ). n < p) (pow-suc 10 (suc k)) h)) in
        rw (decimal_more n (omega arith)) (simp length-append (omega arith))

-- digits with which a text begins are the beginning of all its digits
pub span_prefix : (xs ys r s : List ℕ) → Digits xs → Stops s → xs ++ r ≡ ys ++ s → (t : List ℕ) × (ys ≡ xs ++ t) × (r ≡ t ++ s)
span_prefix [] ys r s d p e = (ys, refl, e)
span_prefix (x ∷ xs) [] r s d p e = absurd (subst T (ap digit (ap (λ (l : List ℕ). get_or l 0 0) e) ∙ p) d.0)
span_prefix (x ∷ xs) (y ∷ ys) r s d p e =
    let f : xs ++ r ≡ ys ++ s = cc in
    let h : x ≡ y = cc in
    let (t, a, b) = span_prefix xs ys r s d.1 p f in
    (t, ap (◌∷ ys) (sym h) ∙ ap (x ∷◌) a, b)

-- the digits with which a text begins, and what stands behind them
span_unique : (xs ys r s : List ℕ) → Digits xs → Digits ys → Stops r → Stops s → xs ++ r ≡ ys ++ s → (xs ≡ ys) × (r ≡ s)
span_unique [] [] r s d f p q e = (refl, e)
span_unique [] (y ∷ ys) r s d f p q e = absurd (subst T (ap digit (ap (λ (l : List ℕ). get_or l 0 0) (sym e)) ∙ p) f.0)
span_unique (x ∷ xs) [] r s d f p q e = absurd (subst T (ap digit (ap (λ (l : List ℕ). get_or l 0 0) e) ∙ q) d.0)
span_unique (x ∷ xs) (y ∷ ys) r s d f p q e =
    let g : xs ++ r ≡ ys ++ s = cc in
    let h : x ≡ y = cc in
    let (a, b) = span_unique xs ys r s d.1 f.1 p q g in
    (ap (◌∷ xs) h ∙ ap (y ∷◌) a, b)

pub decimal_unique : (m n : ℕ) (r s : List ℕ) → Stops r → Stops s → decimal m ++ r ≡ decimal n ++ s → (m ≡ n) × (r ≡ s)
decimal_unique m n r s p q e =
    let (a, b) = span_unique (decimal m) (decimal n) r s (decimal_digits m) (decimal_digits n) p q e in
    (decimal_injective m n a, b)

minus : (n : ℕ) (r : List ℕ) (s : List ℕ) → decimal n ++ r ≡ 45 ∷ s → ⊥
minus n r s e =
    let l = decimal_leads n in
    let h : l.first ∷ (l.others ++ r) ≡ 45 ∷ s = ap (λ (xs : List ℕ). xs ++ r) (sym l.is) ∙ e in
    let f : l.first ≡ 45 = cc in
    omega (arith, l.low)

pub signed_unique : (y z : ℤ) (r s : List ℕ) → Stops r → Stops s → signed y ++ r ≡ signed z ++ s → (y ≡ z) × (r ≡ s)
unfolding signed
signed_unique (pos m) (pos n) r s p q e = let (a, b) = decimal_unique m n r s p q e in (ap pos a, b)
signed_unique (pos m) (negsuc n) r s p q e = absurd (minus m r (decimal (suc n) ++ s) e)
signed_unique (negsuc m) (pos n) r s p q e = absurd (minus n s (decimal (suc m) ++ r) (sym e))
signed_unique (negsuc m) (negsuc n) r s p q e =
    let f : decimal (suc m) ++ r ≡ decimal (suc n) ++ s = cc in
    let (a, b) = decimal_unique (suc m) (suc n) r s p q f in
    let c : m ≡ n = omega (arith, a) in
    (ap negsuc c, b)
