-- What definitions of other crates use and the kit's library lacks, to be believed: xor and binary polynomials; signed numbers; a function
-- changed at one place; numbers as text. Their laws stand in the files of this crate that Lib lists behind this one.
use Rattle.std.specs.Prelude.{◌≡◌, Bool, true, false, not, cond, List, [], ◌∷◌, ◌++◌, ℕ, zero, suc, ◌+◌, ◌*◌, ◌/◌, ◌%◌, ◌^◌, eqb, ltb, ℤ, pos, negsuc}
use Rattle.std.specs.Int.Bits.{bit_xor}
use Rattle.std.specs.Int.Signed.{lt_z}

-- xor of two numbers
infixl 60 ◌⊕◌
unfoldable pub ◌⊕◌ : ℕ → ℕ → ℕ
◌⊕◌ a b = bit_xor a b

-- ---- polynomials over two elements as numbers, binary digit i the coefficient of x^i
-- the product of q and g, over k digits of q
unfoldable pub clmul : ℕ → ℕ → ℕ → ℕ
clmul zero q g = 0
clmul (suc k) q g = (q % 2 * g) ⊕ (clmul k (q / 2) g * 2)

-- the digit b behind the digits of r
unfoldable pub shifted : ℕ → ℕ → ℕ
shifted r b = (r * 2) ⊕ b

-- the same, and less g where that has a digit d: g is of degree d, r a remainder by it
unfoldable pub into : ℕ → ℕ → ℕ → ℕ → ℕ
into d g r b = shifted r b ⊕ (shifted r b / 2 ^ d % 2 * g)

-- the remainder of w, of k digits, by g of degree d (Poly: `division`, `rem_lt`, `remainder_only`)
unfoldable pub rem : ℕ → ℕ → ℕ → ℕ → ℕ
rem d g zero w = 0
rem d g (suc k) w = into d g (rem d g k (w / 2)) (w % 2)

-- g divides w
pub record Divides (g w : ℕ) : Type 0 where
  pub digits : ℕ
  pub quotient : ℕ
  pub product : w ≡ clmul digits quotient g

-- ---- signed numbers: the smaller and the larger of two
abbrev pub min_z : ℤ → ℤ → ℤ
min_z a b = cond (lt_z a b) a b

abbrev pub max_z : ℤ → ℤ → ℤ
max_z a b = cond (lt_z a b) b a

-- "0 is positive"
abbrev pub negative : ℤ → Bool
negative (pos n) = false
negative (negsuc n) = true

-- the sign of a product: negative where exactly one of the two is
abbrev pub times : Bool → Bool → Bool
times true b = not b
times false b = b

-- ---- the function f with x at u
unfoldable pub put : {A : Type 0} → (ℕ → A) → ℕ → A → ℕ → A
put f u x w = cond (eqb w u) x (f w)

-- ---- numbers as text, in bytes
-- the decimal digits of n, highest first, for n below k: one digit below ten, otherwise those of n / 10 and then n % 10
unfoldable pub digits : ℕ → ℕ → List ℕ
digits zero n = []
digits (suc k) n =
    let more = digits k (n / 10) ++ ((48 + n % 10) ∷ []) in
    cond (ltb n 10) ((48 + n) ∷ []) more

-- "numbers are decimal without leading zeros"
unfoldable pub decimal : ℕ → List ℕ
decimal n = digits (suc n) n

-- "with a minus before a negative one and no other sign"
unfoldable pub signed : ℤ → List ℕ
signed (pos n) = decimal n
signed (negsuc n) = 45 ∷ decimal (suc n)
