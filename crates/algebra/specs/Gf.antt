-- Elements of the fields of 2 ^ suc n elements as numbers: digit i is the coefficient of α^i, xor the sum. `poly` is α^(suc n).
use Rattle.std.specs.Prelude.{ℕ, zero, suc, ◌*◌, ◌/◌, ◌%◌, ◌^◌, ◌<◌}
use Rattle.laws.specs.Definitions.{◌⊕◌}

abbrev pub El : ℕ → Type 0
El n = (x : ℕ) × (x < 2 ^ suc n)

-- α times b: the top digit n goes out at the left, and `poly` comes in for it
unfoldable pub xt : ℕ → ℕ → ℕ → ℕ
xt n poly b = (b * 2 % 2 ^ suc n) ⊕ (b / 2 ^ n % 2 * poly)

-- a times b, over the k lowest digits of a: α^i b for each digit i that is 1
unfoldable pub mul_n : ℕ → ℕ → ℕ → ℕ → ℕ → ℕ
mul_n n poly zero a b = 0
mul_n n poly (suc k) a b = (a % 2 * b) ⊕ mul_n n poly k (a / 2) (xt n poly b)

unfoldable pub mul : ℕ → ℕ → ℕ → ℕ → ℕ
mul n poly a b = mul_n n poly (suc n) a b
