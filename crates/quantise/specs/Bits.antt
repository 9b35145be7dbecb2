-- A binary32's bits without the sign, as the number that they stand for, and its size rounded.
use Rattle.std.specs.Prelude.{ℕ, zero, suc, ◌+◌, ◌*◌, ◌/◌, ◌%◌, ◌^◌, min}
use Rattle.quantise.specs.Soft.{nearest}

-- the number whose exponent's field and digits these are, in units of 2 ^ -149
abbrev pub units_at : ℕ → ℕ → ℕ
units_at zero digits = digits
units_at (suc y) digits = (8388608 + digits) * 2 ^ y

-- its nearest whole number, clamped
unfoldable pub size_of : ℕ → ℕ
size_of bits = min (nearest (units_at (bits / 8388608) (bits % 8388608)) (2 ^ 149)) 127
