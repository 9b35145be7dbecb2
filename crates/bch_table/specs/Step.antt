-- A register of three words as one number of 192 bits, and the step of a division by sixteen bits.
use Rattle.std.specs.Prelude.{ℕ, ◌+◌, ◌*◌, ◌^◌}
use Rattle.laws.specs.Definitions.{◌⊕◌, rem}
use Rattle.bch_table.specs.declared.Reg.{Reg}
use Rattle.bch_table.specs.Generator.{generator}

unfoldable pub joined : ℕ → ℕ → ℕ → ℕ
joined h m l = (h * 2 ^ 64 + m) * 2 ^ 64 + l

abbrev pub value_of : Reg → ℕ
value_of r = joined r.hi r.mid r.lo

-- Sixteen bits more. If v is the remainder of x^192 times the message so far, this is that of x^192 times the message with the bits b after it:
-- x^192 (x^16 m + b) = x^16 (x^192 m) + x^192 b
unfoldable pub step_of : ℕ → ℕ → ℕ
step_of v b = rem 192 generator 208 ((v * 2 ^ 16) ⊕ (b * 2 ^ 192))
