-- The field of the BCH code, GF(2^16) with α^16 = α^12 + α^3 + α + 1, that is 100B hexadecimal; its element α; and where a register vanishes.
use Rattle.std.specs.Prelude.{ℕ, suc}
use Rattle.std.proofs.Common.{lit<}
use Rattle.algebra.specs.Ring.{Ring, Field}
use Rattle.algebra.specs.Series.{pow, eval}
use Rattle.algebra.specs.Gf.{El}
use Rattle.algebra.specs.GfField.{gf_field}
use Rattle.gf16.specs.Checks16.{fix16, idempotents16}

unfoldable pub gf16 : Field (El 15)
gf16 = gf_field 15 0x100B (lit< tt) fix16 idempotents16

abbrev pub R16 : Ring (El 15)
R16 = gf16.ring

abbrev pub α : El 15
α = (2, lit< tt)

-- the value of the register c of length l at the inverse of α^p: the position of power p has its root where this is zero
abbrev pub value_at : (ℕ → El 15) → ℕ → ℕ → El 15
value_at c l p = eval R16 (suc l) c (gf16.inv (pow R16 α p))
