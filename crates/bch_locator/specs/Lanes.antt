-- Sixteen elements at once.
use Rattle.std.specs.Prelude.{◌≡◌, List, ℕ, ◌*◌, ◌^◌, ◌≤◌, ◌<◌, get_or, length}
use Rattle.algebra.specs.Series.{ev}
use Rattle.gf16.specs.Field16.{R16, α}
use Rattle.bch_locator.specs.Element.{poly}

-- what a [u16; 16] is
pub record Lanes (t : List ℕ) : Type 0 where
  pub len : length t ≡ 16
  pub fit : (i : ℕ) → get_or t i 0 < 65536

-- lane i of r is the product of lane i of t and of p as polynomials, at α
pub record Products (r t p : List ℕ) : Type 0 where
  pub lanes : Lanes r
  pub at : (i : ℕ) → i < 16 → poly r i ≡ ev R16 32 (get_or t i 0 * get_or p i 0) α

-- the first twelve lanes of p are 2 to the e 0, .. e 11, at most 2 to the 12; the others 0
pub record PowersOf (p : List ℕ) (e : ℕ → ℕ) : Type 0 where
  pub at : (i : ℕ) → i < 12 → get_or p i 0 ≡ 2 ^ e i
  pub low : (i : ℕ) → i < 12 → e i ≤ 12
  pub rest : (i : ℕ) → 12 ≤ i → get_or p i 0 ≡ 0
