-- "Flip each present position whose root it has": the position of power p has the root α^-p, and is present where p is below the word's length.
use Rattle.std.specs.Prelude.{◌≡◌, List, ℕ, suc, ◌-◌, ◌≤◌, ◌<◌, get_or, length}
use Rattle.algebra.specs.Series.{zeros}
use Rattle.gf16.specs.Field16.{gf16, value_at, R16}
use Rattle.bch_locator.specs.Element.{poly}
use Rattle.bch_locator.specs.Lanes.{Lanes}

-- the powers below n at which the register vanishes, ascending, each once
pub record PlacesOf (at c : List ℕ) (l n : ℕ) : Type 0 where
  pub many : length at ≡ zeros gf16 n (value_at (poly c) l)
  pub most : length at ≤ l
  pub in_order : (i j : ℕ) → i < j → j < length at → get_or at i 0 < get_or at j 0
  pub inside : (i : ℕ) → i < length at → get_or at i 0 < n
  pub root : (i : ℕ) → i < length at → value_at (poly c) l (get_or at i 0) ≡ R16.𝟘
  pub all : (p : ℕ) → p < n → value_at (poly c) l p ≡ R16.𝟘 → (i : ℕ) × (i < length at) × (get_or at i 0 ≡ p)

-- c 0 to c l from the end, without c l, in lanes
pub record Reversed (t c : List ℕ) (l : ℕ) : Type 0 where
  pub lanes : Lanes t
  pub at : (i : ℕ) → i < l → get_or t i 0 ≡ get_or c (l - suc i) 0
  pub rest : (i : ℕ) → l ≤ i → get_or t i 0 ≡ 0
