-- "Syndromes S1 to S24": S_i is the word's value at α^i, which is its remainder's.
use Rattle.std.specs.Prelude.{◌≡◌, List, ℕ, ◌+◌, ◌-◌, ◌*◌, ◌^◌, ◌<◌, length}
use Rattle.algebra.specs.Series.{pow, ev}
use Rattle.gf16.specs.Field16.{R16, α}
use Rattle.algebra.specs.Gf.{El}
use Rattle.bch_locator.specs.Element.{to_el, poly}
use Rattle.bch_locator.specs.Lanes.{Lanes}

-- entry j is S_(j + 1) of the 192 digits of w
pub record Syndromes (s : List ℕ) (w : ℕ) : Type 0 where
  pub len : length s ≡ 24
  pub at : (j : ℕ) → j < 24 → poly s j ≡ ev R16 192 w (pow R16 α (j + 1))

-- ---- on the way: lane i is at α^(2 i + 1), S_(2 i + 2) is the square of S_(i + 1)
unfoldable pub odd : ℕ → El 15
odd i = pow R16 α (2 * i + 1)

-- 2 i + 1 in two parts of at most 12
unfoldable pub first_part : ℕ → ℕ
first_part i = 2 * i + 1 - (2 * i + 1 - 12)

unfoldable pub second_part : ℕ → ℕ
second_part i = 2 * i + 1 - 12

-- b added in each lane
pub record Added (r s : List ℕ) (b : ℕ) : Type 0 where
  pub lanes : Lanes r
  pub at : (i : ℕ) → i < 16 → poly r i ≡ R16.◌⊞◌ (poly s i) (to_el b)

-- the 64 digits of w after those of which s is the value
pub record Horner (r s : List ℕ) (w : ℕ) : Type 0 where
  pub lanes : Lanes r
  pub fit : w < 2 ^ 64
  pub at : (i : ℕ) → i < 12 → poly r i ≡ R16.◌⊞◌ (R16.◌⊠◌ (pow R16 (odd i) 64) (poly s i)) (ev R16 64 w (odd i))

-- the odd powers' lanes, and squares between them
pub record Squared (s t : List ℕ) : Type 0 where
  pub len : length s ≡ 24
  pub lane : (k : ℕ) → k < 12 → poly s (2 * k) ≡ poly t k
  pub square : (k : ℕ) → k < 12 → poly s (2 * k + 1) ≡ R16.◌⊠◌ (poly s k) (poly s k)
