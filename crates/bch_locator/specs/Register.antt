-- "Take the shortest register generating syndromes S1 to S24": s j is S_(j + 1), and c of length l generates s where c 0 = 1, c is zero past l,
-- and the sum of c i s (n - i), i = 0 .. l, is zero for every n from l to 23 (algebra: Register.Gen).
use Rattle.std.specs.Prelude.{◌≡◌, List, ℕ, ◌-◌, ◌≤◌, ◌<◌, get_or, length}
use Rattle.algebra.specs.SeriesLaws.{sum}
use Rattle.algebra.specs.Massey.{fixed}
use Rattle.algebra.specs.Register.{Gen}
use Rattle.algebra.specs.Gf.{El}
use Rattle.gf16.specs.Field16.{gf16, R16}
use Rattle.bch_locator.specs.Element.{to_el, poly}

-- l at most 12: c of length l generates s, and no register that does is shorter. "Length over 12": l is 13, none is
-- shorter than that, and c is zeros.
pub record RegisterOf (s c : List ℕ) (l : ℕ) : Type 0 where
  pub most : l ≤ 13
  pub gen : l ≤ 12 → Gen R16 (poly s) 24 (poly c) l
  pub short : (c' : ℕ → El 15) (l' : ℕ) → Gen R16 (poly s) 24 c' l' → l ≤ l'
  pub none : 12 < l → (i : ℕ) → get_or c i 0 ≡ 0

-- the sum of the first n of c i s (k - i)
unfoldable pub term : List ℕ → List ℕ → ℕ → ℕ → El 15
term c s k i = R16.◌⊠◌ (poly c i) (poly s (k - i))

unfoldable pub total : List ℕ → List ℕ → ℕ → ℕ → El 15
total c s k n = sum R16 n (term c s k)

-- c has, at each of its 13 places, c₀ + q x^m b
pub record Mended (c c₀ : List ℕ) (q m : ℕ) (b : List ℕ) : Type 0 where
  pub len : length c ≡ 13
  pub at : (i : ℕ) → i < 13 → poly c i ≡ fixed gf16 (poly c₀) (to_el q) m (poly b) i
