-- An array of sixteen that a loop fills: each entry below i meets P. Assumes nothing.
use Rattle.std.proofs.Common.{◌≡◌, ◌∙◌, List, ℕ, ◌+◌, ◌*◌, ◌≤◌, ◌<◌, arith, get_or, set, length-set}
use Rattle.algebra.specs.Series.{ev}
use Rattle.gf16.specs.Field16.{R16, α}
use Rattle.bch_locator.specs.Element.{to_el, poly}
use Rattle.bch_locator.specs.Lanes.{Lanes, Products}
use Rattle.laws.specs.Stores.{set_each, grown}

pub record Filling (P : ℕ → ℕ → Type 0) (r : List ℕ) (i : ℕ) : Type 0 where
  pub lanes : Lanes r
  pub below : i ≤ 16
  pub at : (j : ℕ) → j < i → P j (get_or r j 0)

pub lanes_set : (r : List ℕ) (i v : ℕ) → Lanes r → i < 16 → v < 65536 → Lanes (set r i v)
lanes_set r i v l h hv = record { len = length-set r i v ∙ l.len; fit = set_each 0 (λ _ x. x < 65536) r i v (omega (arith, l.len)) hv (λ j _. l.fit j) }

pub filling_again : (P : ℕ → ℕ → Type 0) (r : List ℕ) (i v : ℕ) → Filling P r i → i < 16 → v < 65536 → P i v → Filling P (set r i v) (i + 1)
filling_again P r i v F h hv p =
    record { lanes = lanes_set r i v F.lanes h hv; below = omega arith; at = grown 0 P r i v (omega (arith, F.lanes.len)) F.at p }

-- ---- `times`
abbrev pub At : List ℕ → List ℕ → ℕ → ℕ → Type 0
At t p i v = to_el v ≡ ev R16 32 (get_or t i 0 * get_or p i 0) α

pub products_end : (r t p : List ℕ) (i : ℕ) → 16 ≤ i → Filling (At t p) r i → Products r t p
unfolding poly
products_end r t p i h F = record { lanes = F.lanes; at = λ j g. F.at j (omega arith) }
