-- A bit put among ascending ones (`insert`), ascending lists (`Rising`), and the bit that an address joins to a check (`place`). What follows of
-- them: proofs/Insert.
use Rattle.std.specs.Prelude.{cond, ltb, List, [], ◌∷◌, ℕ, ◌+◌, ◌-◌, ◌/◌, ◌%◌, ◌≤◌}

-- v in its place among the ascending bits
unfoldable pub insert : ℕ → List ℕ → List ℕ
insert v [] = v ∷ []
insert v (b ∷ bs) = cond (ltb v b) (v ∷ insert b bs) (b ∷ insert v bs)

-- ---- ascending, from v on
abbrev pub Rising : ℕ → List ℕ → Type 0
Rising v [] = Unit {0}
Rising v (b ∷ bs) = (v ≤ b) × Rising b bs

-- ---- the bit of the row that address a joins to check c, if a is c modulo q
unfoldable pub place : ℕ → ℕ → ℕ → ℕ
place q c a = (c / q + 374 - a / q % 374) % 374
