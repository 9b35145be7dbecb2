-- The lengths of the code with rate r / 120. A difference that would be below 0 is 0, so that they have a value at every r.
use Rattle.std.specs.Prelude.{List, [], ◌∷◌, ℕ, ◌-◌, ◌*◌}

-- the eleven rates' numerators
abbrev pub rates : List ℕ
rates = 41 ∷ 49 ∷ 61 ∷ 73 ∷ 81 ∷ 89 ∷ 93 ∷ 97 ∷ 101 ∷ 105 ∷ 109 ∷ []

-- k = 374 r
abbrev pub k_of : ℕ → ℕ
k_of r = 374 * r

-- P = n - k
abbrev pub p_of : ℕ → ℕ
p_of r = 44880 - k_of r

-- q = 120 - r
abbrev pub q_of : ℕ → ℕ
q_of r = 120 - r

-- D = k - 176 - 192 - 6
abbrev pub data_of : ℕ → ℕ
data_of r = k_of r - 176 - 192 - 6
