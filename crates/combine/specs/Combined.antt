-- "From 1 to 8 equally long soft words, one after another in one slice beside a list of their lengths, each position gets the exact sum of its values,
-- clamped to ±127 a single time at the end."
use Rattle.std.specs.Prelude.{List, [], ◌∷◌, map, ℕ, get_or, ℤ, pos, negsuc, ◌+ℤ◌}
use Rattle.std.specs.List.{range_with_len}
use Rattle.std.specs.Simd.{first_chunks}
use Rattle.laws.specs.Definitions.{min_z, max_z}

-- the words of a slice: `count` of n values each, one after another
abbrev pub words_of : ℕ → ℕ → List ℤ → List (List ℤ)
words_of n count soft = first_chunks n count soft

-- the exact sum of the words' values at place i
unfoldable pub sum_at : List (List ℤ) → ℕ → ℤ
sum_at [] i = pos 0
sum_at (word ∷ words) i = get_or word i (pos 0) +ℤ sum_at words i

-- clamped to ±127
abbrev pub clamped : ℤ → ℤ
clamped s = min_z (max_z s (negsuc 126)) (pos 127)

-- the one soft word of these words of n values: the clamped sum at each of the places 0 to n − 1
unfoldable pub combined : ℕ → List (List ℤ) → List ℤ
combined n words = map (λ i. clamped (sum_at words i)) (range_with_len 0 n)
