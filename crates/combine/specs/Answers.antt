-- When `combine` is refused, and what it leaves of the output.
use Rattle.std.specs.Prelude.{Bool, not, cond, ◌||◌, List, ◌++◌, ℕ, eqb, ltb, length, get_or, drop, sum, ℤ}
use Rattle.std.specs.List.{list_any}
use Rattle.combine.specs.Combined.{words_of, combined}

-- the first length, which is each one's if they are equal
abbrev pub first : List ℕ → ℕ
first lengths = get_or lengths 0 0

-- whether a length is not n
unfoldable pub any_other : ℕ → List ℕ → Bool
any_other n lengths = list_any (λ l. not (eqb l n)) lengths

-- "It refuses with 15 a dish count outside 1 to 8, unequal lengths, or lengths that don't add up to the slice": sums of integers, which don't wrap
unfoldable pub bad_lengths : List ℕ → ℕ → Bool
bad_lengths lengths size = eqb (length lengths) 0 || (ltb 8 (length lengths) || (any_other (first lengths) lengths || not (eqb (sum lengths) size)))

-- "before looking at the output slice": then "13. A lent output or work slice is too short", here one shorter than a word. 0 where nothing is refused
unfoldable pub combine_refusal : List ℕ → ℕ → ℕ → ℕ
combine_refusal lengths size room = cond (bad_lengths lengths size) 15 (cond (ltb room (first lengths)) 13 0)

-- the combined word, then the rest of the output as it was
abbrev pub written_of : List ℕ → List ℤ → List ℤ → List ℤ
written_of lengths soft out = combined (first lengths) (words_of (first lengths) (length lengths) soft) ++ drop (first lengths) out

-- the output at exit: a refusal changes nothing
abbrev pub output_of : List ℕ → List ℤ → List ℤ → List ℤ
output_of lengths soft out = cond (eqb (combine_refusal lengths (length soft) (length out)) 0) (written_of lengths soft out) out
