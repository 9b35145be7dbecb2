-- What the examples are about: a row, words of a few values, and two small codes.
use Rattle.std.specs.Prelude.{List, [], ◌∷◌, ℕ, ◌+◌, ℤ, pos, negsuc, get_or, replicate}
use Rattle.iteration.specs.Check.{Word, check}
use Rattle.iteration.specs.Iteration.{Code, run}

-- one row with the address 0
abbrev pub row0 : List ℕ
row0 = 0 ∷ []

-- a word of these values, every message 0, and the check of all its variables in order, once each
unfoldable pub fresh : List ℤ → Word
fresh L = record { L = λ v. get_or L v (pos 0); r = λ e. pos 0 }

unfoldable pub checked : ℤ → ℕ → List ℤ → Word
checked offset d L = check offset (λ e. e) 0 d (fresh L)

-- L 3, 5, −2, offset 1
unfoldable pub three : Word
three = checked (pos 1) 3 (pos 3 ∷ pos 5 ∷ negsuc 1 ∷ [])

-- L −4, offset 1
unfoldable pub one : Word
one = checked (pos 1) 1 (negsuc 3 ∷ [])

-- two checks of one run, 0 with 1 and 1 with 2, offset 0: messages 5, 3 and −2, 5; L of variable 1 is sat(5 + 3 + (−2 − 0))
unfoldable pub shared : Code
shared = record { rows = λ e. get_or (0 ∷ 1 ∷ 1 ∷ 2 ∷ []) e 0; row_start = λ c. c + c }

unfoldable pub two : Word
two = run (pos 0) shared (λ i. i) 2 (fresh (pos 3 ∷ pos 5 ∷ negsuc 1 ∷ []))

-- variable 0 twice in one check, with values 3 and 5, offset 0
unfoldable pub twice : Code
twice = record { rows = λ e. get_or (0 ∷ 0 ∷ 1 ∷ []) e 0; row_start = λ c. c + c + c }

unfoldable pub zeros : ℕ → List ℕ
zeros n = replicate n 0

-- 193 zero bits but the first
unfoldable pub first_set : List ℕ
first_set = 1 ∷ zeros 192
