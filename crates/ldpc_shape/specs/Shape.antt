-- The shape of a code and its refusals. A code is n, the length of each row, and the rows' addresses one after the other.
use Rattle.std.specs.Prelude.{Bool, false, cond, not, ◌||◌, List, [], ◌∷◌, ℕ, zero, suc, ◌+◌, ◌-◌, ◌*◌, ◌/◌, ◌%◌, ltb, leb, eqb, length, take, drop}
use Rattle.ldpc_shape.specs.declared.Sizes.{Sizes}

-- k = 374 times rows
unfoldable pub k_of : List ℕ → ℕ
k_of lens = 374 * length lens

-- P = n - k
unfoldable pub p_of : ℕ → List ℕ → ℕ
p_of n lens = n - k_of lens

-- q = P / 374
unfoldable pub q_of : ℕ → List ℕ → ℕ
q_of n lens = p_of n lens / 374

-- E = 374A + 2P - 1, with A addresses
unfoldable pub e_of : ℕ → List ℕ → List ℕ → ℕ
e_of n lens addrs = 374 * length addrs + 2 * p_of n lens - 1

-- the code's numbers together
abbrev pub sizes_of : ℕ → List ℕ → List ℕ → Sizes
sizes_of n lens addrs = record { n = n; k = k_of lens; p = p_of n lens; q = q_of n lens; e = e_of n lens addrs }

-- the rows, each with its addresses
unfoldable pub rows_of : List ℕ → List ℕ → List (List ℕ)
rows_of [] addrs = []
rows_of (l ∷ lens) addrs = take l addrs ∷ rows_of lens (drop l addrs)

-- what the row lengths add up to
unfoldable pub total : List ℕ → ℕ
total [] = 0
total (l ∷ lens) = l + total lens

-- whether one of the numbers is above the limit
unfoldable pub any_over : ℕ → List ℕ → Bool
any_over limit [] = false
any_over limit (x ∷ xs) = ltb limit x || any_over limit xs

-- how many addresses are l modulo q
unfoldable pub count_mod : ℕ → ℕ → List ℕ → ℕ
count_mod q l [] = 0
count_mod q l (a ∷ addrs) = cond (eqb (a % q) l) (suc (count_mod q l addrs)) (count_mod q l addrs)

-- how many are, for each l below m
unfoldable pub counts_mod : ℕ → List ℕ → ℕ → List ℕ
counts_mod q addrs zero = []
counts_mod q addrs (suc m) = count_mod q m addrs ∷ counts_mod q addrs m

-- "n is 0, not a multiple of 374, or above 44,880"
unfoldable pub bad_length : ℕ → Bool
bad_length n = eqb n 0 || (not (eqb (n % 374) 0) || ltb 44880 n)

-- The first of 2 to 6 that applies, 0 for none. 3: "374 times the row count is n or more". 4: "a row has more than 128 addresses".
-- 5: "row lengths don't add up to the address list's length". 6: "more than 126 addresses are equal modulo q".
unfoldable pub code_refusal : ℕ → List ℕ → List ℕ → ℕ
code_refusal n lens addrs =
    cond (bad_length n) 2
    (cond (leb n (374 * length lens)) 3
    (cond (any_over 128 lens) 4
    (cond (not (eqb (total lens) (length addrs))) 5
    (cond (any_over 126 (counts_mod (q_of n lens) addrs (q_of n lens))) 6 0))))
