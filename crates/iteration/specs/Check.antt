-- One check of ONE word. A word's values L and messages r are functions of the variable's and of the edge's number.
use Rattle.std.specs.Prelude.{ℕ, zero, suc, ◌+◌, min, Bool, false, cond, ltb, eqb, ℤ, pos, ◌+ℤ◌, ◌-ℤ◌}
use Rattle.laws.specs.Definitions.{negative, times, put}
use Rattle.iteration.specs.Value.{sat_z, magnitude, reduced, signed}

-- Of the first n edges' t: min1 and min2 start at 127 and become the two smallest;
unfoldable pub min1 : (ℕ → ℤ) → ℕ → ℕ
min1 t zero = 127
min1 t (suc n) = min (min1 t n) (magnitude (t n))

unfoldable pub min2 : (ℕ → ℤ) → ℕ → ℕ
min2 t zero = 127
min2 t (suc n) = cond (ltb (magnitude (t n)) (min1 t n)) (min1 t n) (min (min2 t n) (magnitude (t n)))

-- min1's edge is the first to reach it;
unfoldable pub first : (ℕ → ℤ) → ℕ → ℕ
first t zero = zero
first t (suc n) = cond (ltb (magnitude (t n)) (min1 t n)) n (first t n)

-- and the sign of the product of all edges but edge e (0 is positive).
unfoldable pub others : (ℕ → ℤ) → ℕ → ℕ → Bool
others t e zero = false
others t e (suc n) = cond (eqb n e) (others t e n) (times (others t e n) (negative (t n)))

-- Edge e's message, of d edges, has min2's magnitude if it is min1's edge, else min1's, and the sign of the product of the other edges' signs.
unfoldable pub message : ℤ → (ℕ → ℤ) → ℕ → ℕ → ℤ
message offset t d e = signed (others t e d) (reduced offset (cond (eqb e (first t d)) (min2 t d) (min1 t d)))

-- f after n writes in order, x k at u k, a later one over an earlier.
unfoldable pub wrote : (ℕ → ℕ) → (ℕ → ℤ) → (ℕ → ℤ) → ℕ → ℕ → ℤ
wrote u x f zero = f
wrote u x f (suc n) = put (wrote u x f n) (u n) (x n)

-- A check of d edges that begin at edge s; edge e is of variable v e. For each edge t = sat(L − r).
unfoldable pub t_of : (ℕ → ℕ) → ℕ → (ℕ → ℤ) → (ℕ → ℤ) → ℕ → ℤ
t_of v s L r k = sat_z (L (v (s + k)) -ℤ r (s + k))

unfoldable pub new_r : ℤ → (ℕ → ℕ) → ℕ → ℕ → (ℕ → ℤ) → (ℕ → ℤ) → ℕ → ℤ
new_r offset v s d L r = wrote (λ k. s + k) (message offset (t_of v s L r) d) r d

-- Then L = sat(t + message), edges in order, a repeated edge overwriting.
unfoldable pub new_l : ℤ → (ℕ → ℕ) → ℕ → ℕ → (ℕ → ℤ) → (ℕ → ℤ) → ℕ → ℤ
new_l offset v s d L r = wrote (λ k. v (s + k)) (λ k. sat_z (t_of v s L r k +ℤ message offset (t_of v s L r) d k)) L d

pub record Word : Type 0 where
  pub L : ℕ → ℤ
  pub r : ℕ → ℤ

abbrev pub check : ℤ → (ℕ → ℕ) → ℕ → ℕ → Word → Word
check offset v s d w = record { L = new_l offset v s d w.L w.r; r = new_r offset v s d w.L w.r }

-- the first m of f, and 0 behind them
unfoldable pub within : ℕ → (ℕ → ℤ) → ℕ → ℤ
within m f u = cond (ltb u m) (f u) (pos 0)
