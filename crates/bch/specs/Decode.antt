-- What decoding a word gives, in the words of the scope: "A codeword gives 0. Otherwise take the shortest register generating syndromes
-- S1 to S24. Length over 12: uncorrectable, word unchanged. Otherwise flip each present position whose root it has; if fewer flips
-- than its length, uncorrectable"; and of a later request, in place of flips left there: "When BCH calls a word uncorrectable, every byte
-- of it must be as it came in."
use Rattle.std.specs.Prelude.{◌≡◌, List, [], ◌∷◌, ℕ, ◌+◌, length, Option, Some, None}
use Rattle.std.proofs.Math.Logic.{ite}
use Rattle.std.proofs.Math.Decide.{ℕ_discrete, dec_le}
use Rattle.laws.specs.Definitions.{◌⊕◌}
use Rattle.algebra.specs.Series.{pow, ev, zeros}
use Rattle.algebra.specs.Massey.{shortest_exists}
use Rattle.algebra.specs.Register.{Shortest}
use Rattle.algebra.specs.Gf.{El}
use Rattle.gf16.specs.Field16.{gf16, R16, α, value_at}
use Rattle.bch_remainder.specs.Word.{number, remainder_of}

-- the syndrome S_(j+1): the word's value at alpha^(j+1)
unfoldable pub syndrome : List ℕ → ℕ → El 15
syndrome w j = ev R16 (length w) (number w) (pow R16 α (j + 1))

-- x where the register has the root of the position of power p (gf16, Field16: value_at), y elsewhere
unfoldable pub where_root : (ℕ → El 15) → ℕ → ℕ → ℕ → ℕ → ℕ
where_root c l p x y = ite (gf16.dec (value_at c l p) R16.𝟘) x y

-- each present position whose root the register has is flipped, in its low bit; the first byte has the highest power
unfoldable pub flipped : (ℕ → El 15) → ℕ → List ℕ → List ℕ
flipped c l [] = []
flipped c l (b ∷ w) = where_root c l (length w) (b ⊕ 1) b ∷ flipped c l w

-- at how many of the positions of powers below n the register has the root: so many are flipped, if any
unfoldable pub flips : (ℕ → El 15) → ℕ → ℕ → ℕ
flips c l n = zeros gf16 n (value_at c l)

-- "Length over 12: uncorrectable, word unchanged. Otherwise flip ..": the answer by a shortest register c of length l, and the bytes that it leaves,
-- flipped or "as it came in"
unfoldable pub answer_by : (ℕ → El 15) → ℕ → List ℕ → Option ℕ
answer_by c l w = ite (dec_le l 12) (ite (ℕ_discrete (flips c l (length w)) l) (Some l) None) None

unfoldable pub left_by : (ℕ → El 15) → ℕ → List ℕ → List ℕ
left_by c l w = ite (dec_le l 12) (ite (ℕ_discrete (flips c l (length w)) l) (flipped c l w) w) w

-- "Otherwise take the shortest register": whichever shortest one is taken, r is its answer to w, and w' are the bytes that it leaves. There
-- always is one (algebra, Massey: `shortest_exists`).
pub record Located (w w' : List ℕ) (r : Option ℕ) : Type 0 where
  pub answer : (c : ℕ → El 15) (l : ℕ) → Shortest R16 (syndrome w) 24 c l → r ≡ answer_by c l w
  pub word : (c : ℕ → El 15) (l : ℕ) → Shortest R16 (syndrome w) 24 c l → w' ≡ left_by c l w

-- ---- as functions of a word of an accepted length: by some shortest register. `decodes` (proofs/Decodes.antt) says that it does not matter which
unfoldable pub register : (w : List ℕ) → (c : ℕ → El 15) × (l : ℕ) × Shortest R16 (syndrome w) 24 c l
register w = shortest_exists gf16 (syndrome w) 24

unfoldable pub answer_of : List ℕ → Option ℕ
answer_of w = ite (ℕ_discrete (remainder_of w) 0) (Some 0) (answer_by (register w).0 (register w).1 w)

unfoldable pub left_of : List ℕ → List ℕ
left_of w = ite (ℕ_discrete (remainder_of w) 0) w (left_by (register w).0 (register w).1 w)
