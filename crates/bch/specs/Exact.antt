-- What is exact in decoding: it corrects exactly when a codeword of that length lies within 12 bits, and to the only such codeword; any other
-- word it leaves as it came in.
use Rattle.std.specs.Prelude.{◌≡◌, ◌↔◌, List, ℕ, ◌≤◌, length, Option, Some, None}
use Rattle.bch_remainder.specs.Word.{Codeword}
use Rattle.bch.specs.Distance.{distance, low_bits, high_bits}

-- a codeword of w's length that differs from w in at most 12 positions
pub record Near (w v : List ℕ) : Type 0 where
  pub same_length : length v ≡ length w
  pub codeword : Codeword v
  pub within : distance w v ≤ 12

-- the answer r to the word w, which w' is left of
pub record Exact (w w' : List ℕ) (r : Option ℕ) : Type 0 where
  -- corrected exactly when some codeword of that length differs from the word in at most 12 positions;
  pub exactly : ((k : ℕ) × (r ≡ Some k)) ↔ ((v : List ℕ) × Near w v)
  -- and then the word has exactly that codeword's bits, and the count is the number of positions changed,
  pub to_it : (v : List ℕ) → Near w v → (low_bits w' ≡ low_bits v) × (r ≡ Some (distance w v))
  pub count : (k : ℕ) → r ≡ Some k → Near w w' × (distance w w' ≡ k)
  -- and that codeword is the only one within 12 (a fact of the code, whatever was answered: `minimum_distance`);
  pub only : (u v : List ℕ) → Near w u → Near w v → low_bits u ≡ low_bits v
  -- the other bits of its bytes are as they were;
  pub rest : high_bits w' ≡ high_bits w
  -- and "when BCH calls a word uncorrectable, every byte of it must be as it came in"
  pub untouched : r ≡ None → w' ≡ w
