-- The bits that the LDPC step changed: from the bits that memory has (`changed_bits`), positions compared one after the other (`Comparing`), and what
-- holds of their count.
use Rattle.std.proofs.Common.{◌≡◌, ℕ, suc, ◌+◌, ◌%◌, ◌≤◌, ◌<◌, length, get_or, drop, List, [], ◌∷◌, arith, add-one, drop_of_length-le, drop-cons}
use Rattle.std.proofs.Math.Path.{ap, ap₂}
use Rattle.iteration.specs.Check.{Word}
use Rattle.bch.specs.Distance.{distance}
use Rattle.bch.specs.ExactLaws.{distance_self}
use Rattle.outcome.specs.Outcome.{bits_of, changed_of}
use Rattle.outcome.specs.Laws.{bits_length}

-- of a word that began with the values x₀ and has these bits
unfoldable pub changed_bits : ℕ → Word → List ℕ → ℕ
changed_bits n x₀ bits = distance (bits_of n x₀) bits

pub changed_is : (n : ℕ) (x₀ x : Word) (bits : List ℕ) → bits ≡ bits_of n x → changed_bits n x₀ bits ≡ changed_of n x₀ x
unfolding changed_bits changed_of
changed_is n x₀ x bits e = ap (distance (bits_of n x₀)) e

-- ---- the positions from `from` up to i are compared, and `count` of them differ
pub record Comparing (xs ys : List ℕ) (from i count : ℕ) : Type 0 where
  pub rest : count + distance (drop i xs) (drop i ys) ≡ distance (drop from xs) (drop from ys)
  pub few : from + count ≤ i

module _ (xs ys : List ℕ) where
  one_on : (i : ℕ) → i < length xs → i < length ys → distance (drop i xs) (drop i ys) ≡ (get_or xs i 0 + get_or ys i 0) % 2 + distance (drop (suc i) xs) (drop (suc i) ys)
  unfolding distance
  one_on i h g = ap₂ distance (drop-cons xs i 0 h) (drop-cons ys i 0 g)

  pub comparing_again : (from i count b : ℕ) → i < length xs → i < length ys → b ≡ (get_or xs i 0 + get_or ys i 0) % 2 → Comparing xs ys from i count
      → Comparing xs ys from (i + 1) (count + b)
  comparing_again from i count b h g e c =
      record {
        rest = omega (arith, c.rest, one_on i h g, e, ap (λ (k : ℕ). distance (drop k xs) (drop k ys)) (add-one i));
        few = omega (arith, c.few, e);
      }

  -- and those behind them
  pub comparing_on : {from i count more : ℕ} (i' k k' : ℕ) → i ≡ i' → k ≡ k' → Comparing xs ys from i count → Comparing xs ys i' k more → Comparing xs ys from k' (count + more)
  comparing_on i' k k' e f c d =
      record {
        rest = omega (arith, c.rest, d.rest, ap (λ (j : ℕ). distance (drop j xs) (drop j ys)) e, ap (λ (j : ℕ). distance (drop j xs) (drop j ys)) f);
        few = omega (arith, c.few, d.few, e, f);
      }

  pub comparing_end : (i count : ℕ) → length xs ≤ i → Comparing xs ys 0 i count → count ≡ distance xs ys
  unfolding distance
  comparing_end i count h c = omega (arith, c.rest, ap (λ (l : List ℕ). distance l (drop i ys)) (drop_of_length-le xs {i = i} h))

distance_le : (xs ys : List ℕ) → distance xs ys ≤ length xs
unfolding distance
distance_le [] ys = omega arith
distance_le (x ∷ xs) [] = omega arith
distance_le (x ∷ xs) (y ∷ ys) = omega (arith, distance_le xs ys)

module _ (n : ℕ) where
  -- at most n
  pub changed_le : (x₀ x : Word) → changed_of n x₀ x ≤ n
  unfolding changed_of
  changed_le x₀ x = omega (arith, distance_le (bits_of n x₀) (bits_of n x), bits_length n x₀)

  -- none without an iteration
  pub changed_none : (x : Word) → changed_of n x x ≡ 0
  unfolding changed_of
  changed_none x = distance_self (bits_of n x)
