-- A word within 12 bits of a codeword is corrected to that codeword: every pattern of up to 12 errors.
use Rattle.std.specs.Prelude.{◌≡◌, ◌≢◌, List, ℕ, ◌+◌, ◌≤◌, ◌<◌, length, Some}
use Rattle.std.proofs.Common.{sym, ◌∙◌, arith}
use Rattle.std.proofs.Math.Path.{ap}
use Rattle.std.proofs.Math.Logic.{if_pos}
use Rattle.std.proofs.Math.Decide.{ℕ_discrete, dec_le}
use Rattle.algebra.specs.Series.{pow}
use Rattle.algebra.specs.Roots.{Distinct}
use Rattle.algebra.specs.Register.{Shortest}
use Rattle.algebra.specs.Errors.{weight, Syndromes}
use Rattle.algebra.specs.Corrects.{Found, found_count}
use Rattle.algebra.proofs.Found.{found}
use Rattle.algebra.specs.Gf.{El}
use Rattle.gf16.specs.Field16.{gf16, R16, α, value_at}
use Rattle.gf16.specs.Alpha.{α_nz, α_apart}
use Rattle.bch_remainder.specs.Word.{Codeword}
use Rattle.bch.specs.Distance.{distance, low_bits}
use Rattle.bch.specs.Decode.{syndrome, flipped, flips, answer_by, left_by}
use Rattle.bch.specs.Difference.{difference, weight_distance, syndrome_difference}
use Rattle.bch.specs.Flips.{flipped_bits}

module _ (w v : List ℕ) (size : length w ≤ 65535) (same : length v ≡ length w) (code : Codeword v) (near : distance w v ≤ 12)
    (c : ℕ → El 15) (l : ℕ) (S : Shortest R16 (syndrome w) 24 c l) where
  ε : ℕ → El 15
  ε = difference w v

  syndromes : Syndromes gf16 (length w) (pow R16 α) 1 24 ε (syndrome w)
  unfolding ε
  syndromes j h = syndrome_difference w v j same code h

  distinct : Distinct (length w) (pow R16 α)
  distinct = α_apart size

  light : weight gf16 (length w) ε ≡ distance w v
  unfolding ε
  light = weight_distance w v same

  enough : weight gf16 (length w) ε + weight gf16 (length w) ε ≤ 24
  enough = omega (arith, light)

  it : Found gf16 (length w) (pow R16 α) 1 24 (syndrome w) c l ε
  it = found gf16 (length w) (pow R16 α) (λ p _. α_nz p) distinct 1 24 (syndrome w) c l S ε syndromes enough

  hit : (p : ℕ) → p < length w → value_at c l p ≡ R16.𝟘 → ε p ≢ R16.𝟘
  hit = it.right

  miss : (p : ℕ) → p < length w → value_at c l p ≢ R16.𝟘 → ε p ≡ R16.𝟘
  miss p h z = pick (gf16.dec (ε p) R16.𝟘)
    where
      pick : Dec (ε p ≡ R16.𝟘) → ε p ≡ R16.𝟘
      pick (yes e) = e
      pick (no ne) = absurd (z (it.wrong p h ne))

  length_is : l ≡ distance w v
  length_is = sym it.count ∙ light

  short : l ≤ 12
  short = omega (arith, length_is)

  flips_are : flips c l (length w) ≡ l
  unfolding flips
  flips_are = found_count gf16 (length w) (pow R16 α) (λ p _. α_nz p) distinct 1 24 (syndrome w) c l S ε it

  pub within_answer : answer_by c l w ≡ Some (distance w v)
  unfolding answer_by
  within_answer = if_pos (dec_le l 12) short _ _ ∙ if_pos (ℕ_discrete (flips c l (length w)) l) flips_are _ _ ∙ ap Some length_is

  pub within_bits : low_bits (left_by c l w) ≡ low_bits v
  unfolding left_by ε
  within_bits =
      ap low_bits (if_pos (dec_le l 12) short _ w ∙ if_pos (ℕ_discrete (flips c l (length w)) l) flips_are (flipped c l w) w)
      ∙ flipped_bits c l w v same hit miss
