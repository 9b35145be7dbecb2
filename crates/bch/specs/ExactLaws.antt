-- Decoding is exact, by itself and for every pattern of up to 12 errors; the minimum distance; a codeword is kept.
use Rattle.std.proofs.Math.Path.{◌≡◌, refl, sym, ap}
use Rattle.std.proofs.Common.{ap₂, ◌∙◌, arith}
use Rattle.std.proofs.Math.Logic.{ite, if_pos}
use Rattle.std.specs.Prelude.{List, [], ◌∷◌, ℕ, zero, suc, ◌+◌, ◌%◌, ◌≤◌, ◌<◌, length, Some, None}
use Rattle.std.proofs.Math.Decide.{ℕ_discrete, dec_le}
use Rattle.algebra.specs.Series.{pow}
use Rattle.algebra.specs.Register.{Shortest}
use Rattle.algebra.specs.Errors.{weight, weight_none, weight_same, weight_mono, min_distance}
use Rattle.algebra.specs.Gf.{El}
use Rattle.gf16.specs.Field16.{gf16, R16, α}
use Rattle.gf16.specs.Alpha.{α_nz, α_apart}
use Rattle.bch_remainder.specs.Word.{remainder_of, Codeword}
use Rattle.bch_remainder.specs.Laws.{remainder_codeword, codeword_remainder}
use Rattle.bch.specs.Distance.{distance, low_bits, high_bits}
use Rattle.bch.specs.Decode.{syndrome, flipped, flips, answer_by, left_by, register, answer_of, left_of}
use Rattle.bch.specs.Difference.{difference, weight_distance, syndrome_difference, codeword_syndrome}
use Rattle.bch.specs.Flips.{flipped_length, flipped_rest}
use Rattle.bch.specs.Within.{within_answer, within_bits}
use Rattle.bch.specs.Corrected.{corrected_codeword, corrected_distance}
use Rattle.bch.specs.Exact.{Near, Exact}

pub distance_self : (w : List ℕ) → distance w w ≡ 0
unfolding distance
distance_self [] = refl
distance_self (a ∷ w) =
    let z : (a + a) % 2 ≡ 0 = omega arith in
    ap₂ ◌+◌ z (distance_self w)

module _ (w : List ℕ) (size : length w ≤ 65535) where
  c : ℕ → El 15
  c = (register w).0

  l : ℕ
  l = (register w).1

  S : Shortest R16 (syndrome w) 24 c l
  unfolding c l
  S = (register w).2

  near_answer : (v : List ℕ) → Near w v → answer_by c l w ≡ Some (distance w v)
  near_answer v N = within_answer w v size N.same_length N.codeword N.within c l S

  near_bits : (v : List ℕ) → Near w v → low_bits (left_by c l w) ≡ low_bits v
  near_bits v N = within_bits w v size N.same_length N.codeword N.within c l S

  itself : Codeword w → Near w w
  itself C = record { same_length = refl; codeword = C; within = omega (arith, distance_self w) }

  -- a codeword would be answered 0 by its register as well
  by_register : answer_of w ≡ answer_by c l w
  unfolding answer_of c l
  by_register = pick (ℕ_discrete (remainder_of w) 0)
    where
      pick : (d : Dec (remainder_of w ≡ 0)) → ite d (Some 0) (answer_by c l w) ≡ answer_by c l w
      pick (yes z) = ap Some (sym (distance_self w)) ∙ sym (near_answer w (itself (remainder_codeword w z)))
      pick (no z) = refl

  bits_by_register : low_bits (left_of w) ≡ low_bits (left_by c l w)
  unfolding left_of c l
  bits_by_register = pick (ℕ_discrete (remainder_of w) 0)
    where
      pick : (d : Dec (remainder_of w ≡ 0)) → low_bits (ite d w (left_by c l w)) ≡ low_bits (left_by c l w)
      pick (yes z) = sym (near_bits w (itself (remainder_codeword w z)))
      pick (no z) = refl

  rest_by_register : high_bits (left_of w) ≡ high_bits w
  unfolding left_of left_by c l
  rest_by_register = pick (ℕ_discrete (remainder_of w) 0) (dec_le l 12) (ℕ_discrete (flips c l (length w)) l)
    where
      pick : (d : Dec (remainder_of w ≡ 0)) (e : Dec (l ≤ 12)) (f : Dec (flips c l (length w) ≡ l))
          → high_bits (ite d w (ite e (ite f (flipped c l w) w) w)) ≡ high_bits w
      pick (yes z) e f = refl
      pick (no z) (yes e) (yes f) = flipped_rest c l w
      pick (no z) (yes e) (no f) = refl
      pick (no z) (no e) f = refl

  -- uncorrectable: by a register that is too long, or that has too few present roots
  untouched_by_register : answer_of w ≡ None → left_of w ≡ w
  unfolding answer_of left_of answer_by left_by c l
  untouched_by_register = pick (ℕ_discrete (remainder_of w) 0) (dec_le l 12) (ℕ_discrete (flips c l (length w)) l)
    where
      pick : (d : Dec (remainder_of w ≡ 0)) (e : Dec (l ≤ 12)) (f : Dec (flips c l (length w) ≡ l))
          → ite d (Some 0) (ite e (ite f (Some l) None) None) ≡ None → ite d w (ite e (ite f (flipped c l w) w) w) ≡ w
      pick (yes z) e f q = refl
      pick (no z) (yes e) (yes f) q = let t : ◌≡◌ {A = ℕ} 0 1 = cc in absurd (omega arith)
      pick (no z) (yes e) (no f) q = refl
      pick (no z) (no e) f q = refl

  -- corrected: by a clean word, or by a register with all its roots
  counted : (k : ℕ) → answer_of w ≡ Some k → Near w (left_of w) × (distance w (left_of w) ≡ k)
  unfolding answer_of left_of answer_by left_by c l
  counted k = pick (ℕ_discrete (remainder_of w) 0) (dec_le l 12) (ℕ_discrete (flips c l (length w)) l)
    where
      pick : (d : Dec (remainder_of w ≡ 0)) (e : Dec (l ≤ 12)) (f : Dec (flips c l (length w) ≡ l))
          → ite d (Some 0) (ite e (ite f (Some l) None) None) ≡ Some k
          → Near w (ite d w (ite e (ite f (flipped c l w) w) w)) × (distance w (ite d w (ite e (ite f (flipped c l w) w) w)) ≡ k)
      pick (yes z) e f q = let t : 0 ≡ k = cc in (itself (remainder_codeword w z), distance_self w ∙ t)
      pick (no z) (yes e) (yes f) q =
          let t : l ≡ k = cc in
          let d = corrected_distance w size c l S e f in
          (record { same_length = flipped_length c l w; codeword = corrected_codeword w size c l S e f; within = omega (arith, d) }, d ∙ t)
      pick (no z) (yes e) (no f) q = let t : ◌≡◌ {A = ℕ} 0 1 = cc in absurd (omega arith)
      pick (no z) (no e) f q = let t : ◌≡◌ {A = ℕ} 0 1 = cc in absurd (omega arith)

  pub exact : Exact w (left_of w) (answer_of w)
  exact =
      record {
        exactly = (λ h. (left_of w, (counted h.0 h.1).0), λ h. (distance w h.0, by_register ∙ near_answer h.0 h.1));
        to_it = λ v N. (bits_by_register ∙ near_bits v N, by_register ∙ near_answer v N);
        count = counted;
        only = λ u v M N. sym (near_bits u M) ∙ near_bits v N;
        rest = rest_by_register;
        untouched = untouched_by_register;
      }

-- ---- by themselves: every pattern of up to 12 errors on a codeword is corrected
pub up_to_12 : (v w : List ℕ) → Codeword v → length v ≡ length w → length w ≤ 65535 → distance w v ≤ 12
    → (answer_of w ≡ Some (distance w v)) × (low_bits (left_of w) ≡ low_bits v)
up_to_12 v w C e size near =
    let t = (exact w size).to_it v (record { same_length = e; codeword = C; within = near }) in
    (t.1, t.0)

-- the minimum distance is at least 25: two codewords of one length that differ in at most 24 positions have the same bits
no_distance : (w v : List ℕ) → length v ≡ length w → distance w v ≡ 0 → low_bits w ≡ low_bits v
unfolding distance low_bits
no_distance [] [] e z = refl
no_distance [] (b ∷ v) e z = absurd (omega arith)
no_distance (a ∷ w) [] e z = absurd (omega arith)
no_distance (a ∷ w) (b ∷ v) e z =
    let d : a % 2 ≡ b % 2 = omega arith in
    let r : distance w v ≡ 0 = omega arith in
    ap₂ (λ (x : ℕ) (xs : List ℕ). x ∷ xs) d (no_distance w v (omega (arith, e)) r)

weight_zero : (n : ℕ) → weight gf16 n (λ _. R16.𝟘) ≡ 0
weight_zero zero = weight_none gf16 (λ _. R16.𝟘)
weight_zero (suc n) = weight_same gf16 n (λ _. R16.𝟘) refl ∙ weight_zero n

pub minimum_distance : (u v : List ℕ) → Codeword u → Codeword v → length v ≡ length u → length u ≤ 65535 → distance u v ≤ 24 → low_bits u ≡ low_bits v
minimum_distance u v C D e size near =
    no_distance u v e
    (sym (weight_distance u v e) ∙ none)
  where
    zero_at : (p : ℕ) → p < length u → difference u v p ≡ R16.𝟘
    zero_at =
        min_distance gf16 (length u) (pow R16 α) (λ p _. α_nz p) (α_apart (omega arith)) 1 24 (difference u v) (omega (arith, weight_distance u v e))
        (λ j h. sym (syndrome_difference u v j e D h) ∙ codeword_syndrome u j C h)

    none : weight gf16 (length u) (difference u v) ≡ 0
    none =
        let a = weight_mono gf16 (length u) (difference u v) (λ _. R16.𝟘) (λ p h ne. absurd (ne (zero_at p h))) in
        omega (arith, weight_zero (length u))

-- a codeword gives 0, and is unchanged
pub codeword_kept : (w : List ℕ) → Codeword w → (answer_of w ≡ Some 0) × (left_of w ≡ w)
unfolding answer_of left_of
codeword_kept w C =
    let z = codeword_remainder w C in
    (if_pos (ℕ_discrete (remainder_of w) 0) z (Some 0) _, if_pos (ℕ_discrete (remainder_of w) 0) z w _)
