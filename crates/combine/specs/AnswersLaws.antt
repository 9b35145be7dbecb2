-- What each test of the code shows of the refusal.
use Rattle.std.specs.Prelude.{◌≡◌, ◌≢◌, refl, true, false, not, List, [], ◌∷◌, ℕ, ◌*◌, ◌<◌, ◌≤◌, length, eqb, sum}
use Rattle.std.proofs.Common.{◌∙◌, arith, eq-eqb, ne_eqb, lt-ltb, le-ltb, eqb-true}
use Rattle.std.proofs.lemmas.Bool.{not-false}
use Rattle.std.proofs.lemmas.List.Sums.{sum_by-cons}
use Rattle.laws.specs.Choice.{or_left, or_right}
use Rattle.combine.specs.Answers.{first, any_other, bad_lengths, combine_refusal}

-- equal lengths add up to their product
equal_sum : (n : ℕ) (lengths : List ℕ) → any_other n lengths ≡ false → sum lengths ≡ length lengths * n
unfolding any_other
equal_sum n [] e = omega arith
equal_sum n (l ∷ lengths) e =
    let same : l ≡ n = eqb-true l n (not-false (eqb l n) (or_left (not (eqb l n)) (any_other n lengths) e)) in
    let rest = equal_sum n lengths (or_right (not (eqb l n)) (any_other n lengths) e) in
    sum_by-cons (λ k. k) l lengths ∙ omega arith

-- each test in turn, and that the rest is good
module _ (lengths : List ℕ) (size room : ℕ) where
  bad : bad_lengths lengths size ≡ true → combine_refusal lengths size room ≡ 15
  unfolding combine_refusal
  bad e = rw e refl

  pub none : length lengths ≡ 0 → combine_refusal lengths size room ≡ 15
  unfolding bad_lengths
  none e = bad (rw (eq-eqb (length lengths) 0 e) refl)

  module _ (some : length lengths ≢ 0) where
    pub many : 8 < length lengths → combine_refusal lengths size room ≡ 15
    unfolding bad_lengths
    many h = bad (rw (ne_eqb (length lengths) 0 some, lt-ltb 8 (length lengths) h) refl)

    module _ (few : length lengths ≤ 8) where
      pub differ : any_other (first lengths) lengths ≡ true → combine_refusal lengths size room ≡ 15
      unfolding bad_lengths
      differ e = bad (rw (ne_eqb (length lengths) 0 some, le-ltb 8 (length lengths) few, e) refl)

      module _ (equal : any_other (first lengths) lengths ≡ false) where
        total : sum lengths ≡ length lengths * first lengths
        total = equal_sum (first lengths) lengths equal

        pub other_size : length lengths * first lengths ≢ size → combine_refusal lengths size room ≡ 15
        unfolding bad_lengths
        other_size ne =
            bad (rw (ne_eqb (length lengths) 0 some, le-ltb 8 (length lengths) few, equal, total, ne_eqb (length lengths * first lengths) size ne) refl)

        module _ (whole : length lengths * first lengths ≡ size) where
          good : bad_lengths lengths size ≡ false
          unfolding bad_lengths
          good = rw (ne_eqb (length lengths) 0 some, le-ltb 8 (length lengths) few, equal, total, eq-eqb (length lengths * first lengths) size whole) refl

          pub short : room < first lengths → combine_refusal lengths size room ≡ 13
          unfolding combine_refusal
          short h = rw (good, lt-ltb room (first lengths) h) refl

          pub fair : first lengths ≤ room → combine_refusal lengths size room ≡ 0
          unfolding combine_refusal
          fair h = rw (good, le-ltb room (first lengths) h) refl
