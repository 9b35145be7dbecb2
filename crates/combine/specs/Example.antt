-- Small inputs, computed: which number refuses them, and what the output holds.
use Rattle.std.specs.Prelude.{◌≡◌, refl, [], ◌∷◌, replicate, pos, negsuc}
use Rattle.combine.specs.Combined.{sum_at, combined}
use Rattle.combine.specs.Answers.{any_other, bad_lengths, combine_refusal, output_of}

-- lengths, the slice's length, the output's length
pub record Refusals : Type 0 where
  pub no_word : combine_refusal [] 0 0 ≡ 15
  pub nine : combine_refusal (replicate 9 0) 0 0 ≡ 15
  pub eight : combine_refusal (replicate 8 0) 0 0 ≡ 0
  pub second_more : combine_refusal (0 ∷ 1 ∷ []) 1 9 ≡ 15
  pub second_less : combine_refusal (1 ∷ 0 ∷ []) 1 9 ≡ 15
  pub second_longer : combine_refusal (1 ∷ 2 ∷ []) 3 9 ≡ 15
  pub second_shorter : combine_refusal (2 ∷ 1 ∷ []) 3 9 ≡ 15
  pub three_times_first : combine_refusal (2 ∷ 1 ∷ 3 ∷ []) 6 9 ≡ 15
  pub slice_less : combine_refusal (1 ∷ []) 0 9 ≡ 15
  pub slice_more : combine_refusal (0 ∷ []) 1 9 ≡ 15
  pub slice_shorter : combine_refusal (2 ∷ 2 ∷ []) 3 9 ≡ 15
  pub slice_longer : combine_refusal (2 ∷ 2 ∷ []) 5 9 ≡ 15
  -- eight times 2^29 is 2^32, which is not 0
  pub no_wrapping : combine_refusal (replicate 8 536870912) 0 536870912 ≡ 15
  pub before_13 : combine_refusal (2 ∷ []) 3 1 ≡ 15
  pub output_none : combine_refusal (1 ∷ []) 1 0 ≡ 13
  pub output_short : combine_refusal (2 ∷ 2 ∷ []) 4 1 ≡ 13
  pub output_exact : combine_refusal (2 ∷ 2 ∷ []) 4 2 ≡ 0

pub refusals : Refusals
unfolding any_other bad_lengths combine_refusal
refusals =
    record {
      no_word = refl;
      nine = refl;
      eight = refl;
      second_more = refl;
      second_less = refl;
      second_longer = refl;
      second_shorter = refl;
      three_times_first = refl;
      slice_less = refl;
      slice_more = refl;
      slice_shorter = refl;
      slice_longer = refl;
      no_wrapping = refl;
      before_13 = refl;
      output_none = refl;
      output_short = refl;
      output_exact = refl;
    }

pub record Outputs : Type 0 where
  -- 100 and 100, -128 and 5, 0 and -100; two values of the output stay
  pub two : output_of (3 ∷ 3 ∷ []) (pos 100 ∷ negsuc 127 ∷ pos 0 ∷ pos 100 ∷ pos 5 ∷ negsuc 99 ∷ []) (pos 1 ∷ pos 2 ∷ pos 3 ∷ pos 4 ∷ negsuc 127 ∷ [])
      ≡ pos 127 ∷ negsuc 122 ∷ negsuc 99 ∷ pos 4 ∷ negsuc 127 ∷ []
  -- one word
  pub one : output_of (4 ∷ []) (negsuc 127 ∷ negsuc 126 ∷ pos 0 ∷ pos 127 ∷ []) (replicate 4 (pos 9)) ≡ negsuc 126 ∷ negsuc 126 ∷ pos 0 ∷ pos 127 ∷ []
  -- the greatest sums, and a sum of 0 of them
  pub eight : output_of (replicate 8 1) (replicate 8 (negsuc 127)) (pos 0 ∷ []) ≡ negsuc 126 ∷ []
  pub cancelled : output_of (replicate 4 1) (pos 127 ∷ pos 127 ∷ negsuc 126 ∷ negsuc 126 ∷ []) (pos 9 ∷ []) ≡ pos 0 ∷ []
  -- no values, and a refused call
  pub empty : output_of (0 ∷ 0 ∷ []) [] (pos 9 ∷ []) ≡ pos 9 ∷ []
  pub refused : output_of (2 ∷ 1 ∷ []) (pos 1 ∷ pos 1 ∷ pos 1 ∷ []) (pos 9 ∷ pos 9 ∷ []) ≡ pos 9 ∷ pos 9 ∷ []

pub outputs : Outputs
unfolding any_other bad_lengths combine_refusal combined sum_at
outputs = record { two = refl; one = refl; eight = refl; cancelled = refl; empty = refl; refused = refl }
