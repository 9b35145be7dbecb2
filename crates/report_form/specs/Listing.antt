-- The scope's listing: its description is within the limits, and its text is the listing's input.
use Rattle.std.specs.Prelude.{◌≡◌, refl, [], ◌∷◌, pos, negsuc}
use Rattle.std.proofs.Common.{arith}
use Rattle.laws.specs.Definitions.{decimal, digits, signed}
use Rattle.report_form.specs.Description.{Description, sequential, Within, render}

abbrev pub listing : Description
listing =
    record {
      n = 748;
      rows = (0 ∷ []) ∷ [];
      settings = record { lanes = 1; iteration_limit = 0; offset = pos 0; schedule = sequential; round_limit = 10; part_first = 0; part_length = 374 };
      words = record { default = pos 1; pairs = [] } ∷ record { default = pos 1; pairs = record { position = 0; value = negsuc 0 } ∷ [] } ∷ [];
    }

pub listing_within : Within listing
listing_within =
    record {
      n = omega arith;
      rows = (record { addresses = (omega arith, tt); few = omega arith }, tt);
      three = omega arith;
      settings = record { lanes = omega arith; iteration_limit = omega arith; offset = omega arith; schedule = tt; round_limit = omega arith; part_first = omega arith; part_length = omega arith };
      words = (
        record { default = omega arith; pairs = tt; few = omega arith },
        (record { default = omega arith; pairs = (omega arith, omega arith, omega arith, tt); few = omega arith }, tt),
      );
      sixteen = omega arith;
    }

-- N→748, R→0, P→1→0→0→S→10→0→374, W→1 and W→1→0→-1, each with its newline
pub listing_text : render listing ≡ 78 ∷ 9 ∷ 55 ∷ 52 ∷ 56 ∷ 10 ∷ 82 ∷ 9 ∷ 48 ∷ 10 ∷ 80 ∷ 9 ∷ 49 ∷ 9 ∷ 48 ∷ 9 ∷ 48 ∷ 9 ∷ 83 ∷ 9 ∷ 49 ∷ 48 ∷ 9 ∷ 48 ∷ 9 ∷ 51 ∷ 55 ∷ 52 ∷ 10 ∷ 87 ∷ 9 ∷ 49 ∷ 10 ∷ 87 ∷ 9 ∷ 49 ∷ 9 ∷ 48 ∷ 9 ∷ 45 ∷ 49 ∷ 10 ∷ []
unfolding render decimal digits signed
listing_text = refl
