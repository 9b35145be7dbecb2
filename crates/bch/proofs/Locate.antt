-- The register and the places that the code finds are those of the definition.
use Rattle.std.proofs.Common.{◌≡◌, ◌≢◌, sym, ap, ◌∙◌, List, ℕ, ◌+◌, ◌≤◌, ◌<◌, arith, length, get_or, Option, Some, None}
use Rattle.std.proofs.Math.Logic.{ite, if_pos, if_neg}
use Rattle.std.proofs.Math.Decide.{ℕ_discrete, dec_le}
use Rattle.algebra.specs.Series.{pow, ev}
use Rattle.algebra.specs.Massey.{gen_ext, shortest_ext}
use Rattle.algebra.specs.Register.{Shortest}
use Rattle.algebra.specs.Gf.{El}
use Rattle.gf16.specs.Field16.{R16, α}
use Rattle.gf16.specs.Roots16.{by_remainder}
use Rattle.bch_remainder.specs.Word.{number, remainder_of}
use Rattle.bch_remainder.specs.Laws.{number_lt}
use Rattle.bch_locator.specs.Element.{poly}
use Rattle.bch_locator.specs.Register.{RegisterOf}
use Rattle.bch_locator.specs.Places.{PlacesOf}
use Rattle.bch.specs.Decode.{syndrome, flipped, flips, answer_by, left_by, Located}
use Rattle.bch.specs.DecodeLaws.{located_by}
use Rattle.bch.specs.Places.{flip_all}
use Rattle.bch.proofs.FlipLoop.{flip_all_flipped}

-- the syndromes of a remainder are the word's
pub of_remainder : (w : List ℕ) (v j : ℕ) → v ≡ remainder_of w → j < 24 → ev R16 192 v (pow R16 α (j + 1)) ≡ syndrome w j
unfolding syndrome remainder_of
of_remainder w v j e h = ap (λ (r : ℕ). ev R16 192 r (pow R16 α (j + 1))) e ∙ sym (by_remainder (length w) (number w) j (number_lt w) h)

module _ (w s c : List ℕ) (l : ℕ) (syn : (j : ℕ) → j < 24 → poly s j ≡ syndrome w j) (R : RegisterOf s c l) where
  -- every register is of length over 12: uncorrectable
  pub too_long : 12 < l → Located w w None
  unfolding answer_by left_by
  too_long h =
      record {
        answer = λ c' l' S. sym (if_neg (dec_le l' 12) (long c' l' S) _ None);
        word = λ c' l' S. sym (if_neg (dec_le l' 12) (long c' l' S) _ w);
      }
    where
      long : (c' : ℕ → El 15) (l' : ℕ) → Shortest R16 (syndrome w) 24 c' l' → l' ≤ 12 → ⊥
      long c' l' S g =
          let t = R.short c' l' (gen_ext R16 (syndrome w) (poly s) 24 c' l' (λ j h. sym (syn j h)) S.gen) in
          omega arith

  module _ (fit : l ≤ 12) (at : List ℕ) (P : PlacesOf at c l (length w)) where
    -- the register that was found is a shortest one: what it answers and leaves is so by every one
    found : (r : Option ℕ) (w' : List ℕ) → r ≡ ite (ℕ_discrete (flips (poly c) l (length w)) l) (Some l) None
        → w' ≡ ite (ℕ_discrete (flips (poly c) l (length w)) l) (flipped (poly c) l w) w → Located w w' r
    unfolding answer_by left_by
    found r w' e f =
        located_by w w' r (poly c) l (shortest_ext R16 (poly s) (syndrome w) 24 (poly c) l syn (record { gen = R.gen fit; short = R.short }))
        (e ∙ sym (if_pos (dec_le l 12) fit _ None)) (f ∙ sym (if_pos (dec_le l 12) fit _ w))

    counted : flips (poly c) l (length w) ≡ length at
    unfolding flips
    counted = sym P.many

    flipped_all : flip_all w (λ i. get_or at i 0) (length at) ≡ flipped (poly c) l w
    flipped_all =
        flip_all_flipped (poly c) l w (λ i. get_or at i 0) (length at) P.inside (λ i j a b e. let t = P.in_order i j a b in omega arith) P.root P.all

    -- as many present roots as the register is long: corrected
    pub all_found : length at ≡ l → Located w (flip_all w (λ i. get_or at i 0) (length at)) (Some l)
    all_found e =
        found (Some l) _ (sym (if_pos (ℕ_discrete (flips (poly c) l (length w)) l) (counted ∙ e) (Some l) None))
        (flipped_all ∙ sym (if_pos (ℕ_discrete (flips (poly c) l (length w)) l) (counted ∙ e) (flipped (poly c) l w) w))

    -- fewer: uncorrectable
    pub some_missing : length at ≢ l → Located w w None
    some_missing ne =
        found None w (sym (if_neg (ℕ_discrete (flips (poly c) l (length w)) l) (λ e. ne (sym counted ∙ e)) (Some l) None))
        (sym (if_neg (ℕ_discrete (flips (poly c) l (length w)) l) (λ e. ne (sym counted ∙ e)) (flipped (poly c) l w) w))
