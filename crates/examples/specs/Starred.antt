-- The scope's starred bench examples, in the scope's order and words, as one theorem about the definitions that the contracts cite.
use Rattle.std.specs.Prelude.{◌≡◌, refl, List, [], ◌∷◌, ℕ, pos, negsuc, length, replicate, Some, Ok, Err}
use Rattle.std.proofs.Common.{sym}
use Rattle.laws.specs.Definitions.{put}
use Rattle.algebra.specs.Series.{pow}
use Rattle.gf16.specs.Field16.{R16, α}
use Rattle.ldpc_shape.specs.Shape.{k_of, p_of, q_of, e_of, rows_of, total, any_over, count_mod, counts_mod, bad_length, code_refusal}
use Rattle.ldpc_edges.specs.Code.{met, of_bits, of_rows, meets, only, stairs, check, flip, flips, sums, parity}
use Rattle.ldpc_edges.specs.Modulo.{mods}
use Rattle.ldpc_edges.proofs.Modulo.{check_mods, parity_mods}
use Rattle.refusal.specs.declared.Refusal.TheVariants as refusal
use Rattle.ldpc.specs.Answers.{or_else, short_of, new_refusal, new_answer}
use Rattle.iteration.specs.Value.{magnitude}
use Rattle.iteration.specs.Check.{min1, min2, first, others, message, wrote, t_of, new_r, new_l}
use Rattle.iteration.specs.Iteration.{gather, settle, nothing}
use Rattle.bch.specs.Distance.{low_bits}
use Rattle.bch.specs.Answers.{decoded_of, word_out}
use Rattle.examples.specs.Inputs.{row0, fresh, checked, three, one, zeros, first_set}
use Rattle.examples.specs.Bch.{alpha, corrected, left, too_short}

pub record Starred : Type 0 where
  -- "* n 748, row {0}: check 0 is 0, 374; check 5 is 5, 378, 379; E 1,121."
  pub check_0 : check 748 (1 ∷ []) row0 0 ≡ 0 ∷ 374 ∷ []
  pub check_5 : check 748 (1 ∷ []) row0 5 ≡ 5 ∷ 378 ∷ 379 ∷ []
  pub edges_748 : e_of 748 (1 ∷ []) row0 ≡ 1121
  -- "* There, only bit 0 set: parity all ones. Address 374 acts as 0."
  pub parity_ones : parity 748 (1 ∷ []) row0 (1 ∷ replicate 373 0) ≡ replicate 374 1
  pub checks_as_0 : (c : ℕ) → check 748 (1 ∷ []) (374 ∷ []) c ≡ check 748 (1 ∷ []) row0 c
  pub parity_as_0 : (info : List ℕ) → parity 748 (1 ∷ []) (374 ∷ []) info ≡ parity 748 (1 ∷ []) row0 info
  -- "* n 374: no rows accepted, E 747; one row gives 3."
  pub rows_none : new_answer 374 [] [] 1122 ≡ Ok (record { n = 374; k = 0; p = 374; q = 1; e = 747 })
  pub rows_one : (l : ℕ) (addrs : List ℕ) (size : ℕ) → new_answer 374 (l ∷ []) addrs size ≡ Err refusal.Rows
  -- "* n 44,880 accepted without rows; 45,254 and 0 give 2.", whatever the rows
  pub long_44880 : new_answer 44880 [] [] 134640 ≡ Ok (record { n = 44880; k = 0; p = 44880; q = 120; e = 89759 })
  pub long_45254 : (lens addrs : List ℕ) (size : ℕ) → new_answer 45254 lens addrs size ≡ Err refusal.N
  pub long_0 : (lens addrs : List ℕ) (size : ℕ) → new_answer 0 lens addrs size ≡ Err refusal.N
  -- "* Zero messages, L 3, 5, −2, offset 1: messages −1, −1, 2; L 2, 4, 0."
  pub three_messages : three.r 0 ∷ three.r 1 ∷ three.r 2 ∷ [] ≡ negsuc 0 ∷ negsuc 0 ∷ pos 2 ∷ []
  pub three_values : three.L 0 ∷ three.L 1 ∷ three.L 2 ∷ [] ≡ pos 2 ∷ pos 4 ∷ pos 0 ∷ []
  -- "* One edge, L −4, offset 1: message 126, L 122."
  pub one_message : one.r 0 ≡ pos 126
  pub one_value : one.L 0 ≡ pos 122
  -- "* L −128, message 127: t −128, magnitude 127."
  pub least_t : t_of (λ e. e) 0 (λ v. negsuc 127) (λ e. pos 127) 0 ≡ negsuc 127
  pub least_magnitude : magnitude (negsuc 127) ≡ 127
  -- "* t₁ 100, r₁ 20, later 10 from −5: 127."
  pub delta : settle (gather (pos 0) (pos 10) (negsuc 4) (gather (pos 100) (pos 20) (pos 0) nothing)) (pos 0) ≡ pos 127
  -- "* α^16 is 100B hexadecimal."
  pub alpha_16 : (pow R16 α 16).0 ≡ 0x100B
  -- "* 193 zero bits but the first: corrected, 1. 192 bits: 11."; the bits that are left are zeros
  pub first_bit : decoded_of first_set ≡ Ok (Some 1)
  pub first_left : low_bits (word_out first_set) ≡ zeros 193
  pub short : (w : List ℕ) → length w ≡ 192 → decoded_of w ≡ Err refusal.Bch

pub starred : Starred
unfolding check only meets of_rows of_bits met stairs k_of p_of q_of rows_of e_of code_refusal bad_length any_over counts_mod count_mod total parity sums flips flip mods new_answer new_refusal or_else short_of min1 min2 first others message put wrote t_of new_r new_l fresh checked three one
starred =
    record {
      check_0 = refl;
      check_5 = refl;
      edges_748 = refl;
      parity_ones = refl;
      checks_as_0 = λ c. sym (check_mods 748 (1 ∷ []) (374 ∷ []) c);
      parity_as_0 = λ info. sym (parity_mods 748 (1 ∷ []) (374 ∷ []) info);
      rows_none = refl;
      rows_one = λ l addrs size. refl;
      long_44880 = refl;
      long_45254 = λ lens addrs size. refl;
      long_0 = λ lens addrs size. refl;
      three_messages = refl;
      three_values = refl;
      one_message = refl;
      one_value = refl;
      least_t = refl;
      least_magnitude = refl;
      delta = refl;
      alpha_16 = alpha;
      first_bit = corrected;
      first_left = left;
      short = too_short;
    }
