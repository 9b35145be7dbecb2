-- docs/DIFFERENCES.md as far as it speaks of refusals: what the Rust panics on, or accepts, and Raxdov refuses, each at its smallest input, with its
-- accepted neighbour where the scope draws a line there. One theorem about the definitions that the contracts cite.
use Rattle.std.specs.Prelude.{◌≡◌, refl, [], ◌∷◌, ℕ, pos, replicate}
use Rattle.std.proofs.Math.Decide.{dec_lt}
use Rattle.std.specs.Float.{nan}
use Rattle.ldpc_shape.specs.Shape.{k_of, p_of, q_of, e_of, rows_of, total, any_over, count_mod, counts_mod, bad_length, code_refusal}
use Rattle.ldpc_edges.specs.Code.{of_rows, meets, only, stairs, check}
use Rattle.ldpc.specs.Answers.{or_else, other_of, beyond_of, short_of, new_refusal, check_refusal, parity_refusal, encode_refusal, weight_refusal}
use Rattle.quantise.specs.Soft.{quantise_refusal}
use Rattle.bch.specs.Answers.{word_refusal, message_refusal}
use Rattle.decoder_plan.specs.declared.Schedule.{Schedule}
use Rattle.decoder_plan.specs.declared.Schedule.TheVariants.{Sequential, Layered}
use Rattle.decoder_refuse.specs.Refusal as run

-- a run of the code n 374 without rows, and slices that are long enough for it: BCH part of 193 bits from 0
abbrev run_of : (lanes limit : ℕ) → Schedule → (soft out : ℕ) → ℕ
run_of lanes limit schedule soft out =
    run.first_refusal 374 [] []
    (record {
      lanes = lanes;
      limits = record { iterations = limit; rounds = 0 };
      schedule = schedule;
      offset = pos 0;
      part = record { first = 0; length = 193 };
    })
    (record { soft = soft; room = 4097; out = out; work = 200000; lists = 2000 })

pub record Differences : Type 0 where
  -- `Code::new` panics
  pub length_0 : code_refusal 0 [] [] ≡ 2
  pub length_375 : code_refusal 375 [] [] ≡ 2
  pub row_at_374 : code_refusal 374 (0 ∷ []) [] ≡ 3
  -- `Code::new` accepts
  pub length_45254 : code_refusal 45254 [] [] ≡ 2
  pub row_of_129 : code_refusal 748 (129 ∷ []) (replicate 129 0) ≡ 4
  pub equal_127 : code_refusal 748 (127 ∷ []) (replicate 127 0) ≡ 6
  pub equal_126 : code_refusal 748 (126 ∷ []) (replicate 126 0) ≡ 0
  -- `check`, `parity`, `encode`, `syndrome_weight` panic
  pub check_p : check_refusal 374 [] [] 374 2 ≡ 12
  pub parity_short : parity_refusal 748 (0 ∷ []) [] 373 374 ≡ 12
  pub encode_short : encode_refusal 748 (0 ∷ []) [] 373 748 ≡ 12
  pub hard_short : weight_refusal 374 [] [] 373 ≡ 12
  -- `syndrome_weight` accepts
  pub hard_long : weight_refusal 374 [] [] 375 ≡ 12
  -- `bch::decode` panics
  pub word_192 : word_refusal 192 ≡ 11
  pub word_193 : word_refusal 193 ≡ 0
  pub word_65535 : word_refusal 65535 ≡ 0
  pub word_65536 : word_refusal 65536 ≡ 11
  -- `bch::parity` and `bch::encode` accept
  pub message_65343 : message_refusal 65343 192 192 ≡ 0
  pub message_65344 : message_refusal 65344 192 192 ≡ 11
  -- `decode_all` panics
  pub soft_short : run_of 1 1 Sequential 373 374 ≡ 8
  pub step_0 : run_of 1 1 (Layered 0) 374 374 ≡ 10
  -- `decode_all` accepts, or has it as a constant
  pub lanes_0 : run_of 0 1 Sequential 0 0 ≡ 7
  pub lanes_65 : run_of 65 1 Sequential 374 374 ≡ 7
  pub words_4097 : run_of 1 1 Sequential 1532278 1532278 ≡ 8
  pub limit_65536 : run_of 1 65536 Sequential 374 374 ≡ 9
  -- the Rust has its rows as lists, so that there are no lengths beside them
  pub rows_apart : code_refusal 748 (1 ∷ []) [] ≡ 5
  -- the Rust allocates
  pub lists_short : new_refusal 374 [] [] 1121 ≡ 13
  pub bits_short : check_refusal 374 [] [] 1 1 ≡ 13
  pub parity_out : parity_refusal 374 [] [] 0 373 ≡ 13
  pub encode_out : encode_refusal 374 [] [] 0 373 ≡ 13
  pub soft_out : quantise_refusal (nan ∷ []) [] ≡ 13
  pub bch_parity_out : message_refusal 0 192 191 ≡ 13
  pub bch_encode_out : message_refusal 1 193 192 ≡ 13
  pub output_short : run_of 1 1 Sequential 374 373 ≡ 13
  pub run_accepted : run_of 1 65535 Sequential 374 374 ≡ 0

pub differences : Differences
unfolding check meets only of_rows stairs rows_of new_refusal code_refusal bad_length any_over total counts_mod count_mod k_of p_of q_of e_of run.first_refusal run.first_of run.bad_lanes run.bad_words run.bad_limit run.bad_part run.too_short run.out_need run.work_need run.lists_need check_refusal parity_refusal encode_refusal weight_refusal or_else other_of beyond_of short_of word_refusal message_refusal dec_lt
differences =
    record {
      length_0 = refl;
      length_375 = refl;
      row_at_374 = refl;
      length_45254 = refl;
      row_of_129 = refl;
      equal_127 = refl;
      equal_126 = refl;
      check_p = refl;
      parity_short = refl;
      encode_short = refl;
      hard_short = refl;
      hard_long = refl;
      word_192 = refl;
      word_193 = refl;
      word_65535 = refl;
      word_65536 = refl;
      message_65343 = refl;
      message_65344 = refl;
      soft_short = refl;
      step_0 = refl;
      lanes_0 = refl;
      lanes_65 = refl;
      words_4097 = refl;
      limit_65536 = refl;
      rows_apart = refl;
      lists_short = refl;
      bits_short = refl;
      parity_out = refl;
      encode_out = refl;
      soft_out = refl;
      bch_parity_out = refl;
      bch_encode_out = refl;
      output_short = refl;
      run_accepted = refl;
    }
