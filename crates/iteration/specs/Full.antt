-- A run of ONE word with its scratch rows, in which variables can have several edges: the t and the old messages of its edges stand one check
-- after the other from row 0 of their part on, over what earlier runs left there. Shared variables have other edges in the run.
use Rattle.std.specs.Prelude.{Bool, cond, ℕ, zero, suc, ◌+◌, ℤ, ◌+ℤ◌}
use Rattle.laws.specs.Definitions.{put}
use Rattle.iteration.specs.Value.{sat_z}
use Rattle.iteration.specs.Check.{Word, message, wrote, t_of, new_r}
use Rattle.iteration.specs.Iteration.{Code, degree, gather_run, settle, run_of, run_r}

pub record Full : Type 0 where
  pub word : Word
  pub t : ℕ → ℤ
  pub old : ℕ → ℤ

-- how many edges the first i checks of a run have
unfoldable pub place_of : Code → (ℕ → ℕ) → ℕ → ℕ
place_of code c zero = 0
place_of code c (suc i) = place_of code c i + degree code (c i)

-- x i k of edge k of check i, for the first i checks
unfoldable pub laid_out : Code → (ℕ → ℕ) → (ℕ → ℕ → ℤ) → (ℕ → ℤ) → ℕ → ℕ → ℤ
laid_out code c x f zero = f
laid_out code c x f (suc i) = wrote (λ k. place_of code c i + k) (x i) (laid_out code c x f i) (degree code (c i))

-- t and the message before it, of edge k of check i
abbrev pub t_sent : ℤ → Code → (ℕ → ℕ) → Word → ℕ → ℕ → ℤ
t_sent o code c w i = t_of code.rows (code.row_start (c i)) w.L (run_r o code c w.L w.r i)

abbrev pub old_sent : ℤ → Code → (ℕ → ℕ) → Word → ℕ → ℕ → ℤ
old_sent o code c w i k = run_r o code c w.L w.r i (code.row_start (c i) + k)

-- a run's m checks, but for the values of shared variables
abbrev pub part_full : ℤ → Code → (ℕ → ℕ) → (ℕ → Bool) → ℕ → Full → Full
part_full o code c sh m f =
    record {
      word =
          record {
            L = λ u. cond (sh u) (f.word.L u) (settle (gather_run (run_of o code c m f.word) code c u m) (f.word.L u));
            r = run_r o code c f.word.L f.word.r m;
          };
      t = laid_out code c (t_sent o code c f.word) f.t m;
      old = laid_out code c (old_sent o code c f.word) f.old m;
    }

-- ---- check after check: f with x at u, unless b
abbrev pub put_unless : Bool → (ℕ → ℤ) → ℕ → ℤ → ℕ → ℤ
put_unless b f u x = cond b f (put f u x)

-- after n such writes in order, but of shared variables
unfoldable pub wrote_unless : (ℕ → Bool) → (ℕ → ℕ) → (ℕ → ℤ) → (ℕ → ℤ) → ℕ → ℕ → ℤ
wrote_unless sh u x f zero = f
wrote_unless sh u x f (suc n) = put_unless (sh (u n)) (wrote_unless sh u x f n) (u n) (x n)

-- a check of one word that leaves shared variables' values
abbrev pub check_unless : (ℕ → Bool) → ℤ → (ℕ → ℕ) → ℕ → ℕ → Word → Word
check_unless sh o v s d w =
    record {
      L = wrote_unless sh (λ k. v (s + k)) (λ k. sat_z (t_of v s w.L w.r k +ℤ message o (t_of v s w.L w.r) d k)) w.L d;
      r = new_r o v s d w.L w.r;
    }

-- one check more
abbrev pub part_check : (ℕ → Bool) → ℤ → Code → (ℕ → ℕ) → ℕ → Full → Full
part_check sh o code c x g =
    record {
      word = check_unless sh o code.rows (code.row_start (c x)) (degree code (c x)) g.word;
      t = wrote (λ k. place_of code c x + k) (t_of code.rows (code.row_start (c x)) g.word.L g.word.r) g.t (degree code (c x));
      old = wrote (λ k. place_of code c x + k) (λ k. g.word.r (code.row_start (c x) + k)) g.old (degree code (c x));
    }

-- the first x checks
unfoldable pub checks_full : (ℕ → Bool) → ℤ → Code → (ℕ → ℕ) → ℕ → Full → Full
checks_full sh o code c zero f = f
checks_full sh o code c (suc x) f = part_check sh o code c x (checks_full sh o code c x f)
