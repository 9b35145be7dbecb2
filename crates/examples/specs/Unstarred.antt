-- Further examples of a check's arithmetic, which the scope does not have: where a sum is clamped, and what becomes of a variable that
-- several edges share.
use Rattle.std.specs.Prelude.{◌≡◌, refl, [], ◌∷◌, pos, negsuc}
use Rattle.laws.specs.Definitions.{put}
use Rattle.iteration.specs.Check.{check, min1, min2, first, others, message, wrote, t_of, new_r, new_l}
use Rattle.iteration.specs.Iteration.{gather, settle, nothing, run_r, gather_edge, gather_check, gather_run, run, unsatisfied, negatives}
use Rattle.examples.specs.Inputs.{fresh, checked, three, shared, two, twice}

pub record Unstarred : Type 0 where
  -- clamped once and not at each difference: t₁ 100, r₁ 50, later −20 from 0
  pub clamped_once : settle (gather (pos 0) (negsuc 19) (pos 0) (gather (pos 100) (pos 50) (pos 0) nothing)) (pos 0) ≡ pos 127
  -- a variable that two checks of a run share
  pub run_values : two.L 0 ∷ two.L 1 ∷ two.L 2 ∷ [] ≡ pos 8 ∷ pos 6 ∷ pos 3 ∷ []
  -- two negative values among three edges; a repeated variable counts twice
  pub even : unsatisfied (λ e. e) 0 3 three.L ≡ 0
  pub repeated : unsatisfied twice.rows 0 3 (λ v. negsuc 0) ≡ 1
  -- a repeated edge: L 3 at 0 twice and 5 at 1, offset 0: sequentially 6, in a run of one check 9
  pub overwritten : (check (pos 0) twice.rows 0 3 (fresh (pos 3 ∷ pos 5 ∷ []))).L 0 ≡ pos 6
  pub added : (run (pos 0) twice (λ i. i) 1 (fresh (pos 3 ∷ pos 5 ∷ []))).L 0 ≡ pos 9

pub unstarred : Unstarred
unfolding min1 min2 first others message put wrote t_of new_r new_l fresh checked three shared two twice run_r gather_edge gather_check gather_run run negatives unsatisfied
unstarred = record { clamped_once = refl; run_values = refl; even = refl; repeated = refl; overwritten = refl; added = refl }
