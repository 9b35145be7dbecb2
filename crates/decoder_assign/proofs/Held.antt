-- Whether one of the first lanes is held, as the schedule says it.
use Rattle.std.proofs.Common.{◌≡◌, refl, ap, ap₂, ◌∙◌, ℕ, zero, suc, ◌≤◌, List, [], ◌∷◌, Bool, ◌||◌, length, get_or, take, arith, Option, None, is_some}
use Rattle.std.proofs.Math.Bool.{or-false}
use Rattle.std.proofs.Math.Seq.{take-suc}
use Rattle.std.specs.List.{list_any}
use Rattle.std.proofs.lemmas.List.Folds.{list_any-append}
use Rattle.schedule.specs.Lanes.{any_of, any_held}
use Rattle.decoder_assign.specs.declared.Taken.{Taken}
use Rattle.decoder_assign.specs.Taken.{held_in, held_is}

pub some_of : (taken : List (Option Taken)) (n : ℕ) → n ≤ length taken → list_any is_some (take n taken) ≡ any_held (held_in taken) n
unfolding any_of
some_of taken zero h = refl
some_of taken (suc n) h =
    ap (list_any is_some) (take-suc taken n None (omega (arith, h)))
    ∙ list_any-append is_some (take n taken) (get_or taken n None ∷ [])
    ∙ ap₂ (λ (a b : Bool). a || b) (some_of taken n (omega (arith, h))) (or-false (is_some (get_or taken n None)) ∙ held_is taken n)
