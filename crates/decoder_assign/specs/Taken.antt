-- The lanes' words as the schedule has them, in two lists of numbers: a lane's word and one, or 0 for none; the iterations of its word, 0 for none.
use Rattle.std.specs.Prelude.{◌≡◌, ◌≢◌, refl, true, false, not, is_some, List, ℕ, ◌+◌, ◌<◌, eqb, Option, Some, None, map, length, get_or, set, replicate}
use Rattle.std.proofs.Common.{sym, ap, ◌∙◌, arith, ne_eqb}
use Rattle.std.proofs.Math.ListN.{get_or-map}
use Rattle.std.proofs.lemmas.List.{get_or-replicate, length-map, map-set}
use Rattle.schedule.specs.Lanes.{held_at, Sized}
use Rattle.decoder_assign.specs.declared.Taken.{Taken}

abbrev pub held_by : Option Taken → ℕ
held_by None = 0
held_by (Some t) = t.word + 1

abbrev pub iters_by : Option Taken → ℕ
iters_by None = 0
iters_by (Some t) = t.iterations

unfoldable pub held_in : List (Option Taken) → List ℕ
held_in taken = map held_by taken

unfoldable pub iters_in : List (Option Taken) → List ℕ
iters_in taken = map iters_by taken

-- ---- a lane's
pub held_get : (taken : List (Option Taken)) (l : ℕ) → get_or (held_in taken) l 0 ≡ held_by (get_or taken l None)
unfolding held_in
held_get taken l = get_or-map held_by taken l None

pub iters_get : (taken : List (Option Taken)) (l : ℕ) → get_or (iters_in taken) l 0 ≡ iters_by (get_or taken l None)
unfolding iters_in
iters_get taken l = get_or-map iters_by taken l None

-- by what it is
pub held_at_some : (taken : List (Option Taken)) (l : ℕ) (t : Taken) → get_or taken l None ≡ Some t → get_or (held_in taken) l 0 ≡ t.word + 1
held_at_some taken l t e = held_get taken l ∙ ap held_by e

pub iters_at_some : (taken : List (Option Taken)) (l : ℕ) (t : Taken) → get_or taken l None ≡ Some t → get_or (iters_in taken) l 0 ≡ t.iterations
iters_at_some taken l t e = iters_get taken l ∙ ap iters_by e

pub held_at_none : (taken : List (Option Taken)) (l : ℕ) → get_or taken l None ≡ None → get_or (held_in taken) l 0 ≡ 0
held_at_none taken l e = held_get taken l ∙ ap held_by e

pub iters_at_none : (taken : List (Option Taken)) (l : ℕ) → get_or taken l None ≡ None → get_or (iters_in taken) l 0 ≡ 0
iters_at_none taken l e = iters_get taken l ∙ ap iters_by e

held_if : (t : Option Taken) → is_some t ≡ not (eqb (held_by t) 0)
held_if None = refl
held_if (Some t) = sym (ap not (ne_eqb (t.word + 1) 0 (λ e. absurd (omega (arith, e)))))

-- whether it is held, as the schedule says it
pub held_is : (taken : List (Option Taken)) (l : ℕ) → is_some (get_or taken l None) ≡ held_at (held_in taken) l
held_is taken l = held_if (get_or taken l None) ∙ ap (λ h. not (eqb h 0)) (sym (held_get taken l))

pub held_none : (taken : List (Option Taken)) (l : ℕ) → is_some (get_or taken l None) ≡ false → get_or (held_in taken) l 0 ≡ 0
held_none taken l e = held_get taken l ∙ zero (get_or taken l None) e
  where
    zero : (t : Option Taken) → is_some t ≡ false → held_by t ≡ 0
    zero None e = refl
    zero (Some t) e = cc

pub held_some : (taken : List (Option Taken)) (l : ℕ) → is_some (get_or taken l None) ≡ true → get_or (held_in taken) l 0 ≢ 0
held_some taken l e = some (get_or taken l None) e (held_get taken l)
  where
    some : (t : Option Taken) → is_some t ≡ true → get_or (held_in taken) l 0 ≡ held_by t → get_or (held_in taken) l 0 ≢ 0
    some None e h = cc
    some (Some t) e h = λ z. omega (arith, h, z)

-- ---- how many there are
pub held_length : (taken : List (Option Taken)) → length (held_in taken) ≡ length taken
unfolding held_in
held_length taken = length-map taken held_by

pub iters_length : (taken : List (Option Taken)) → length (iters_in taken) ≡ length taken
unfolding iters_in
iters_length taken = length-map taken iters_by

pub sized_in : (taken : List (Option Taken)) → length taken ≡ 64 → Sized (held_in taken) (iters_in taken)
sized_in taken e = record { held_fit = held_length taken ∙ e; iters_fit = iters_length taken ∙ e }

-- ---- lanes that are all empty
pub held_start : (n l : ℕ) → l < n → get_or (held_in (replicate n None)) l 0 ≡ 0
held_start n l h = held_at_none (replicate n None) l (get_or-replicate n l None None h)

-- ---- a lane is written
pub held_set : (taken : List (Option Taken)) (l : ℕ) (t : Option Taken) → held_in (set taken l t) ≡ set (held_in taken) l (held_by t)
unfolding held_in
held_set taken l t = map-set held_by taken l t

pub iters_set : (taken : List (Option Taken)) (l : ℕ) (t : Option Taken) → iters_in (set taken l t) ≡ set (iters_in taken) l (iters_by t)
unfolding iters_in
iters_set taken l t = map-set iters_by taken l t
