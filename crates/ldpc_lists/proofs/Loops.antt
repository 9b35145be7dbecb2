-- What each turn of the builder's loops does.
use Rattle.std.proofs.Common.{◌≡◌, refl, sym, ap, ap₂, ◌∙◌, subst, List, [], ◌∷◌, ◌++◌, append_assoc, append-nil, ℕ, zero, suc, ◌+◌, ◌-◌, ◌*◌, ◌%◌, ◌≤◌, ◌<◌, arith, mod-lt, length}
use Rattle.ldpc_edges.specs.Code.{Edge, edge, met, of_bits}
use Rattle.ldpc_edges.specs.Inside.{Inside}
use Rattle.ldpc_lists.specs.Build.{Lists, Ready, put, put_all, put_all_append, RoomForEdges, room_next, room_later, room_then}

-- ---- the edges `left` are to be put, and then all are
pub record Filling (P : ℕ) (left all : List Edge) (st₀ st : Lists) : Type 0 where
  pub room : RoomForEdges P left st
  pub same : put_all left st ≡ put_all all st₀

pub fill_start : (P : ℕ) (left all : List Edge) (st : Lists) → left ≡ all → RoomForEdges P all st → Filling P left all st st
fill_start P left all st e r =
    record { room = subst (λ (es : List Edge). RoomForEdges P es st) (sym e) r; same = ap (λ (es : List Edge). put_all es st) e }

pub fill_end : (P : ℕ) (left all : List Edge) (st₀ st : Lists) → left ≡ [] → Filling P left all st₀ st → st ≡ put_all all st₀
unfolding put_all
fill_end P left all st₀ st e F = ap (λ (es : List Edge). put_all es st) (sym e) ∙ F.same

-- es are the next ones
module _ (P : ℕ) (left all : List Edge) (st₀ st : Lists) (F : Filling P left all st₀ st) (left' es : List Edge) (e : left ≡ left' ++ es) where
  room_split : RoomForEdges P (left' ++ es) st
  room_split = subst (λ (es : List Edge). RoomForEdges P es st) e F.room

  pub fill_room : RoomForEdges P es st
  fill_room = room_later P left' es st room_split

  pub fill_next : (k : ℕ) (st' : Lists) → Inside P k es → st' ≡ put_all es st → Filling P left' all st₀ st'
  fill_next k st' I f =
      record {
        room = subst (RoomForEdges P left') (sym f) (room_then P k left' es st I room_split);
        same = ap (put_all left') f ∙ sym (put_all_append left' es st) ∙ ap (λ (es : List Edge). put_all es st) (sym e) ∙ F.same;
      }

-- ---- one bit: the addresses are taken from the last
met_append : (P q m j : ℕ) (xs ys : List ℕ) → met P q m j (xs ++ ys) ≡ met P q m j xs ++ met P q m j ys
unfolding met
met_append P q m j [] ys = refl
met_append P q m j (a ∷ xs) ys = ap (λ (z : List Edge). edge ((a + j * q) % P) m ∷ z) (met_append P q m j xs ys)

module _ (P q m j : ℕ) (row rest rest' : List ℕ) (st₀ st : Lists) (a p : ℕ) (pos : 0 < P) (F : Filling P (met P q m j rest) (met P q m j row) st₀ st)
    (step : rest ≡ rest' ++ (a ∷ [])) (h : p ≡ (a + j * q) % P) where
  met_step : met P q m j rest ≡ met P q m j rest' ++ (edge p m ∷ [])
  unfolding met
  met_step = ap (met P q m j) step ∙ met_append P q m j rest' (a ∷ []) ∙ ap (λ (z : ℕ). met P q m j rest' ++ (edge z m ∷ [])) (sym h)

  within : p < P
  within = subst (λ (z : ℕ). z < P) (sym h) (mod-lt (a + j * q) pos)

  pub met_ready : Ready p st
  unfolding put_all
  met_ready = room_next P (suc m) [] p m [] st tt within (fill_room P _ _ st₀ st F (met P q m j rest') (edge p m ∷ []) met_step)

  pub met_next : (st' : Lists) → st' ≡ put p m st → Filling P (met P q m j rest') (met P q m j row) st₀ st'
  unfolding put_all
  met_next st' e = fill_next P _ _ st₀ st F (met P q m j rest') (edge p m ∷ []) met_step (suc m) st' (within, omega arith, tt) e

pub met_none : (P q m j : ℕ) (rest : List ℕ) → length rest ≡ 0 → met P q m j rest ≡ []
unfolding met
met_none P q m j [] e = refl
met_none P q m j (a ∷ rest) e = absurd (omega arith)

-- ---- a row: its bits are taken from the last
bits_append : (P q d e m j : ℕ) (row : List ℕ) → of_bits P q (d + e) m j row ≡ of_bits P q d m j row ++ of_bits P q e (m + d) (j + d) row
unfolding of_bits
bits_append P q zero e m j row =
    let x : 0 + e ≡ e = omega arith in
    let y : m ≡ m + 0 = omega arith in
    let z : j ≡ j + 0 = omega arith in
    ap (λ (d : ℕ). of_bits P q d m j row) x ∙ ap₂ (λ (u v : ℕ). of_bits P q e u v row) y z
bits_append P q (suc d) e m j row =
    let x : suc d + e ≡ suc (d + e) = omega arith in
    let y : suc m + d ≡ m + suc d = omega arith in
    let z : suc j + d ≡ j + suc d = omega arith in
    ap (λ (i : ℕ). of_bits P q i m j row) x
    ∙ ap (λ (es : List Edge). met P q m j row ++ es) (bits_append P q d e (suc m) (suc j) row ∙ ap₂ (λ (u v : ℕ). of_bits P q d (suc m) (suc j) row ++ of_bits P q e u v row) y z)
    ∙ sym (append_assoc (met P q m j row) _ _)

pub bits_step : (P q f j : ℕ) (row : List ℕ) → 0 < j → of_bits P q j f 0 row ≡ of_bits P q (j - 1) f 0 row ++ met P q (f + (j - 1)) (j - 1) row
unfolding of_bits
bits_step P q f j row h =
    let e : j ≡ j - 1 + 1 = omega arith in
    let z : 0 + (j - 1) ≡ j - 1 = omega arith in
    ap (λ (d : ℕ). of_bits P q d f 0 row) e ∙ bits_append P q (j - 1) 1 f 0 row
    ∙ ap (λ (v : ℕ). of_bits P q (j - 1) f 0 row ++ (met P q (f + (j - 1)) v row ++ [])) z
    ∙ ap (λ (es : List Edge). of_bits P q (j - 1) f 0 row ++ es) (append-nil (met P q (f + (j - 1)) (j - 1) row))

pub bits_end : (P q f j : ℕ) (row : List ℕ) → j ≤ 0 → of_bits P q j f 0 row ≡ []
unfolding of_bits
bits_end P q f zero row h = refl
bits_end P q f (suc j) row h = absurd (omega arith)
