-- What each turn of the loop over the stairs does.
use Rattle.std.proofs.Common.{◌≡◌, refl, sym, ap, ap₂, ◌∙◌, subst, List, [], ◌∷◌, ◌++◌, append_assoc, append-nil, ℕ, zero, suc, ◌+◌, ◌-◌, ◌≤◌, ◌<◌, arith}
use Rattle.ldpc_edges.specs.Code.{Edge, edge, stairs}
use Rattle.ldpc_edges.specs.Count.{to_bits, to_stairs}
use Rattle.ldpc_edges.specs.Inside.{Inside}
use Rattle.ldpc_lists.specs.Build.{Lists, Ready, put, put_all, RoomForEdges, room_next}

-- ---- one check
stair_zero : (k c v : ℕ) → c ≡ 0 → v ≡ k + c → to_bits c (stairs k c) ≡ edge c v ∷ []
unfolding to_bits stairs
stair_zero k zero v e f = let g : k ≡ v = omega arith in ap (λ (z : ℕ). edge 0 z ∷ []) g
stair_zero k (suc c) v e f = absurd (omega arith)

stair_suc : (k c v : ℕ) → (c ≡ 0 → ⊥) → v ≡ k + c → to_bits c (stairs k c) ≡ edge c (v - 1) ∷ edge c v ∷ []
unfolding to_bits stairs
stair_suc k zero v e f = absurd (e refl)
stair_suc k (suc c) v e f =
    let g : k + c ≡ v - 1 = omega arith in
    let h : k + suc c ≡ v = omega arith in
    ap₂ (λ (z y : ℕ). edge (suc c) z ∷ edge (suc c) y ∷ []) g h

pub stair_first : (k c v : ℕ) (st : Lists) → v ≡ k + c → RoomForEdges (suc c) (to_bits c (stairs k c)) st → Dec (c ≡ 0) → Ready c st
unfolding put_all
stair_first k c v st f r (yes e) = room_next (suc c) (suc v) [] c v [] st tt (omega arith) (subst (λ (es : List Edge). RoomForEdges (suc c) es st) (stair_zero k c v e f) r)
stair_first k c v st f r (no e) = room_next (suc c) (suc v) (edge c (v - 1) ∷ []) c v [] st tt (omega arith) (subst (λ (es : List Edge). RoomForEdges (suc c) es st) (stair_suc k c v e f) r)

pub stair_second : (k c v : ℕ) (L st : Lists) → v ≡ k + c → (c ≡ 0 → ⊥) → RoomForEdges (suc c) (to_bits c (stairs k c)) st → L ≡ put c v st
    → Ready c L
unfolding put_all
stair_second k c v L st f e r l =
    subst (λ (z : Lists). Ready c z) (sym l)
    (room_next (suc c) (suc v) [] c (v - 1) (edge c v ∷ []) st (omega arith, omega arith, tt) (omega arith) (subst (λ (es : List Edge). RoomForEdges (suc c) es st) (stair_suc k c v e f) r))

pub stair_one : (k c v : ℕ) (L st : Lists) → v ≡ k + c → c ≡ 0 → L ≡ put c v st → L ≡ put_all (to_bits c (stairs k c)) st
unfolding put_all
stair_one k c v L st f e l = l ∙ ap (λ (es : List Edge). put_all es st) (sym (stair_zero k c v e f))

pub stair_two : (k c v : ℕ) (L L' st : Lists) → v ≡ k + c → (c ≡ 0 → ⊥) → L ≡ put c v st → L' ≡ put c (v - 1) L → L' ≡ put_all (to_bits c (stairs k c)) st
unfolding put_all
stair_two k c v L L' st f e l m = m ∙ ap (put c (v - 1)) l ∙ ap (λ (es : List Edge). put_all es st) (sym (stair_suc k c v e f))

-- ---- all checks
stairs_append : (k b d e : ℕ) → to_stairs k b (d + e) ≡ to_stairs k b d ++ to_stairs k (b + d) e
unfolding to_stairs
stairs_append k b zero e =
    let x : 0 + e ≡ e = omega arith in
    let y : b ≡ b + 0 = omega arith in
    ap₂ (λ (u v : ℕ). to_stairs k u v) y x
stairs_append k b (suc d) e =
    let x : suc d + e ≡ suc (d + e) = omega arith in
    let y : suc b + d ≡ b + suc d = omega arith in
    ap (to_stairs k b) x
    ∙ ap (λ (es : List Edge). to_bits b (stairs k b) ++ es) (stairs_append k (suc b) d e ∙ ap (λ (u : ℕ). to_stairs k (suc b) d ++ to_stairs k u e) y)
    ∙ sym (append_assoc (to_bits b (stairs k b)) _ _)

pub stairs_step : (k c : ℕ) → 0 < c → to_stairs k 0 c ≡ to_stairs k 0 (c - 1) ++ to_bits (c - 1) (stairs k (c - 1))
unfolding to_stairs
stairs_step k c h =
    let e : c ≡ c - 1 + 1 = omega arith in
    let z : 0 + (c - 1) ≡ c - 1 = omega arith in
    ap (to_stairs k 0) e ∙ stairs_append k 0 (c - 1) 1 ∙ ap (λ (y : ℕ). to_stairs k 0 (c - 1) ++ (to_bits y (stairs k y) ++ [])) z
    ∙ ap (λ (es : List Edge). to_stairs k 0 (c - 1) ++ es) (append-nil (to_bits (c - 1) (stairs k (c - 1))))

pub stairs_end : (k c : ℕ) → c ≤ 0 → to_stairs k 0 c ≡ []
unfolding to_stairs
stairs_end k zero h = refl
stairs_end k (suc c) h = absurd (omega arith)

pub narrow : (P c : ℕ) (es : List Edge) (st : Lists) → c < P → RoomForEdges P es st → RoomForEdges (suc c) es st
narrow P c es st h r =
    record { long = omega (arith, r.long); fits = λ d g. r.fits d (omega arith); room = λ d g. r.room d (omega arith) }

pub stair_inside : (P k c : ℕ) → c < P → Inside P (k + P) (to_bits c (stairs k c))
unfolding to_bits stairs
stair_inside P k zero h = (omega arith, omega arith, tt)
stair_inside P k (suc c) h = (omega arith, omega arith, (omega arith, omega arith, tt))
