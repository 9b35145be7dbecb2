-- All edges of a code: those of the information bits, then the stairs. They are E, and each lies at one check.
--
-- In order: where a check's list begins; those of one check (`all_check`); where they lie; how many (`start_last`); every bit of
-- a list is below n (`check_below`).
--
-- Not here: how many a check has (Degree).
use Rattle.std.specs.Prelude.{◌≡◌, refl, Bool, true, false, cond, List, [], ◌∷◌, ◌++◌, ℕ, zero, suc, ◌+◌, ◌-◌, ◌*◌, ◌≤◌, ◌<◌, eqb, length, take, drop, get_or}
use Rattle.std.proofs.Common.{sym, ap, ap₂, ◌∙◌, subst, append-nil, arith, length-append, length-take, length-drop}
use Rattle.std.proofs.Math.Decide.{ℕ_discrete, dec_lt}
use Rattle.ldpc_shape.specs.Shape.{k_of, p_of, q_of, e_of, rows_of, total}
use Rattle.ldpc_shape.specs.Accepted.{Accepted, p_pos, n_is}
use Rattle.ldpc_edges.specs.Code.{Edge, edge, met, of_bits, of_rows, meets, only, stairs, check, start_of}
use Rattle.ldpc_edges.specs.Inside.{Inside}
use Rattle.ldpc_edges.proofs.Inside.{inside_append, meets_inside, only_append, only_hit, only_miss}
use Rattle.ldpc_edges.specs.Count.{start, to_bits, to_stairs, all_edges}

pub start_le : (es : List Edge) (b c : ℕ) → b ≤ c → start es b ≤ start es c
unfolding start
start_le es b zero h = let e : b ≡ 0 = omega arith in subst (λ (z : ℕ). start es z ≤ 0) (sym e) (omega arith)
start_le es b (suc c) h = go (dec_lt b (suc c)) (λ (g : b ≤ c). start_le es b c g)
  where
    go : Dec (b < suc c) → (b ≤ c → start es b ≤ start es c) → start es b ≤ start es c + length (only c es)
    go (yes g) ih = let i = ih (omega arith) in omega arith
    go (no g) ih = let e : b ≡ suc c = omega arith in subst (λ (z : ℕ). start es z ≤ start es c + length (only c es)) (sym e) (omega arith)

only_to : (c : ℕ) (vs : List ℕ) → only c (to_bits c vs) ≡ vs
unfolding only to_bits
only_to c [] = refl
only_to c (v ∷ vs) = only_hit c v c (to_bits c vs) refl ∙ ap (λ (z : List ℕ). v ∷ z) (only_to c vs)

only_to_other : (b c : ℕ) → (b ≡ c → ⊥) → (vs : List ℕ) → only c (to_bits b vs) ≡ []
unfolding only to_bits
only_to_other b c ne [] = refl
only_to_other b c ne (v ∷ vs) = only_miss b v c (to_bits b vs) ne ∙ only_to_other b c ne vs

stairs_before : (k c b d : ℕ) → c < b → only c (to_stairs k b d) ≡ []
unfolding to_stairs only
stairs_before k c b zero h = refl
stairs_before k c b (suc d) h =
    only_append c (to_bits b (stairs k b)) (to_stairs k (suc b) d) ∙ ap₂ (λ (x y : List ℕ). x ++ y) (only_to_other b c (λ e. omega arith) (stairs k b)) (stairs_before k c (suc b) d (omega arith))

stairs_at : (k c b d : ℕ) → b ≤ c → c < b + d → only c (to_stairs k b d) ≡ stairs k c
unfolding to_stairs only
stairs_at k c b zero h g = absurd (omega arith)
stairs_at k c b (suc d) h g =
    only_append c (to_bits b (stairs k b)) (to_stairs k (suc b) d) ∙ go (ℕ_discrete b c) (λ (i : suc b ≤ c). stairs_at k c (suc b) d i (omega arith))
  where
    go : Dec (b ≡ c) → (suc b ≤ c → only c (to_stairs k (suc b) d) ≡ stairs k c) → only c (to_bits b (stairs k b)) ++ only c (to_stairs k (suc b) d) ≡ stairs k c
    go (yes e) ih =
        ap₂ (λ (x y : List ℕ). x ++ y) (ap (λ (z : ℕ). only c (to_bits z (stairs k z))) e ∙ only_to c (stairs k c)) (stairs_before k c (suc b) d (omega arith))
        ∙ append-nil (stairs k c)
    go (no e) ih = ap₂ (λ (x y : List ℕ). x ++ y) (only_to_other b c e (stairs k b)) (ih (omega arith))

pub all_check : (n : ℕ) (lens addrs : List ℕ) (c : ℕ) → c < p_of n lens → only c (all_edges n lens addrs) ≡ check n lens addrs c
unfolding all_edges check
all_check n lens addrs c h =
    only_append c (meets n lens addrs) (to_stairs (k_of lens) 0 (p_of n lens))
    ∙ ap (λ (z : List ℕ). only c (meets n lens addrs) ++ z) (stairs_at (k_of lens) c 0 (p_of n lens) (omega arith) (omega arith))

-- ---- where they lie
inside_more : (P k l : ℕ) (es : List Edge) → k ≤ l → Inside P k es → Inside P l es
inside_more P k l [] h I = tt
inside_more P k l (edge p m ∷ es) h I = (I.0, omega (arith, I.1), inside_more P k l es h I.2)

stair_inside : (P k c : ℕ) → c < P → Inside P (k + P) (to_bits c (stairs k c))
unfolding to_bits stairs
stair_inside P k zero h = (h, omega arith, tt)
stair_inside P k (suc c) h = (h, omega arith, (h, omega arith, tt))

pub stairs_inside : (P k c d : ℕ) → c + d ≤ P → Inside P (k + P) (to_stairs k c d)
unfolding to_stairs
stairs_inside P k c zero h = tt
stairs_inside P k c (suc d) h =
    inside_append P (k + P) (to_bits c (stairs k c)) (to_stairs k (suc c) d) (stair_inside P k c (omega arith)) (stairs_inside P k (suc c) d (omega arith))

pub all_inside : (n : ℕ) (lens addrs : List ℕ) → 0 < p_of n lens → Inside (p_of n lens) (k_of lens + p_of n lens) (all_edges n lens addrs)
unfolding all_edges
all_inside n lens addrs h =
    inside_append _ _ (meets n lens addrs) _ (inside_more _ (k_of lens) _ (meets n lens addrs) (omega arith) (meets_inside n lens addrs h))
    (stairs_inside (p_of n lens) (k_of lens) 0 (p_of n lens) (omega arith))

-- ---- how many: each lies at one check
start_other : (p m : ℕ) (es : List Edge) (P : ℕ) → P ≤ p → start (edge p m ∷ es) P ≡ start es P
unfolding start
start_other p m es zero h = refl
start_other p m es (suc c) h =
    ap₂ (λ (x y : ℕ). x + y) (start_other p m es c (omega arith))
    (ap length (only_miss p m c es (λ e. omega arith)))

start_one : (p m : ℕ) (es : List Edge) (P : ℕ) → p < P → start (edge p m ∷ es) P ≡ suc (start es P)
unfolding start
start_one p m es zero h = absurd (omega arith)
start_one p m es (suc c) h = go (ℕ_discrete p c) (λ (g : p < c). start_one p m es c g)
  where
    go : Dec (p ≡ c) → (p < c → start (edge p m ∷ es) c ≡ suc (start es c))
        → start (edge p m ∷ es) c + length (only c (edge p m ∷ es)) ≡ suc (start es c + length (only c es))
    go (yes e) ih =
        let a = start_other p m es c (omega arith) in
        let b = ap length (only_hit p m c es e) in
        omega arith
    go (no e) ih =
        let a = ih (omega arith) in
        let b = ap length (only_miss p m c es e) in
        omega arith

start_none : (P : ℕ) → start [] P ≡ 0
unfolding start only
start_none zero = refl
start_none (suc c) = let a = start_none c in omega arith

start_all : (P k : ℕ) (es : List Edge) → Inside P k es → start es P ≡ length es
start_all P k [] I = start_none P
start_all P k (edge p m ∷ es) I = start_one p m es P I.0 ∙ ap suc (start_all P k es I.2)

met_length : (P q m j : ℕ) (row : List ℕ) → length (met P q m j row) ≡ length row
unfolding met
met_length P q m j [] = refl
met_length P q m j (a ∷ row) = ap suc (met_length P q m j row)

bits_length : (P q d m j : ℕ) (row : List ℕ) → length (of_bits P q d m j row) ≡ d * length row
unfolding of_bits
bits_length P q zero m j row = omega arith
bits_length P q (suc d) m j row =
    length-append (met P q m j row) _ ∙ ap₂ (λ (x y : ℕ). x + y) (met_length P q m j row) (bits_length P q d (suc m) (suc j) row) ∙ omega arith

rows_length : (P q m : ℕ) (lens addrs : List ℕ) → total lens ≡ length addrs → length (of_rows P q m (rows_of lens addrs)) ≡ 374 * length addrs
unfolding of_rows rows_of total
rows_length P q m [] addrs e = omega arith
rows_length P q m (l ∷ lens) addrs e =
    let ih = rows_length P q (m + 374) lens (drop l addrs) (omega (arith, length-drop l addrs)) in
    let b = bits_length P q 374 m 0 (take l addrs) in
    length-append (of_bits P q 374 m 0 (take l addrs)) _ ∙ omega (arith, length-drop l addrs, length-take l addrs)

stairs_count : (k c d : ℕ) → length (to_stairs k (suc c) d) ≡ 2 * d
unfolding to_stairs to_bits stairs
stairs_count k c zero = refl
stairs_count k c (suc d) = let ih = stairs_count k (suc c) d in omega arith

stairs_all : (k d : ℕ) → length (to_stairs k 0 d) ≡ 2 * d - 1
unfolding to_stairs to_bits stairs
stairs_all k zero = refl
stairs_all k (suc d) = let ih = stairs_count k 0 d in omega arith

all_length : (n : ℕ) (lens addrs : List ℕ) → Accepted n lens addrs → length (all_edges n lens addrs) ≡ e_of n lens addrs
unfolding all_edges e_of meets
all_length n lens addrs A =
    let a = rows_length (p_of n lens) (q_of n lens) 0 lens addrs A.adds in
    let b = stairs_all (k_of lens) (p_of n lens) in
    length-append (of_rows (p_of n lens) (q_of n lens) 0 (rows_of lens addrs)) (to_stairs (k_of lens) 0 (p_of n lens)) ∙ omega (arith, p_pos n lens addrs A)

pub all_start : (n : ℕ) (lens addrs : List ℕ) → Accepted n lens addrs → start (all_edges n lens addrs) (p_of n lens) ≡ e_of n lens addrs
all_start n lens addrs A = start_all (p_of n lens) _ (all_edges n lens addrs) (all_inside n lens addrs (p_pos n lens addrs A)) ∙ all_length n lens addrs A

pub start_of_lem : (n : ℕ) (lens addrs : List ℕ) (c : ℕ) → c ≤ p_of n lens → start (all_edges n lens addrs) c ≡ start_of n lens addrs c
unfolding start start_of
start_of_lem n lens addrs zero h = refl
start_of_lem n lens addrs (suc c) h = ap₂ (λ (x y : ℕ). x + y) (start_of_lem n lens addrs c (omega arith)) (ap length (all_check n lens addrs c h))

-- the lists together have E bits
pub start_last : (n : ℕ) (lens addrs : List ℕ) → Accepted n lens addrs → start_of n lens addrs (p_of n lens) ≡ e_of n lens addrs
start_last n lens addrs A = sym (start_of_lem n lens addrs (p_of n lens) (omega arith)) ∙ all_start n lens addrs A

-- ---- every bit of a check's list is below n
pub only_inside : (P k c : ℕ) (es : List Edge) → Inside P k es → (i : ℕ) → i < length (only c es) → get_or (only c es) i 0 < k
unfolding only
only_inside P k c [] I i h = absurd (omega arith)
only_inside P k c (edge p m ∷ es) I i h = go (eqb p c) i h (only_inside P k c es I.2)
  where
    go : (b : Bool) (i : ℕ) → i < length (cond b (m ∷ only c es) (only c es)) → ((i : ℕ) → i < length (only c es) → get_or (only c es) i 0 < k)
        → get_or (cond b (m ∷ only c es) (only c es)) i 0 < k
    go true zero h ih = I.1
    go true (suc i) h ih = ih i (omega arith)
    go false i h ih = ih i h

pub check_below : (n : ℕ) (lens addrs : List ℕ) → Accepted n lens addrs → (c : ℕ) → c < p_of n lens → (i : ℕ) → i < length (check n lens addrs c)
    → get_or (check n lens addrs c) i 0 < n
check_below n lens addrs A c h i g =
    let e = all_check n lens addrs c h in
    subst (λ (z : ℕ). get_or (check n lens addrs c) i 0 < z) (n_is n lens addrs A)
    (subst (λ (l : List ℕ). get_or l i 0 < k_of lens + p_of n lens) e
    (only_inside (p_of n lens) (k_of lens + p_of n lens) c (all_edges n lens addrs) (all_inside n lens addrs (p_pos n lens addrs A)) i (subst (λ (l : List ℕ). i < length l) (sym e) g)))
