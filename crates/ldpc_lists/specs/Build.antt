-- Filling the lists of all checks from their ends: each edge, the last first, is put before what its check has so far.
--
-- In order: both slices together (`as_lists`); an edge put, and several (`put_all`); room for edges (`RoomForEdges`); filled with edges (`HoldsEdges`,
-- `fill`); all lists (`Listed`); for the loops.
--
-- Not here: the ends that the filling begins with (Ends).
use Rattle.std.specs.Prelude.{◌≡◌, refl, ◌≢◌, List, [], ◌∷◌, ◌++◌, ℕ, zero, suc, ◌+◌, ◌-◌, ◌≤◌, ◌<◌, length, take, get_or, set}
use Rattle.std.proofs.Common.{sym, ap, ◌∙◌, subst, arith, length-set, get_or-set_other, ext_get_or, get_or-take, get_or-drop}
use Rattle.std.proofs.Math.Decide.{ℕ_discrete, dec_lt}
use Rattle.std.proofs.Math.Seq.{slice, length-slice}
use Rattle.laws.specs.Stores.{set_at}
use Rattle.ldpc_edges.specs.Code.{Edge, edge, only}
use Rattle.ldpc_edges.specs.Inside.{Inside}
use Rattle.ldpc_edges.proofs.Inside.{only_length, only_hit, only_miss}
use Rattle.ldpc_edges.specs.Count.{start}
use Rattle.ldpc_edges.proofs.Count.{start_le}

-- the lists and their starts, which are cursors while they are filled
pub record Lists : Type 0 where
  pub bits : List ℕ
  pub at : List ℕ

-- the two slices, row_start and rows
abbrev pub as_lists : List ℕ → List ℕ → Lists
as_lists starts rows = record { bits = rows; at = starts }

-- check p can take one bit more
abbrev pub Ready : ℕ → Lists → Type 0
Ready p st = (p < length st.at) × (0 < get_or st.at p 0) × (get_or st.at p 0 ≤ length st.bits)

-- bit m before what check p has so far
unfoldable pub put : ℕ → ℕ → Lists → Lists
put p m st = record { bits = set st.bits (get_or st.at p 0 - 1) m; at = set st.at p (get_or st.at p 0 - 1) }

unfoldable pub put_all : List Edge → Lists → Lists
put_all [] st = st
put_all (edge p m ∷ es) st = put p m (put_all es st)

pub put_all_append : (xs ys : List Edge) (st : Lists) → put_all (xs ++ ys) st ≡ put_all xs (put_all ys st)
unfolding put_all
put_all_append [] ys st = refl
put_all_append (edge p m ∷ xs) ys st = ap (put p m) (put_all_append xs ys st)

pub put_bits_length : (es : List Edge) (st : Lists) → length (put_all es st).bits ≡ length st.bits
unfolding put_all put
put_bits_length [] st = refl
put_bits_length (edge p m ∷ es) st = length-set (put_all es st).bits _ m ∙ put_bits_length es st

pub put_at_length : (es : List Edge) (st : Lists) → length (put_all es st).at ≡ length st.at
unfolding put_all put
put_at_length [] st = refl
put_at_length (edge p m ∷ es) st = length-set (put_all es st).at p _ ∙ put_at_length es st

-- ---- one more edge of check c
only_tail : (p m c : ℕ) (es : List Edge) → length (only c es) ≤ length (only c (edge p m ∷ es))
only_tail p m c es = go (ℕ_discrete p c)
  where
    go : Dec (p ≡ c) → length (only c es) ≤ length (only c (edge p m ∷ es))
    go (yes e) = omega (arith, ap length (only_hit p m c es e))
    go (no e) = omega (arith, ap length (only_miss p m c es e))

-- ---- room for the edges es: each cursor can go down once for each of them
pub record RoomForEdges (P : ℕ) (es : List Edge) (st : Lists) : Type 0 where
  pub long : P < length st.at
  pub fits : (c : ℕ) → c < P → get_or st.at c 0 ≤ length st.bits
  pub room : (c : ℕ) → c < P → length (only c es) ≤ get_or st.at c 0

put_at : (P k : ℕ) (es : List Edge) (st : Lists) → Inside P k es → P < length st.at → ((c : ℕ) → c < P → length (only c es) ≤ get_or st.at c 0)
    → (c : ℕ) → c < P → get_or (put_all es st).at c 0 + length (only c es) ≡ get_or st.at c 0
unfolding put_all put only
put_at P k [] st I l r c h = omega arith
put_at P k (edge p m ∷ es) st I l r c h =
    go (ℕ_discrete p c) (put_at P k es st I.2 l (λ c h. let a = r c h in let b = only_tail p m c es in omega arith) c h)
  where
    new : ℕ
    new = get_or (put_all es st).at p 0 - 1

    go : Dec (p ≡ c) → get_or (put_all es st).at c 0 + length (only c es) ≡ get_or st.at c 0
        → get_or (set (put_all es st).at p new) c 0 + length (only c (edge p m ∷ es)) ≡ get_or st.at c 0
    go (yes e) ih =
        let a : get_or (set (put_all es st).at p new) c 0 ≡ get_or (put_all es st).at p 0 - 1 =
        set_at 0 (put_all es st).at p new c (omega (arith, put_at_length es st, I.0)) (sym e) in
        let b : get_or (put_all es st).at p 0 ≡ get_or (put_all es st).at c 0 = ap (λ (z : ℕ). get_or (put_all es st).at z 0) e in
        omega (arith, ap length (only_hit p m c es e), r c h)
    go (no e) ih =
        let a = get_or-set_other (put_all es st).at p c new 0 (λ f. e (sym f)) in
        omega (arith, ap length (only_miss p m c es e))

room_at : (P k : ℕ) (es : List Edge) (st : Lists) → Inside P k es → RoomForEdges P es st → (c : ℕ) → c < P
    → get_or (put_all es st).at c 0 + length (only c es) ≡ get_or st.at c 0
room_at P k es st I r = put_at P k es st I r.long r.room

pub room_later : (P : ℕ) (xs ys : List Edge) (st : Lists) → RoomForEdges P (xs ++ ys) st → RoomForEdges P ys st
room_later P xs ys st r = record { long = r.long; fits = r.fits; room = λ c h. omega (arith, r.room c h, only_length c xs ys) }

pub room_then : (P k : ℕ) (xs ys : List Edge) (st : Lists) → Inside P k ys → RoomForEdges P (xs ++ ys) st → RoomForEdges P xs (put_all ys st)
room_then P k xs ys st I r =
    record {
      long = omega (arith, r.long, put_at_length ys st);
      fits = λ c h. omega (arith, r.fits c h, at c h, put_bits_length ys st);
      room = λ c h. omega (arith, r.room c h, at c h, only_length c xs ys);
    }
  where
    at : (c : ℕ) → c < P → get_or (put_all ys st).at c 0 + length (only c ys) ≡ get_or st.at c 0
    at = room_at P k ys st I (room_later P xs ys st r)

-- ---- filled with the edges es of all
pub record HoldsEdges (P : ℕ) (all es : List Edge) (st : Lists) : Type 0 where
  pub long : length st.at ≡ suc P
  pub wide : length st.bits ≡ start all P
  pub last : get_or st.at P 0 ≡ start all P
  pub from : (c : ℕ) → c < P → get_or st.at c 0 + length (only c es) ≡ start all (suc c)
  pub has : (c i : ℕ) → c < P → i < length (only c es) → get_or st.bits (get_or st.at c 0 + i) 0 ≡ get_or (only c es) i 0

-- one more
fill_one : (P : ℕ) (all es : List Edge) (p m : ℕ) (st : Lists) → p < P → ((c : ℕ) → c < P → length (only c (edge p m ∷ es)) ≤ length (only c all))
    → HoldsEdges P all es st → HoldsEdges P all (edge p m ∷ es) (put p m st)
unfolding put start
fill_one P all es p m st hp fit F =
    record {
      long = length-set st.at p new ∙ F.long;
      wide = length-set st.bits new m ∙ F.wide;
      last = get_or-set_other st.at p P new 0 (λ e. omega arith) ∙ F.last;
      from = λ c h. from c h (ℕ_discrete p c);
      has = λ c i h g. has c i h g (ℕ_discrete p c);
    }
  where
    new : ℕ
    new = get_or st.at p 0 - 1

    at_new : (c : ℕ) → p ≡ c → get_or (set st.at p new) c 0 ≡ new
    at_new c e = set_at 0 st.at p new c (omega (arith, F.long)) (sym e)

    room : suc (start all p) ≤ get_or st.at p 0
    room = omega (arith, F.from p hp, fit p hp, ap length (only_hit p m p es refl))

    above : get_or st.at p 0 ≤ start all (suc p)
    above = omega (arith, F.from p hp)

    from : (c : ℕ) → c < P → Dec (p ≡ c) → get_or (set st.at p new) c 0 + length (only c (edge p m ∷ es)) ≡ start all c + length (only c all)
    from c h (yes e) =
        let a = at_new c e in
        let b : get_or st.at p 0 ≡ get_or st.at c 0 = ap (λ (z : ℕ). get_or st.at z 0) e in
        omega (arith, F.from c h, ap length (only_hit p m c es e), room)
    from c h (no e) = omega (arith, F.from c h, ap length (only_miss p m c es e), get_or-set_other st.at p c new 0 (λ f. e (sym f)))

    has : (c i : ℕ) → c < P → i < length (only c (edge p m ∷ es)) → Dec (p ≡ c)
        → get_or (set st.bits new m) (get_or (set st.at p new) c 0 + i) 0 ≡ get_or (only c (edge p m ∷ es)) i 0
    has c i h g (yes e) =
        ap (λ (z : ℕ). get_or (set st.bits new m) (z + i) 0) (at_new c e)
        ∙ place i (subst (λ (l : List ℕ). i < length l) (only_hit p m c es e) g)
        ∙ ap (λ (l : List ℕ). get_or l i 0) (sym (only_hit p m c es e))
      where
        place : (i : ℕ) → i < suc (length (only c es)) → get_or (set st.bits new m) (new + i) 0 ≡ get_or (m ∷ only c es) i 0
        place zero g = set_at 0 st.bits new m (new + 0) (omega (arith, F.wide, room, above, start_le all (suc p) P hp)) (omega arith)
        place (suc i) g =
            let z : new + suc i ≡ get_or st.at p 0 + i = omega (arith, room) in
            get_or-set_other st.bits new (new + suc i) m 0 (λ f. omega arith)
            ∙ ap (λ (y : ℕ). get_or st.bits y 0) (z ∙ ap (λ (y : ℕ). get_or st.at y 0 + i) e)
            ∙ F.has c i h (omega arith)
    has c i h g (no e) =
        let a = get_or-set_other st.at p c new 0 (λ f. e (sym f)) in
        let l : i < length (only c es) = subst (λ (l : List ℕ). i < length l) (only_miss p m c es e) g in
        ap (λ (z : ℕ). get_or (set st.bits new m) (z + i) 0) a
        ∙ get_or-set_other st.bits new (get_or st.at c 0 + i) m 0 (apart l (dec_lt c p))
        ∙ F.has c i h l
        ∙ ap (λ (l : List ℕ). get_or l i 0) (sym (only_miss p m c es e))
      where
        fit_c : length (only c es) ≤ length (only c all)
        fit_c = omega (arith, fit c h, ap length (only_miss p m c es e))

        apart : i < length (only c es) → Dec (c < p) → get_or st.at c 0 + i ≢ new
        apart l (yes g) f = omega (arith, F.from c h, room, start_le all (suc c) p g)
        apart l (no g) f = let j : p < c = omega arith in omega (arith, F.from c h, room, above, fit_c, start_le all (suc p) c j)

pub fill : (P k : ℕ) (all es : List Edge) (st : Lists) → Inside P k es → ((c : ℕ) → c < P → length (only c es) ≤ length (only c all))
    → HoldsEdges P all [] st → HoldsEdges P all es (put_all es st)
unfolding put_all
fill P k all [] st I fit F = F
fill P k all (edge p m ∷ es) st I fit F =
    fill_one P all es p m (put_all es st) I.0 fit (fill P k all es st I.2 (λ c h. let a = fit c h in let b = only_tail p m c es in omega arith) F)

-- the cursors at the ends: nothing is filled yet
pub empty : (P : ℕ) (all : List Edge) (st : Lists) → length st.at ≡ suc P → length st.bits ≡ start all P → get_or st.at P 0 ≡ start all P
    → ((c : ℕ) → c < P → get_or st.at c 0 ≡ start all (suc c)) → HoldsEdges P all [] st
unfolding only
empty P all st l w e f = record { long = l; wide = w; last = e; from = λ c h. omega (arith, f c h); has = λ c i h g. absurd (omega arith) }

-- all is filled: the cursors are at the starts, and each check's list lies between its start and the next
pub record Listed (P : ℕ) (all : List Edge) (st : Lists) : Type 0 where
  pub long : length st.at ≡ suc P
  pub wide : length st.bits ≡ start all P
  pub begins : (c : ℕ) → c ≤ P → get_or st.at c 0 ≡ start all c
  pub lists : (c : ℕ) → c < P → slice (get_or st.at c 0) (get_or st.at (suc c) 0) st.bits ≡ only c all

pub listed : (P : ℕ) (all : List Edge) (st : Lists) → HoldsEdges P all all st → Listed P all st
unfolding start
listed P all st F = record { long = F.long; wide = F.wide; begins = begins; lists = lists }
  where
    begins : (c : ℕ) → c ≤ P → get_or st.at c 0 ≡ start all c
    begins c h = go (dec_lt c P)
      where
        go : Dec (c < P) → get_or st.at c 0 ≡ start all c
        go (yes g) = omega (arith, F.from c g)
        go (no g) = let e : c ≡ P = omega arith in ap (λ (z : ℕ). get_or st.at z 0) e ∙ F.last ∙ ap (start all) (sym e)

    lists : (c : ℕ) → c < P → slice (get_or st.at c 0) (get_or st.at (suc c) 0) st.bits ≡ only c all
    lists c h =
        ext_get_or 0 _ _ long (λ i g. at i (subst (λ (z : ℕ). i < z) long g))
      where
        next : get_or st.at (suc c) 0 ≡ get_or st.at c 0 + length (only c all)
        next = begins (suc c) h ∙ sym (F.from c h)

        long : length (slice (get_or st.at c 0) (get_or st.at (suc c) 0) st.bits) ≡ length (only c all)
        long = length-slice (get_or st.at c 0) (get_or st.at (suc c) 0) st.bits (omega (arith, begins (suc c) h, F.wide, start_le all (suc c) P h)) ∙ omega (arith, next)

        at : (i : ℕ) → i < length (only c all) → get_or (slice (get_or st.at c 0) (get_or st.at (suc c) 0) st.bits) i 0 ≡ get_or (only c all) i 0
        at i g =
            get_or-drop (get_or st.at c 0) (take (get_or st.at (suc c) 0) st.bits) i 0
            ∙ get_or-take (get_or st.at (suc c) 0) st.bits (get_or st.at c 0 + i) 0 (omega (arith, next))
            ∙ F.has c i h g

-- ---- for the loops
-- the state before edge e of the edges xs ++ e ∷ ys has room for e
pub room_next : (P k : ℕ) (xs : List Edge) (p m : ℕ) (ys : List Edge) (st : Lists) → Inside P k ys → p < P → RoomForEdges P (xs ++ edge p m ∷ ys) st
    → Ready p (put_all ys st)
unfolding only
room_next P k xs p m ys st I h r =
    (omega (arith, one.long), omega (arith, one.room p h, ap length (only_hit p m p [] refl)), one.fits p h)
  where
    one : RoomForEdges P (edge p m ∷ []) (put_all ys st)
    one = room_then P k (edge p m ∷ []) ys st I (room_later P xs (edge p m ∷ ys) st r)
