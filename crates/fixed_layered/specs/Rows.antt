-- The values of a row's variables at the end of a run, from all the edges that they have in it: gathered edge by edge, then settled, clamped once.
--
-- In order: a row's edges in a check stand together (`Grouped`); gathered (`Gathers`), check by check; settled (`CheckSettled`, `RowSettled`); the values
-- of a row at the end of the run (`RowWritten`), and of the flagged ones of the first rows (`Written`).
--
-- Not here: what one variable gathers (Gather); that its sums fit (Bounds, Sums).
use Rattle.std.proofs.Common.{◌≡◌, refl, true, false, eqb, get_or, set, length, take, drop, ℤ, nat_abs, sym, ap, ◌∙◌, true≢false, arith, add-one, eqb-true, eq-eqb, ne_eqb, get_or-set_same, get_or-set_other, List, ℕ, zero, suc, ◌+◌, ◌*◌, ◌-◌, ◌/◌, ◌≤◌, ◌<◌}
use Rattle.std.proofs.Math.Path.{subst}
use Rattle.std.proofs.Math.Bool.{Bool, cond}
use Rattle.std.proofs.Math.Decide.{ℕ_discrete, dec_lt}
use borrow.Rule.Slice.PartMut.{put_mid}
use Rattle.laws.specs.Choice.{eqb_sym}
use Rattle.laws.specs.Definitions.{put}
use Rattle.iteration.specs.Value.{sat_z}
use Rattle.iteration.specs.Check.{wrote}
use Rattle.iteration.specs.Iteration.{Code, degree, Sum, gather}
use Rattle.iteration.specs.CheckLaws.{wrote_other}
use Rattle.lane16.specs.Lanes.{int_at}
use Rattle.lane16.specs.Column.{column}
use Rattle.lane16.specs.ColumnLaws.{one_place, row_ends}
use Rattle.fixed_layered.specs.Sums.{SmallSums, EdgeGathered, Settled, plus, RowOf, LanesGathered, part_at, part_long, edge_gathered, edge_small}
use Rattle.fixed_conflicts.specs.Table.{Split}
use Rattle.iteration.specs.Full.{place_of}
use Rattle.fixed_layered.specs.Gather.{gather_at, gather_run_at, run_same, at_part, SameSum, same_sum, same_sum_more, same_sum_gather, same_sum_at}

-- the d edges from s are of the row of 374 variables from base on
abbrev pub InRow : (ℕ → ℕ) → ℕ → ℕ → ℕ → Type 0
InRow v base s d = (k : ℕ) → k < d → (base ≤ v (s + k)) × (v (s + k) < base + 374)

-- in each check of the run the row's edges are those from `from` up to `upto`
pub record Grouped (code : Code) (c : ℕ → ℕ) (m base from upto : ℕ) : Type 0 where
  pub split : (x k : ℕ) → x < m → k < degree code (c x) → Split from upto base k (code.rows (code.row_start (c x) + k))
  pub begins : (x : ℕ) → x < m → from ≤ degree code (c x)
  pub rises : from ≤ upto

-- ---- gathered: the sums of the row's variables, one after the other, lane by lane; those that were seen are as A says
pub record Gathers (lanes many : ℕ) (A : ℕ → ℕ → Sum) (seen : List Bool) (sums : List ℤ) : Type 0 where
  pub is : (i j : ℕ) → i < lanes → j < 374 → SameSum (record { seen = get_or seen j false; total = int_at sums (j * lanes + i) }) (A i j)
  pub small : (j : ℕ) → j < 374 → get_or seen j false ≡ true → SmallSums lanes (j * lanes) many sums

abbrev pub sum_at : ℕ → List Bool → List ℤ → ℕ → ℕ → Sum
sum_at lanes seen sums i j = record { seen = get_or seen j false; total = int_at sums (j * lanes + i) }

-- no sum that was seen is above what `many` edges make
abbrev pub Smalls : ℕ → ℕ → List Bool → List ℤ → Type 0
Smalls lanes many seen sums = (j : ℕ) → j < 374 → get_or seen j false ≡ true → SmallSums lanes (j * lanes) many sums

-- one edge, e, at `at`
pub record EdgeDone (n E lanes at e j : ℕ) (a : List ℤ) (seen : List Bool) (sums : List ℤ) (seen' : List Bool) (sums' : List ℤ) : Type 0 where
  pub sums_is : EdgeGathered lanes (j * lanes) (n + E + at) (n + e) (n + 2 * E + at) (get_or seen j false) a sums lanes sums'
  pub small : SmallSums lanes (j * lanes) (at + 1) sums'
  pub seen_is : seen' ≡ set seen j true

-- the sums of a variable of the row are there
pub sums_room : (v base lanes m u : ℕ) → v ≡ u → base ≤ u → u < base + 374 → 374 * lanes ≤ m → (v - base) * lanes + lanes ≤ m
sums_room v base lanes m u e lo hi h = omega (arith, row_ends (v - base) 374 lanes (omega arith))

-- and small enough for one edge more
pub sums_few : {lanes at j : ℕ} (seen : List Bool) {sums : List ℤ} (w : ℕ) → Smalls lanes at seen sums → j < 374 → w ≡ lanes → j * lanes + lanes ≤ length sums → at < 6000000
    → get_or seen j false ≡ true → (i : ℕ) → i < length (take w (drop (j * lanes) sums)) → nat_abs (int_at (take w (drop (j * lanes) sums)) i) ≤ 2000000000
sums_few {lanes} {at} {j} seen {sums} w s h e room few f i q =
    let k : i < lanes = omega (arith, part_long lanes (j * lanes) w sums room e) in
    subst (λ (x : ℤ). nat_abs x ≤ 2000000000) (sym (part_at lanes (j * lanes) w sums room e i k)) (omega (arith, (s j h f).small i k))

-- one edge, of variable v, from the slices of its rows and of its sums
pub edge_done : {n E E' lanes at e v u base : ℕ} (w : ℕ) {a : List ℤ} {seen : List Bool} {sums t new old y : List ℤ} → E' ≡ E → v ≡ u → base ≤ u → u < base + 374 → 374 * lanes ≤ length sums
    → w ≡ lanes → Smalls lanes at seen sums → RowOf lanes (n + E' + at) a t → RowOf lanes (n + e) a new → RowOf lanes (n + 2 * E' + at) a old
    → LanesGathered (get_or seen (v - base) false) t new old (take w (drop ((v - base) * lanes) sums)) (length (take w (drop ((v - base) * lanes) sums))) y
    → EdgeDone n E lanes at e (u - base) a seen sums (set seen (v - base) true) (put_mid ((v - base) * lanes) w sums y)
edge_done {n} {E} {E'} {lanes} {at} {e} {v} {u} {base} w {a} {seen} {sums} {t} {new} {old} {y} same is lo hi room f s T N O g =
    subst (λ (x : ℕ). EdgeDone n x lanes at e (u - base) a seen sums (set seen (v - base) true) (put_mid ((v - base) * lanes) w sums y)) same
    (subst (λ (x : ℕ). EdgeDone n E' lanes at e (x - base) a seen sums (set seen (v - base) true) (put_mid ((v - base) * lanes) w sums y)) is
    (let fits = sums_room v base lanes (length sums) u is lo hi room in
    record {
      sums_is = edge_gathered lanes ((v - base) * lanes) w sums fits f T N O g;
      small = edge_small lanes ((v - base) * lanes) w sums fits f T N O g (s (v - base) (omega arith));
      seen_is = refl;
    }))

apart : (lanes i j i' j' : ℕ) → i < lanes → i' < lanes → (j ≡ j' → ⊥) → j * lanes + i ≡ j' * lanes + i' → ⊥
apart lanes i j i' j' a b ne e = ne (one_place lanes j i j' i' a b e).0

plus_alike : (f : ℕ → ℤ) (tu ru ou : ℕ) (b : Bool) (s : ℤ) (a : Sum) → SameSum (record { seen = b; total = s }) a → plus b f tu ru ou s ≡ (gather (f tu) (f ru) (f ou) a).total
plus_alike f tu ru ou b s a h = (same_sum_gather (f tu) (f ru) (f ou) h).total refl

pub more : {lanes at many many' : ℕ} {sums : List ℤ} → many ≤ many' → SmallSums lanes at many sums → SmallSums lanes at many' sums
more h s = record { small = λ i q. omega (arith, s.small i q) }

module _ (n E lanes : ℕ) (v : ℕ → ℕ) (base s pl : ℕ) (a : List ℤ) (B : ℕ → ℕ → Sum) where
  -- what the row's variables have gathered with d edges more than B
  abbrev pub after : ℕ → ℕ → ℕ → Sum
  after d i j = gather_at n E v (base + j) s pl (column lanes a i) d (B i j)

  pub gathers_start : {seen : List Bool} {sums : List ℤ} → ((i j : ℕ) → sum_at lanes seen sums i j ≡ B i j) → Smalls lanes pl seen sums → Gathers lanes (pl + 0) (after 0) seen sums
  unfolding gather_at
  gathers_start {seen} {sums} e h =
      record { is = λ i j q r. subst (SameSum (sum_at lanes seen sums i j)) (e i j) (same_sum (sum_at lanes seen sums i j)); small = λ j r f. more (omega arith) (h j r f) }

  pub gathers_again : (d : ℕ) {seen seen' : List Bool} {sums sums' : List ℤ} (j : ℕ) → v (s + d) ≡ base + j → j < 374 → length seen ≡ 374 → Gathers lanes (pl + d) (after d) seen sums
      → EdgeDone n E lanes (pl + d) (s + d) j a seen sums seen' sums' → Gathers lanes (pl + (d + 1)) (after (d + 1)) seen' sums'
  unfolding gather_at
  gathers_again d {seen} {seen'} {sums} {sums'} j is small long g e =
      subst (λ (k : ℕ). Gathers lanes (pl + k) (after k) seen' sums') (sym (add-one d))
      (subst (λ (x : List Bool). Gathers lanes (pl + suc d) (after (suc d)) x sums') (sym e.seen_is)
      (record { is = λ i k q r. held i k q r (ℕ_discrete k j); small = λ k r f. bound k r f (ℕ_discrete k j) }))
    where
      new : ℕ → ℕ → Bool → Sum
      new i k b = cond b (gather (column lanes a i (n + E + (pl + d))) (column lanes a i (n + (s + d))) (column lanes a i (n + 2 * E + (pl + d))) (after d i k)) (after d i k)

      set_here : get_or (set seen j true) j false ≡ true
      set_here = get_or-set_same seen j true false (omega arith)

      held : (i k : ℕ) → i < lanes → k < 374 → Dec (k ≡ j) → SameSum (sum_at lanes (set seen j true) sums' i k) (new i k (eqb (v (s + d)) (base + k)))
      held i k q r (yes t) =
          subst (λ (y : ℕ). SameSum (sum_at lanes (set seen j true) sums' i y) (new i y (eqb (v (s + d)) (base + y)))) (sym t)
          (subst (λ (b : Bool). SameSum (sum_at lanes (set seen j true) sums' i j) (new i j b)) (sym (eq-eqb (v (s + d)) (base + j) is))
          (record {
            seen = set_here;
            total =
                λ f.
                e.sums_is.done i q
                ∙ plus_alike (column lanes a i) (n + E + (pl + d)) (n + (s + d)) (n + 2 * E + (pl + d)) (get_or seen j false) (int_at sums (j * lanes + i)) (after d i j)
                (g.is i j q small);
          }))
      held i k q r (no t) =
          subst (λ (b : Bool). SameSum (sum_at lanes (set seen j true) sums' i k) (new i k b)) (sym (ne_eqb (v (s + d)) (base + k) (λ f. t (omega (arith, is, f)))))
          (subst (λ (b : Bool). SameSum (record { seen = b; total = int_at sums' (k * lanes + i) }) (after d i k)) (sym (get_or-set_other seen j k true false t))
          (subst (λ (x : ℤ). SameSum (record { seen = get_or seen k false; total = x }) (after d i k)) (sym (e.sums_is.still (k * lanes + i) (λ i' q' f. apart lanes i k i' j q q' t f))) (g.is i k q r)))

      bound : (k : ℕ) → k < 374 → get_or (set seen j true) k false ≡ true → Dec (k ≡ j) → SmallSums lanes (k * lanes) (pl + suc d) sums'
      bound k r f (yes t) = subst (λ (y : ℕ). SmallSums lanes (y * lanes) (pl + suc d) sums') (sym t) (more (omega arith) e.small)
      bound k r f (no t) =
          let w = g.small k r (sym (get_or-set_other seen j k true false t) ∙ f) in
          record { small = λ i q. subst (λ (x : ℤ). nat_abs x ≤ 256 * (pl + suc d + 1)) (sym (e.sums_is.still (k * lanes + i) (λ i' q' y. apart lanes i k i' j q q' t y))) (omega (arith, w.small i q)) }

  -- ---- the row's edges of a whole check, u a variable of the row
  pub gathers_end : {d d' : ℕ} {seen : List Bool} {sums : List ℤ} → d ≡ d' → Gathers lanes (pl + d) (after d) seen sums → Gathers lanes (pl + d') (after d') seen sums
  gathers_end {d} {d'} {seen} {sums} e g = subst (λ (k : ℕ). Gathers lanes (pl + k) (after k) seen sums) e g

module _ {code : Code} {c : ℕ → ℕ} {m base from upto : ℕ} (g : Grouped code c m base from upto) (n E : ℕ) {x : ℕ} (h : x < m) (end : ℕ) (up : end ≤ upto) (most : end ≤ degree code (c x)) (least : from ≤ end) (all : end < upto → end ≡ degree code (c x)) where
  pub part_is : (u : ℕ) (f : ℕ → ℤ) (a : Sum) → base ≤ u → u < base + 374
      → gather_at n E code.rows u (code.row_start (c x)) (place_of code c x) f (degree code (c x)) a ≡ gather_at n E code.rows u (code.row_start (c x) + from) (place_of code c x + from) f (end - from) a
  part_is u f a lo hi =
      at_part n E code.rows u (code.row_start (c x)) (place_of code c x) f a from end (degree code (c x)) least most
      (λ k q e. omega (arith, (g.split x k h (omega arith)).before q, e))
      (λ k q r e. omega (arith, (g.split x k h r).behind (behind k q r (dec_lt end upto)), e))
    where
      behind : (k : ℕ) → end ≤ k → k < degree code (c x) → Dec (end < upto) → upto ≤ k
      behind k q r (yes d) = absurd (omega (arith, all d))
      behind k q r (no d) = omega arith

  pub part_in : InRow code.rows base (code.row_start (c x) + from) (end - from)
  part_in k q =
      let e : code.row_start (c x) + (from + k) ≡ code.row_start (c x) + from + k = omega arith in
      let s = g.split x (from + k) h (omega arith) in
      let lo = s.from (omega arith) in
      let hi = s.upto (omega arith) in
      (subst (λ (y : ℕ). base ≤ code.rows y) e lo, subst (λ (y : ℕ). code.rows y < base + 374) e hi)

-- after the first x checks of the run
abbrev pub run_sum : ℕ → ℕ → Code → (ℕ → ℕ) → ℕ → ℕ → List ℤ → ℕ → ℕ → ℕ → Sum
run_sum n E code c base lanes a x i j = gather_run_at n E code c (base + j) (column lanes a i) x

pub row_start : (n E : ℕ) (code : Code) (c : ℕ → ℕ) (base lanes : ℕ) (a : List ℤ) (seen : List Bool) (sums : List ℤ) → ((j : ℕ) → get_or seen j false ≡ false)
    → Gathers lanes (place_of code c 0) (run_sum n E code c base lanes a 0) seen sums
unfolding gather_run_at
row_start n E code c base lanes a seen sums zeros =
    record {
      is = λ i j q r. record { seen = zeros j; total = λ e. absurd (true≢false (sym e ∙ zeros j)) };
      small = λ j r e. absurd (true≢false (sym e ∙ zeros j));
    }

pub row_again : (n E : ℕ) {code : Code} {c : ℕ → ℕ} {m base from upto lanes : ℕ} (a : List ℤ) {x end s pl : ℕ} {seen seen' : List Bool} {sums sums' : List ℤ}
    → Grouped code c m base from upto → x < m → end ≤ upto → end ≤ degree code (c x)
    → from ≤ end → (end < upto → end ≡ degree code (c x)) → s ≡ code.row_start (c x) → pl ≡ place_of code c x → Gathers lanes (place_of code c x) (run_sum n E code c base lanes a x) seen sums
    → Gathers lanes (pl + from + (end - from)) (λ i j. gather_at n E code.rows (base + j) (s + from) (pl + from) (column lanes a i) (end - from) (sum_at lanes seen sums i j)) seen' sums'
    → Gathers lanes (place_of code c (x + 1)) (run_sum n E code c base lanes a (x + 1)) seen' sums'
unfolding gather_run_at place_of
row_again n E {code} {c} {m} {base} {from} {upto} {lanes} a {x} {end} {s} {pl} {seen} {seen'} {sums} {sums'} g h up most least all e f before k =
    subst (λ (y : ℕ). Gathers lanes (place_of code c y) (run_sum n E code c base lanes a y) seen' sums') (sym (add-one x))
    (record {
      is = λ i j q r.
          same_sum_more (k.is i j q r)
          (subst (SameSum (gather_at n E code.rows (base + j) (s + from) (pl + from) (column lanes a i) (end - from) (sum_at lanes seen sums i j)))
          ((λ y. gather_at n E code.rows (base + j) (e y + from) (f y + from) (column lanes a i) (end - from) (run_sum n E code c base lanes a x i j))
          ∙ sym (part_is g n E h end up most least all (base + j) (column lanes a i) (run_sum n E code c base lanes a x i j) (omega arith) (omega arith)))
          (same_sum_at n E code.rows (base + j) (s + from) (pl + from) (column lanes a i) (end - from) (before.is i j q r)));
      small = λ j r y. more (omega (arith, f)) (k.small j r y);
    })

-- ---- settled: every edge writes its variable's value
pub record CheckSettled (v : ℕ → ℕ) (base s lanes : ℕ) (sums a : List ℤ) (d : ℕ) (a' : List ℤ) : Type 0 where
  pub is : (i : ℕ) → i < lanes → column lanes a' i ≡ wrote (λ k. v (s + k)) (λ k. sat_z (int_at sums ((v (s + k) - base) * lanes + i))) (column lanes a i) d

pub settled_check_start : (v : ℕ → ℕ) (base s lanes : ℕ) (sums a : List ℤ) → CheckSettled v base s lanes sums a 0 a
unfolding wrote
settled_check_start v base s lanes sums a = record { is = λ i q. refl }

pub settled_check_again : {v : ℕ → ℕ} {base s lanes : ℕ} {sums a : List ℤ} {d : ℕ} {a' a'' : List ℤ} {u : ℕ} → u ≡ v (s + d) → CheckSettled v base s lanes sums a d a'
    → Settled lanes u ((u - base) * lanes) sums a' lanes a''
    → CheckSettled v base s lanes sums a (d + 1) a''
unfolding wrote
settled_check_again {v} {base} {s} {lanes} {sums} {a} {d} {a'} {a''} {u} e c k =
    subst (λ (j : ℕ). CheckSettled v base s lanes sums a j a'') (sym (add-one d))
    (record { is = λ i q. k.done i q q ∙ (λ j. put (c.is i q j) (e j) (sat_z (int_at sums ((e j - base) * lanes + i)))) })

-- u has its value once an edge of it was passed
wrote_seen : (n E : ℕ) (v : ℕ → ℕ) (u s pl : ℕ) (F : ℕ → ℤ) (val : ℕ → ℤ) (f g : ℕ → ℤ) (d : ℕ) (a : Sum) → g u ≡ cond a.seen (val u) (f u)
    → wrote (λ k. v (s + k)) (λ k. val (v (s + k))) g d u ≡ cond (gather_at n E v u s pl F d a).seen (val u) (f u)
unfolding wrote put gather_at
wrote_seen n E v u s pl F val f g zero a h = h
wrote_seen n E v u s pl F val f g (suc d) a h = go (eqb (v (s + d)) u) refl (wrote_seen n E v u s pl F val f g d a h)
  where
    was : ℤ
    was = wrote (λ k. v (s + k)) (λ k. val (v (s + k))) g d u

    go : (b : Bool) → eqb (v (s + d)) u ≡ b → was ≡ cond (gather_at n E v u s pl F d a).seen (val u) (f u)
        → cond (eqb u (v (s + d))) (val (v (s + d))) was
        ≡ cond (cond b (gather (F (n + E + (pl + d))) (F (n + (s + d))) (F (n + 2 * E + (pl + d))) (gather_at n E v u s pl F d a)) (gather_at n E v u s pl F d a)).seen (val u) (f u)
    go true e ih = ap (λ (b : Bool). cond b (val (v (s + d))) was) (eqb_sym u (v (s + d)) ∙ e) ∙ ap val (eqb-true (v (s + d)) u e)
    go false e ih = ap (λ (b : Bool). cond b (val (v (s + d))) was) (eqb_sym u (v (s + d)) ∙ e) ∙ ih

-- after the first x checks
pub record RowSettled (n E : ℕ) (code : Code) (c : ℕ → ℕ) (base lanes : ℕ) (sums a : List ℤ) (x : ℕ) (a' : List ℤ) : Type 0 where
  pub in_row : (i u : ℕ) → i < lanes → base ≤ u → u < base + 374
      → column lanes a' i u ≡ cond (gather_run_at n E code c u (column lanes a i) x).seen (sat_z (int_at sums ((u - base) * lanes + i))) (column lanes a i u)
  pub others : (i u : ℕ) → i < lanes → (base ≤ u → u < base + 374 → ⊥) → column lanes a' i u ≡ column lanes a i u

pub settled_row_start : (n E : ℕ) (code : Code) (c : ℕ → ℕ) (base lanes : ℕ) (sums a : List ℤ) → RowSettled n E code c base lanes sums a 0 a
unfolding gather_run_at
settled_row_start n E code c base lanes sums a = record { in_row = λ i u q l h. refl; others = λ i u q h. refl }

pub settled_row_again : {n E : ℕ} {code : Code} {c : ℕ → ℕ} {m base from upto lanes : ℕ} {sums a a' a'' : List ℤ} {x end s : ℕ} → Grouped code c m base from upto → x < m
    → end ≤ upto → end ≤ degree code (c x) → from ≤ end
    → (end < upto → end ≡ degree code (c x)) → s ≡ code.row_start (c x) → RowSettled n E code c base lanes sums a x a' → CheckSettled code.rows base (s + from) lanes sums a' (end - from) a''
    → RowSettled n E code c base lanes sums a (x + 1) a''
unfolding gather_run_at
settled_row_again {n} {E} {code} {c} {m} {base} {from} {upto} {lanes} {sums} {a} {a'} {a''} {x} {end} {s} g h up most least all e r k =
    subst (λ (y : ℕ). RowSettled n E code c base lanes sums a y a'') (sym (add-one x))
    (record {
      in_row = λ i u q lo hi.
          ap (λ (f : ℕ → ℤ). f u) (here i q)
          ∙ wrote_seen n E code.rows u S (place_of code c x + from) (column lanes a i) (λ w. sat_z (int_at sums ((w - base) * lanes + i))) (column lanes a i) (column lanes a' i) (end - from) (gather_run_at n E code c u (column lanes a i) x) (r.in_row i u q lo hi)
          ∙ ap (λ (y : Sum). cond y.seen (sat_z (int_at sums ((u - base) * lanes + i))) (column lanes a i u)) (sym (part_is g n E h end up most least all u (column lanes a i) (gather_run_at n E code c u (column lanes a i) x) lo hi));
      others = λ i u q no.
          ap (λ (f : ℕ → ℤ). f u) (here i q)
          ∙ wrote_other (λ k. code.rows (S + k)) (λ k. sat_z (int_at sums ((code.rows (S + k) - base) * lanes + i))) (column lanes a' i) (end - from) u
          (λ j l y. let w = part_in g n E h end up most least all j l in no (omega (arith, w.0, y)) (omega (arith, w.1, y)))
          ∙ r.others i u q no;
    })
  where
    S : ℕ
    S = code.row_start (c x) + from

    here : (i : ℕ) → i < lanes → column lanes a'' i ≡ wrote (λ k. code.rows (S + k)) (λ k. sat_z (int_at sums ((code.rows (S + k) - base) * lanes + i))) (column lanes a' i) (end - from)
    here i q = k.is i q ∙ (λ y. wrote (λ k. code.rows (e y + from + k)) (λ k. sat_z (int_at sums ((code.rows (e y + from + k) - base) * lanes + i))) (column lanes a' i) (end - from))

-- ---- the value of variable u at the end of the run
abbrev pub written_at : ℕ → ℕ → Code → (ℕ → ℕ) → ℕ → (ℕ → ℤ) → ℕ → ℤ
written_at n E code c m f u = cond (gather_run_at n E code c u f m).seen (sat_z (gather_run_at n E code c u f m).total) (f u)

pub record RowWritten (n E : ℕ) (code : Code) (c : ℕ → ℕ) (m base lanes : ℕ) (a a' : List ℤ) : Type 0 where
  pub in_row : (i u : ℕ) → i < lanes → base ≤ u → u < base + 374 → column lanes a' i u ≡ written_at n E code c m (column lanes a i) u
  pub others : (i u : ℕ) → i < lanes → (base ≤ u → u < base + 374 → ⊥) → column lanes a' i u ≡ column lanes a i u

pub row_written : {n E : ℕ} {code : Code} {c : ℕ → ℕ} {m base lanes many : ℕ} {seen : List Bool} {sums a a' : List ℤ}
    → Gathers lanes many (run_sum n E code c base lanes a m) seen sums → RowSettled n E code c base lanes sums a m a'
    → RowWritten n E code c m base lanes a a'
row_written {n} {E} {code} {c} {m} {base} {lanes} {many} {seen} {sums} {a} {a'} g r =
    record {
      in_row = λ i u q lo hi. r.in_row i u q lo hi ∙ value i u q lo hi (gather_run_at n E code c u (column lanes a i) m).seen refl;
      others = r.others;
    }
  where
    value : (i u : ℕ) → i < lanes → base ≤ u → u < base + 374 → (b : Bool) → (gather_run_at n E code c u (column lanes a i) m).seen ≡ b
        → cond b (sat_z (int_at sums ((u - base) * lanes + i))) (column lanes a i u) ≡ cond b (sat_z (gather_run_at n E code c u (column lanes a i) m).total) (column lanes a i u)
    value i u q lo hi true e =
        let y : base + (u - base) ≡ u = omega arith in
        let w = g.is i (u - base) q (omega arith) in
        let s = ap (λ (j : ℕ). (gather_run_at n E code c j (column lanes a i) m).seen) y in
        ap sat_z (w.total (w.seen ∙ s ∙ e) ∙ ap (λ (j : ℕ). (gather_run_at n E code c j (column lanes a i) m).total) y)
    value i u q lo hi false e = refl

-- ---- the flagged ones of the first g rows
pub record Written (n E : ℕ) (code : Code) (c : ℕ → ℕ) (m lanes : ℕ) (flags : List Bool) (a : List ℤ) (g : ℕ) (a' : List ℤ) : Type 0 where
  pub done : (i u : ℕ) → i < lanes → u < 374 * g → get_or flags (u / 374) false ≡ true → column lanes a' i u ≡ written_at n E code c m (column lanes a i) u
  pub still : (i u : ℕ) → i < lanes → (u < 374 * g → get_or flags (u / 374) false ≡ false) → column lanes a' i u ≡ column lanes a i u

pub written_start : (n E : ℕ) (code : Code) (c : ℕ → ℕ) (m lanes : ℕ) (flags : List Bool) (a : List ℤ) → Written n E code c m lanes flags a 0 a
written_start n E code c m lanes flags a = record { done = λ i u q h. absurd (omega (arith, h)); still = λ i u q h. refl }

-- row g, if it is flagged
pub record FlagWritten (n E : ℕ) (code : Code) (c : ℕ → ℕ) (m lanes : ℕ) (flags : List Bool) (g : ℕ) (a a' : List ℤ) : Type 0 where
  pub flagged : get_or flags g false ≡ true → RowWritten n E code c m (374 * g) lanes a a'
  pub plain : get_or flags g false ≡ false → a' ≡ a

pub written_again : {n E : ℕ} {code : Code} {c : ℕ → ℕ} {m lanes : ℕ} {flags : List Bool} {a : List ℤ} {g : ℕ} {a' a'' : List ℤ} → (get_or flags g false ≡ true → 374 * g + 374 ≤ n)
    → Written n E code c m lanes flags a g a'
    → FlagWritten n E code c m lanes flags g a' a'' → Written n E code c m lanes flags a (g + 1) a''
written_again {n} {E} {code} {c} {m} {lanes} {flags} {a} {g} {a'} {a''} low w k = go (get_or flags g false) refl
  where
    -- the number of u's row
    row : (u : ℕ) → 374 * g ≤ u → u < 374 * g + 374 → u / 374 ≡ g
    row u lo hi = omega arith

    go : (b : Bool) → get_or flags g false ≡ b → Written n E code c m lanes flags a (g + 1) a''
    go false e =
        record {
          done =
              λ i u q h f.
              ap (λ (x : List ℤ). column lanes x i u) (k.plain e)
              ∙ w.done i u q (below u h (λ r. true≢false (sym f ∙ ap (λ (j : ℕ). get_or flags j false) r ∙ e)) (dec_lt u (374 * g))) f;
          still = λ i u q h. ap (λ (x : List ℤ). column lanes x i u) (k.plain e) ∙ w.still i u q (λ r. h (omega arith));
        }
      where
        below : (u : ℕ) → u < 374 * (g + 1) → (u / 374 ≡ g → ⊥) → Dec (u < 374 * g) → u < 374 * g
        below u h no' (yes r) = r
        below u h no' (no r) = absurd (no' (row u (omega arith) (omega arith)))
    go true e =
        record {
          done = λ i u q h f. split i u q h f (dec_lt u (374 * g));
          still = λ i u q h. v.others i u q (λ lo hi. true≢false (sym e ∙ ap (λ (j : ℕ). get_or flags j false) (sym (row u lo hi)) ∙ h (omega arith))) ∙ w.still i u q (λ r. h (omega arith));
        }
      where
        v : RowWritten n E code c m (374 * g) lanes a' a''
        v = k.flagged e

        -- what stands behind the values is as it was
        kept : (i : ℕ) → i < lanes → (u : ℕ) → n ≤ u → column lanes a' i u ≡ column lanes a i u
        kept i q u h = w.still i u q (λ r. absurd (omega (arith, low e)))

        split : (i u : ℕ) → i < lanes → u < 374 * (g + 1) → get_or flags (u / 374) false ≡ true → Dec (u < 374 * g) → column lanes a'' i u ≡ written_at n E code c m (column lanes a i) u
        split i u q h f (yes r) = v.others i u q (λ lo hi. omega arith) ∙ w.done i u q r f
        split i u q h f (no r) =
            v.in_row i u q (omega arith) (omega arith)
            ∙ (λ j. cond (run_same n E code c u (column lanes a' i) (column lanes a i) m (kept i q) j).seen (sat_z (run_same n E code c u (column lanes a' i) (column lanes a i) m (kept i q) j).total) (w.still i u q (λ x. absurd (r x)) j))

pub written_end : {n E : ℕ} {code : Code} {c : ℕ → ℕ} {m lanes : ℕ} {flags : List Bool} {a : List ℤ} {g g' : ℕ} {a' : List ℤ} → g ≡ g' → Written n E code c m lanes flags a g a'
    → Written n E code c m lanes flags a g' a'
written_end {n} {E} {code} {c} {m} {lanes} {flags} {a} {g} {g'} {a'} e w = subst (λ (j : ℕ). Written n E code c m lanes flags a j a') e w

pub settled_check_end : {v : ℕ → ℕ} {base s lanes : ℕ} {sums a : List ℤ} {d d' : ℕ} {a' : List ℤ} → d ≡ d' → CheckSettled v base s lanes sums a d a' → CheckSettled v base s lanes sums a d' a'
settled_check_end {v} {base} {s} {lanes} {sums} {a} {d} {d'} {a'} e c = subst (λ (j : ℕ). CheckSettled v base s lanes sums a j a') e c

pub settled_row_end : {n E : ℕ} {code : Code} {c : ℕ → ℕ} {base lanes : ℕ} {sums a : List ℤ} {x m : ℕ} {a' : List ℤ} → x ≡ m → RowSettled n E code c base lanes sums a x a'
    → RowSettled n E code c base lanes sums a m a'
settled_row_end {n} {E} {code} {c} {base} {lanes} {sums} {a} {x} {m} {a'} e r = subst (λ (j : ℕ). RowSettled n E code c base lanes sums a j a') e r
