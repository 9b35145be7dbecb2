-- A variable with several edges in the run: what each lane has gathered.
--
-- In order: the sums of a variable's lanes with one edge more, as a slice of their own (`LanesGathered`) and among all sums (`EdgeGathered`); its values from
-- its sums, likewise (`LanesSettled`, `Settled`).
use Rattle.std.specs.Prelude.{◌≡◌, refl, Bool, true, false, cond, List, ℕ, ◌+◌, ◌*◌, ◌≤◌, ◌<◌, set, length, take, drop, ℤ, pos, nat_abs, ◌+ℤ◌, ◌-ℤ◌}
use Rattle.std.proofs.Common.{sym, ap, ◌∙◌, subst, arith, zero-add, take_all, length-set, length-append, length-take, length-drop, SFits}
use Rattle.std.proofs.lemmas.List.{get_or-take, get_or-drop}
use Rattle.std.specs.Int.{w8}
use borrow.Rule.Slice.PartMut.{put_mid}
use Rattle.laws.specs.Definitions.{put}
use Rattle.laws.specs.Stores.{grown, kept}
use Rattle.iteration.specs.Value.{sat_z}
use Rattle.lane16.specs.Lanes.{int_at}
use Rattle.lane16.specs.Column.{column, Stored}
use Rattle.lane16.specs.ColumnLaws.{Copied, copied, copied_column}
use Rattle.fixed_layered.specs.Bounds.{abs_add, abs_sub, abs_byte}

-- after m edges no lane's sum is above 256 (m + 1); the sums begin at `at`
pub record SmallSums (lanes at m : ℕ) (sums : List ℤ) : Type 0 where
  pub small : (i : ℕ) → i < lanes → nat_abs (int_at sums (at + i)) ≤ 256 * (m + 1)

-- nothing gathered: t + new; else (new − old) added
abbrev pub plus : Bool → (ℕ → ℤ) → ℕ → ℕ → ℕ → ℤ → ℤ
plus seen f tu ru ou s = cond seen (s +ℤ (f ru -ℤ f ou)) (f tu +ℤ f ru)

-- row u of every lane
pub record RowOf (lanes u : ℕ) (a r : List ℤ) : Type 0 where
  pub long : length r ≡ lanes
  pub is : (i : ℕ) → i < lanes → int_at r i ≡ column lanes a i u

-- ---- one edge more of a variable, with its t, its message and its old message, by the first k lanes
pub record LanesGathered (seen : Bool) (t new old sums : List ℤ) (k : ℕ) (sums' : List ℤ) : Type 0 where
  pub long : length sums' ≡ length sums
  pub done : (i : ℕ) → i < k → int_at sums' i ≡ cond seen (int_at sums i +ℤ (int_at new i -ℤ int_at old i)) (int_at t i +ℤ int_at new i)
  pub small : (i : ℕ) → i < k → nat_abs (int_at sums' i) ≤ cond seen (nat_abs (int_at sums i)) 0 + 256
  pub still : (i : ℕ) → k ≤ i → int_at sums' i ≡ int_at sums i

pub lanes_again : {seen : Bool} {t new old sums sums' : List ℤ} {k : ℕ} (y : ℤ) → LanesGathered seen t new old sums k sums' → k < length sums
    → SFits w8 (int_at t k) → SFits w8 (int_at new k) → SFits w8 (int_at old k)
    → y ≡ cond seen (int_at sums' k +ℤ (int_at new k -ℤ int_at old k)) (int_at t k +ℤ int_at new k) → LanesGathered seen t new old sums (k + 1) (set sums' k y)
lanes_again {seen} {t} {new} {old} {sums} {sums'} {k} y g h ft fn fo e =
    record {
      long = simp length-set g.long;
      done = grown (pos 0) (λ i x. x ≡ cond seen (int_at sums i +ℤ (int_at new i -ℤ int_at old i)) (int_at t i +ℤ int_at new i)) sums' k y (omega (arith, g.long)) g.done here;
      small =
          grown (pos 0) (λ i x. nat_abs x ≤ cond seen (nat_abs (int_at sums i)) 0 + 256) sums' k y (omega (arith, g.long)) g.small
          (subst (λ (x : ℤ). nat_abs x ≤ cond seen (nat_abs (int_at sums k)) 0 + 256) (sym here) (bound seen));
      still = kept (pos 0) sums' sums k y g.still;
    }
  where
    here : y ≡ cond seen (int_at sums k +ℤ (int_at new k -ℤ int_at old k)) (int_at t k +ℤ int_at new k)
    here = e ∙ ap (λ (x : ℤ). cond seen (x +ℤ (int_at new k -ℤ int_at old k)) (int_at t k +ℤ int_at new k)) (g.still k (omega arith))

    bound : (b : Bool) → nat_abs (cond b (int_at sums k +ℤ (int_at new k -ℤ int_at old k)) (int_at t k +ℤ int_at new k)) ≤ cond b (nat_abs (int_at sums k)) 0 + 256
    bound true =
        omega (
          arith,
          abs_add (int_at sums k) (int_at new k -ℤ int_at old k),
          abs_sub (int_at new k) (int_at old k),
          abs_byte (int_at new k) fn,
          abs_byte (int_at old k) fo,
        )
    bound false = omega (arith, abs_add (int_at t k) (int_at new k), abs_byte (int_at t k) ft, abs_byte (int_at new k) fn)

-- ---- one edge, by the first k lanes
pub record EdgeGathered (lanes at tu ru ou : ℕ) (seen : Bool) (a sums : List ℤ) (k : ℕ) (sums' : List ℤ) : Type 0 where
  pub long : length sums' ≡ length sums
  pub done : (i : ℕ) → i < k → int_at sums' (at + i) ≡ plus seen (column lanes a i) tu ru ou (int_at sums (at + i))
  pub still : (j : ℕ) → ((i : ℕ) → i < k → j ≡ at + i → ⊥) → int_at sums' j ≡ int_at sums j

-- from the part of the sums that a variable's lanes have
module _ (lanes at w : ℕ) (sums : List ℤ) (room : at + lanes ≤ length sums) (e : w ≡ lanes) where
  pub part_at : (i : ℕ) → i < lanes → int_at (take w (drop at sums)) i ≡ int_at sums (at + i)
  part_at i q = get_or-take w (drop at sums) i (pos 0) (omega arith) ∙ get_or-drop at sums i (pos 0)

  pub part_long : length (take w (drop at sums)) ≡ lanes
  part_long = omega (arith, length-take {A = ℤ}, length-drop {A = ℤ})

  module _ {tu ru ou : ℕ} {seen : Bool} {a t new old y : List ℤ} (T : RowOf lanes tu a t) (N : RowOf lanes ru a new) (O : RowOf lanes ou a old) (g : LanesGathered seen t new old (take w (drop at sums)) (length (take w (drop at sums))) y) where
    pub edge_gathered : EdgeGathered lanes at tu ru ou seen a sums lanes (put_mid at w sums y)
    edge_gathered =
        let long : length y ≡ lanes = g.long ∙ part_long in
        let c : Copied at lanes y sums (put_mid at w sums y) = copied at w lanes y sums y (sym (take_all lanes y (omega arith))) e (omega arith) room in
        record {
          long = omega (arith, length-append {A = ℤ}, length-take {A = ℤ}, length-drop {A = ℤ});
          done = λ i q.
              c.put_in i q
              ∙ g.done i (omega (arith, part_long))
              ∙ (λ j. cond seen (part_at i q j +ℤ (N.is i q j -ℤ O.is i q j)) (T.is i q j +ℤ N.is i q j));
          still = λ j off. c.kept j off;
        }

    pub edge_small : {m : ℕ} → (seen ≡ true → SmallSums lanes at m sums) → SmallSums lanes at (m + 1) (put_mid at w sums y)
    edge_small {m} before =
        let long : length y ≡ lanes = g.long ∙ part_long in
        let c : Copied at lanes y sums (put_mid at w sums y) = copied at w lanes y sums y (sym (take_all lanes y (omega arith))) e (omega arith) room in
        record {
          small = λ i q.
              subst (λ (x : ℤ). nat_abs x ≤ 256 * (m + 1 + 1)) (sym (c.put_in i q))
              (upto seen (nat_abs (int_at (take w (drop at sums)) i)) (nat_abs (int_at y i)) m (λ f. subst (λ (x : ℤ). nat_abs x ≤ 256 * (m + 1)) (sym (part_at i q)) ((before f).small i q)) (g.small i (omega (arith, part_long))));
        }
      where
        upto : (b : Bool) (s x m : ℕ) → (b ≡ true → s ≤ 256 * (m + 1)) → x ≤ cond b s 0 + 256 → x ≤ 256 * (m + 1 + 1)
        upto true s x m f h = omega (arith, f refl)
        upto false s x m f h = omega arith

-- ---- the values of the first k lanes from their sums, clamped once
pub record LanesSettled (sums : List ℤ) (k : ℕ) (v : List ℤ) : Type 0 where
  pub is : (i : ℕ) → i < k → int_at v i ≡ sat_z (int_at sums i)

pub values_again : {sums v : List ℤ} {k : ℕ} (x : ℤ) → LanesSettled sums k v → k < length v → x ≡ sat_z (int_at sums k) → LanesSettled sums (k + 1) (set v k x)
values_again {sums} {v} {k} x g h e = record { is = grown (pos 0) (λ i y. y ≡ sat_z (int_at sums i)) v k x h g.is e }

-- ---- row u of the first k lanes from their sums, clamped once
pub record Settled (lanes u at : ℕ) (sums a : List ℤ) (k : ℕ) (a' : List ℤ) : Type 0 where
  pub done : (i : ℕ) → i < k → i < lanes → column lanes a' i ≡ put (column lanes a i) u (sat_z (int_at sums (at + i)))
  pub still : (i : ℕ) → k ≤ i → i < lanes → column lanes a' i ≡ column lanes a i

pub row_settled : {lanes u at : ℕ} (k w : ℕ) {sums a v : List ℤ} → u * lanes + lanes ≤ length a → at + lanes ≤ length sums → k ≡ lanes → w ≡ lanes → length v ≡ lanes
    → LanesSettled (take w (drop at sums)) (length (take w (drop at sums))) v → Settled lanes u at sums a lanes (put_mid (u * lanes) k a v)
row_settled {lanes} {u} {at} k w {sums} {a} {v} room fits e f long g =
    let z : u * lanes ≡ u * lanes + 0 = omega arith in
    let c : Copied (u * lanes + 0) lanes v a (put_mid (u * lanes) k a v) =
    subst (λ (b : ℕ). Copied b lanes v a (put_mid (u * lanes) k a v)) z (copied (u * lanes) k lanes v a v (sym (take_all lanes v (omega arith))) e (omega arith) room) in
    let s : Stored lanes lanes u 0 v a (put_mid (u * lanes) k a v) = copied_column c (omega arith) in
    record {
      done = λ i q _.
          subst (λ (j : ℕ). column lanes (put_mid (u * lanes) k a v) j ≡ put (column lanes a j) u (int_at v i)) (zero-add i) (s.inside i q)
          ∙ ap (put (column lanes a i) u) (g.is i (omega (arith, part_long lanes at w sums fits f)) ∙ ap sat_z (part_at lanes at w sums fits f i q));
      still = λ i q l. absurd (omega arith);
    }

pub edge_start : (lanes at tu ru ou : ℕ) (seen : Bool) (a sums : List ℤ) → EdgeGathered lanes at tu ru ou seen a sums 0 sums
edge_start lanes at tu ru ou seen a sums = record { long = refl; done = λ i q. absurd (omega (arith, q)); still = λ i q. refl }

pub edge_end : {lanes at tu ru ou : ℕ} {seen : Bool} {a sums sums' : List ℤ} {k : ℕ} → k ≡ lanes → EdgeGathered lanes at tu ru ou seen a sums k sums'
    → EdgeGathered lanes at tu ru ou seen a sums lanes sums'
edge_end {lanes} {at} {tu} {ru} {ou} {seen} {a} {sums} {sums'} {k} e g = subst (λ (j : ℕ). EdgeGathered lanes at tu ru ou seen a sums j sums') e g

pub settled_start : (lanes u at : ℕ) (sums a : List ℤ) → Settled lanes u at sums a 0 a
settled_start lanes u at sums a = record { done = λ i q h. absurd (omega (arith, q)); still = λ i q h. refl }

pub settled_end : {lanes u at : ℕ} {sums a a' : List ℤ} {k : ℕ} → k ≡ lanes → Settled lanes u at sums a k a' → Settled lanes u at sums a lanes a'
settled_end {lanes} {u} {at} {sums} {a} {a'} {k} e v = subst (λ (j : ℕ). Settled lanes u at sums a j a') e v
