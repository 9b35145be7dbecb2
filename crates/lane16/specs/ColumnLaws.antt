-- Columns worked on chunk after chunk; the places of rows and lanes; a run of stores.
use Rattle.std.specs.Prelude.{◌≡◌, refl, Bool, true, false, cond, List, ◌++◌, ℕ, ◌+◌, ◌*◌, ◌-◌, ◌/◌, ◌%◌, ◌≤◌, ◌<◌, ltb, eqb, get_or, take, drop, length, ℤ, pos}
use Rattle.std.proofs.Common.{sym, ap, subst, ◌∙◌, arith, mul-le-mul_right, ltb-true, ltb-false, eqb-true, length-take-le}
use Rattle.std.proofs.lemmas.Bool.{eqb-false}
use Rattle.std.proofs.lemmas.List.{get_or-append-add, get_or_append_left, get_or-append_right, get_or-take, get_or-drop}
use borrow.Rule.Slice.PartMut.{put_mid}
use Rattle.std.proofs.Math.Arith.{digits_div, digits_mod}
use Rattle.laws.specs.Definitions.{put}
use Rattle.lane16.specs.Lanes.{int_at}
use Rattle.lane16.specs.Column.{column, Stored, Part}

pub stored_width : {w w' lanes u at : ℕ} {x old new : List ℤ} → w ≡ w' → Stored w lanes u at x old new → Stored w' lanes u at x old new
stored_width {w} {w'} {lanes} {u} {at} {x} {old} {new} e c = subst (λ (j : ℕ). Stored j lanes u at x old new) e c

pub part_offset : (F : ℤ → (ℕ → ℤ) → ℕ → ℤ) {o o' : ℤ} {w lanes at : ℕ} {a a' : List ℤ} → o ≡ o' → Part (F o) w lanes at a a' → Part (F o') w lanes at a a'
part_offset F {o} {o'} {w} {lanes} {at} {a} {a'} e c = subst (λ (y : ℤ). Part (F y) w lanes at a a') e c

-- the columns of the lanes below at are mapped by F, and the others are as they were
pub record Upto (F : (ℕ → ℤ) → ℕ → ℤ) (lanes at : ℕ) (old new : List ℤ) : Type 0 where
  pub done : (i : ℕ) → i < at → i < lanes → column lanes new i ≡ F (column lanes old i)
  pub rest : (i : ℕ) → at ≤ i → i < lanes → column lanes new i ≡ column lanes old i

-- every column is mapped by F
abbrev pub Mapped : ((ℕ → ℤ) → ℕ → ℤ) → ℕ → List ℤ → List ℤ → Type 0
Mapped F lanes old new = (i : ℕ) → i < lanes → column lanes new i ≡ F (column lanes old i)

pub upto_start : (F : (ℕ → ℤ) → ℕ → ℤ) (lanes : ℕ) (a : List ℤ) → Upto F lanes 0 a a
upto_start F lanes a = record { done = λ i q. absurd (omega (arith, q)); rest = λ i q h. refl }

pub upto_again : {F : (ℕ → ℤ) → ℕ → ℤ} {lanes at w : ℕ} {a a' a'' : List ℤ} → Upto F lanes at a a' → Part F w lanes at a' a'' → Upto F lanes (at + w) a a''
upto_again {F} {lanes} {at} {w} {a} {a'} {a''} v p =
    record {
      done = λ i q h. grow i q h (ltb i at) refl;
      rest = λ i q h. p.outside i h (λ k b e. omega arith) ∙ v.rest i (omega arith) h;
    }
  where
    grow : (i : ℕ) → i < at + w → i < lanes → (b : Bool) → ltb i at ≡ b → column lanes a'' i ≡ F (column lanes a i)
    grow i q h true e = let b : i < at = ltb-true i at e in p.outside i h (λ k j x. omega arith) ∙ v.done i b h
    grow i q h false e =
        let b : at ≤ i = ltb-false i at e in
        let y : at + (i - at) ≡ i = omega arith in
        subst (λ (j : ℕ). column lanes a'' j ≡ F (column lanes a' j)) y (p.inside (i - at) (omega arith)) ∙ ap F (v.rest i b h)

pub upto_end : {F : (ℕ → ℤ) → ℕ → ℤ} {lanes at : ℕ} {a a' : List ℤ} → lanes ≤ at → Upto F lanes at a a' → Mapped F lanes a a'
upto_end q v i h = v.done i (omega arith) h

-- ---- places
pub row_ends : (v n lanes : ℕ) → v < n → v * lanes + lanes ≤ n * lanes
row_ends v n lanes h = let q : (v + 1) * lanes ≤ n * lanes = mul-le-mul_right lanes (omega (arith, h)) in omega (arith, q)

-- a place has one row and one lane
pub one_place : (lanes u i v j : ℕ) → i < lanes → j < lanes → u * lanes + i ≡ v * lanes + j → (u ≡ v) × (i ≡ j)
one_place lanes u i v j p q e = (
  sym (digits_div u p) ∙ ap (λ (n : ℕ). n / lanes) e ∙ digits_div v q,
  sym (digits_mod u p) ∙ ap (λ (n : ℕ). n % lanes) e ∙ digits_mod v q,
)

pub column_at : (lanes : ℕ) (xs : List ℤ) (u at k : ℕ) → get_or xs (u * lanes + at + k) (pos 0) ≡ column lanes xs (at + k) u
unfolding column
column_at lanes xs u at k =
    let e : u * lanes + at + k ≡ u * lanes + (at + k) = omega arith in
    ap (λ (p : ℕ). get_or xs p (pos 0)) e

-- ---- a run of stores, by places
pub record Copied (base w : ℕ) (x old new : List ℤ) : Type 0 where
  pub put_in : (k : ℕ) → k < w → get_or new (base + k) (pos 0) ≡ int_at x k
  pub kept : (p : ℕ) → ((k : ℕ) → k < w → p ≡ base + k → ⊥) → get_or new p (pos 0) ≡ get_or old p (pos 0)

-- the first w elements of x, written over those from base on
pub copied : (base k w : ℕ) (x old ys : List ℤ) → ys ≡ take w x → k ≡ w → w ≤ length x → base + w ≤ length old → Copied base w x old (put_mid base k old ys)
copied base k w x old ys is same few room =
    record {
      put_in = λ j q. within j q;
      kept = λ p off. beside p off (ltb p base) refl;
    }
  where
    long : length (take base old) ≡ base
    long = length-take-le base old (omega arith)

    wide : length ys ≡ w
    wide = ap length is ∙ length-take-le w x few

    rest : List ℤ
    rest = drop k (drop base old)

    within : (j : ℕ) → j < w → get_or (put_mid base k old ys) (base + j) (pos 0) ≡ int_at x j
    within j q =
        ap (λ (n : ℕ). get_or (put_mid base k old ys) (n + j) (pos 0)) (sym long)
        ∙ get_or-append-add (take base old) (ys ++ rest) j (pos 0)
        ∙ get_or_append_left ys rest (pos 0) j (omega (arith, wide))
        ∙ ap (λ (l : List ℤ). get_or l j (pos 0)) is
        ∙ get_or-take w x j (pos 0) q

    beside : (p : ℕ) → ((j : ℕ) → j < w → p ≡ base + j → ⊥) → (b : Bool) → ltb p base ≡ b → get_or (put_mid base k old ys) p (pos 0) ≡ get_or old p (pos 0)
    beside p off true e =
        get_or_append_left (take base old) (ys ++ rest) (pos 0) p (omega (arith, long, ltb-true p base e))
        ∙ get_or-take base old p (pos 0) (ltb-true p base e)
    beside p off false e =
        let from : base ≤ p = ltb-false p base e in
        let past : base + w ≤ p = grind (arith, off (p - base)) in
        let at_old : base + (k + (p - base - w)) ≡ p = omega arith in
        get_or-append_right (take base old) (ys ++ rest) base p (pos 0) long from
        ∙ get_or-append_right ys rest w (p - base) (pos 0) wide (omega arith)
        ∙ get_or-drop k (drop base old) (p - base - w) (pos 0)
        ∙ get_or-drop base old (k + (p - base - w)) (pos 0)
        ∙ ap (λ (n : ℕ). get_or old n (pos 0)) at_old

-- by columns
pub copied_column : {lanes u at w : ℕ} {x old new : List ℤ} → Copied (u * lanes + at) w x old new → at + w ≤ lanes → Stored w lanes u at x old new
unfolding column put
copied_column {lanes} {u} {at} {w} {x} {old} {new} v h =
    record {
      inside = λ k q. λ j r. within k q r (eqb r u) refl j;
      outside = λ l p off. λ j r. v.kept (r * lanes + l) (λ k q e. off k (omega arith) (one_place lanes r l u (at + k) p (omega arith) (omega arith)).1) j;
    }
  where
    within : (k : ℕ) → k < w → (r : ℕ) (b : Bool) → eqb r u ≡ b → get_or new (r * lanes + (at + k)) (pos 0) ≡ cond (eqb r u) (int_at x k) (get_or old (r * lanes + (at + k)) (pos 0))
    within k q r true e =
        let m : r * lanes + (at + k) ≡ u * lanes + at + k = (let s : r * lanes ≡ u * lanes = ap (λ (n : ℕ). n * lanes) (eqb-true r u e) in omega arith) in
        ap (λ (p : ℕ). get_or new p (pos 0)) m
        ∙ v.put_in k (omega arith)
        ∙ sym (ap (λ (b : Bool). cond b (int_at x k) (get_or old (r * lanes + (at + k)) (pos 0))) e)
    within k q r false e =
        v.kept (r * lanes + (at + k)) (λ j b s. eqb-false r u e (one_place lanes r (at + k) u (at + j) (omega arith) (omega arith) (omega arith)).0)
        ∙ sym (ap (λ (b : Bool). cond b (int_at x k) (get_or old (r * lanes + (at + k)) (pos 0))) e)

pub stored_copy : {lanes u at w k : ℕ} {x old ys : List ℤ} → ys ≡ take w x → k ≡ w → w ≤ length x → at + w ≤ lanes → u * lanes + lanes ≤ length old
    → Stored w lanes u at x old (put_mid (u * lanes + at) k old ys)
stored_copy {lanes} {u} {at} {w} {k} {x} {old} {ys} is same few h room = copied_column (copied (u * lanes + at) k w x old ys is same few (omega arith)) h
