-- Places of the ring, by the number of records so far, and its slots.
use Rattle.std.specs.Prelude.{◌≡◌, ℕ, ◌+◌, ◌-◌, ◌*◌, ◌/◌, ◌%◌, ◌<◌, ◌≤◌, Bool, cond, ◌≢◌, List, length, ◌==◌, nat_lt, slice_index, slice_set}
use Rattle.std.proofs.Common.{sym, ap, ◌∙◌, subst, div-add-mod', mod-lt, mod-eq_of_lt, mul-le-mul_right, arith, lt-ltb, le-ltb, eq-eqb, ne_eqb}
use Rattle.std.proofs.Math.Nat.{mul-add-mod_self_right}
use Rattle.std.proofs.Math.Decide.{ℕ_discrete, dec_le, dec_lt}
use Rattle.std.proofs.Math.ListN.{length-set}
use Rattle.std.proofs.Math.Seq.{get_or-set_same, get_or-set_other}
use Rattle.window.specs.declared.Record.{Record}
use Rattle.window.specs.Push.{record_in, written, slot_of, next_at}

-- ---- record L takes slot L % w
pub slot_below : (w at : ℕ) → w ≢ 0 → slot_of w at < w
unfolding slot_of
slot_below w at ne = go (dec_lt at w)
  where
    go : Dec (at < w) → cond (nat_lt at w) at 0 < w
    go (yes h) = subst (λ (b : Bool). cond b at 0 < w) (sym (lt-ltb at w h)) h
    go (no h) = subst (λ (b : Bool). cond b at 0 < w) (sym (le-ltb at w (omega arith))) (omega (arith, ne))

pub next_mod : (L w : ℕ) → 0 < w → next_at w (L % w) ≡ (L + 1) % w
unfolding next_at
next_mod L w h = sym (at (ℕ_discrete (L % w + 1) w))
  where
    parts : L + 1 ≡ L / w * w + (L % w + 1)
    parts = omega (arith, div-add-mod' L w)

    at : Dec (L % w + 1 ≡ w) → (L + 1) % w ≡ cond (L % w + 1 == w) 0 (L % w + 1)
    at (yes e) =
        let whole : L + 1 ≡ (L / w + 1) * w + 0 = omega (arith, parts, e) in
        ap (λ (k : ℕ). k % w) whole ∙ mul-add-mod_self_right (L / w + 1) w 0 ∙ mod-eq_of_lt h ∙ sym (ap (λ (b : Bool). cond b 0 (L % w + 1)) (eq-eqb (L % w + 1) w e))
    at (no e) =
        ap (λ (k : ℕ). k % w) parts ∙ mul-add-mod_self_right (L / w) w (L % w + 1) ∙ mod-eq_of_lt (omega (arith, mod-lt L h, e))
        ∙ sym (ap (λ (b : Bool). cond b 0 (L % w + 1)) (ne_eqb (L % w + 1) w e))

-- none of the w - 1 records before has that slot
pub apart : (i L w : ℕ) → 0 < w → i < L → L < i + w → i % w ≢ L % w
apart i L w h lt near e = go (dec_le (L / w) (i / w))
  where
    a : i / w * w + i % w ≡ i
    a = div-add-mod' i w

    b : L / w * w + L % w ≡ L
    b = div-add-mod' L w

    go : Dec (L / w ≤ i / w) → ⊥
    go (yes q) = omega (arith, a, b, e, mul-le-mul_right {m = L / w} {n = i / w} w q)
    go (no q) = let r : i / w + 1 ≤ L / w = omega arith in omega (arith, a, b, e, mul-le-mul_right {m = i / w + 1} {n = L / w} w r)

-- the one before those has
pub oldest_slot : (L w : ℕ) → 0 < w → w ≤ L → (L - w) % w ≡ L % w
oldest_slot L w h g =
    let e : L ≡ 1 * w + (L - w) = omega arith in
    sym (ap (λ (k : ℕ). k % w) e ∙ mul-add-mod_self_right 1 w (L - w))

-- ---- a slot written
module _ (ring : List ℕ) (s : ℕ) (r : Record) where
  abbrev one : List ℕ
  one = slice_set ring (3 * s) r.state

  abbrev two : List ℕ
  two = slice_set one (3 * s + 1) r.iterations

  pub written_long : length (written ring s r) ≡ length ring
  unfolding written
  written_long = length-set two (3 * s + 2) r.bch ∙ length-set one (3 * s + 1) r.iterations ∙ length-set ring (3 * s) r.state

  pub written_here : 3 * s + 3 ≤ length ring → record_in (written ring s r) s ≡ r
  unfolding written record_in
  written_here room =
      λ i. record {
        state = (get_or-set_other two (3 * s + 2) (3 * s) r.bch 0 (λ e. omega arith) ∙ get_or-set_other one (3 * s + 1) (3 * s) r.iterations 0 (λ e. omega arith)
            ∙ get_or-set_same ring (3 * s) r.state 0 (omega arith)) i;
        iterations = (get_or-set_other two (3 * s + 2) (3 * s + 1) r.bch 0 (λ e. omega arith)
            ∙ get_or-set_same one (3 * s + 1) r.iterations 0 (omega (arith, length-set ring (3 * s) r.state))) i;
        bch = get_or-set_same two (3 * s + 2) r.bch 0 (omega (arith, length-set one (3 * s + 1) r.iterations, length-set ring (3 * s) r.state)) i;
      }

  pub written_else : (t : ℕ) → t ≢ s → record_in (written ring s r) t ≡ record_in ring t
  unfolding written record_in
  written_else t ne = λ i. record { state = same (3 * t) 0 (omega arith) (omega arith) i; iterations = same (3 * t + 1) 1 (omega arith) (omega arith) i; bch = same (3 * t + 2) 2 (omega arith) (omega arith) i }
    where
      same : (j k : ℕ) → k < 3 → j ≡ 3 * t + k → slice_index (slice_set two (3 * s + 2) r.bch) j ≡ slice_index ring j
      same j k h at =
          get_or-set_other two (3 * s + 2) j r.bch 0 (λ e. ne (omega arith)) ∙ get_or-set_other one (3 * s + 1) j r.iterations 0 (λ e. ne (omega arith))
          ∙ get_or-set_other ring (3 * s) j r.state 0 (λ e. ne (omega arith))
