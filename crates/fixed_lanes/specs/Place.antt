-- One value written: one row of one column changes, and no other column.
use Rattle.std.specs.Prelude.{◌≡◌, refl, Bool, true, false, cond, List, ℕ, ◌+◌, ◌*◌, ◌<◌, eqb, get_or, set, length, ℤ, pos, ◌≤◌}
use Rattle.std.proofs.Common.{sym, ap, ◌∙◌, eqb-true, get_or-set_same, get_or-set_other, arith}
use Rattle.std.proofs.lemmas.Bool.{eqb-false}
use Rattle.laws.specs.Definitions.{put}
use Rattle.lane16.specs.ColumnLaws.{one_place, row_ends}
use Rattle.lane16.specs.Column.{column}

pub record Placed (lanes lane u : ℕ) (x : ℤ) (a a' : List ℤ) : Type 0 where
  pub inside : column lanes a' lane ≡ put (column lanes a lane) u x
  pub outside : (i : ℕ) → i < lanes → (i ≡ lane → ⊥) → column lanes a' i ≡ column lanes a i

pub placed : (lanes lane u : ℕ) (x : ℤ) (a : List ℤ) → u * lanes + lane < length a → lane < lanes → Placed lanes lane u x a (set a (u * lanes + lane) x)
unfolding column put
placed lanes lane u x a room few =
    record {
      inside = λ j r. within r (eqb r u) refl j;
      outside =
          λ i q no. λ j r. get_or-set_other a (u * lanes + lane) (r * lanes + i) x (pos 0) (λ e. no (one_place lanes r i u lane q few e).1) j;
    }
  where
    within : (r : ℕ) (b : Bool) → eqb r u ≡ b → get_or (set a (u * lanes + lane) x) (r * lanes + lane) (pos 0) ≡ cond (eqb r u) x (get_or a (r * lanes + lane) (pos 0))
    within r true e =
        let m : r * lanes + lane ≡ u * lanes + lane = ap (λ (n : ℕ). n * lanes + lane) (eqb-true r u e) in
        ap (λ (p : ℕ). get_or (set a (u * lanes + lane) x) p (pos 0)) m
        ∙ get_or-set_same a (u * lanes + lane) x (pos 0) room
        ∙ sym (ap (λ (b : Bool). cond b x (get_or a (r * lanes + lane) (pos 0))) e)
    within r false e =
        get_or-set_other a (u * lanes + lane) (r * lanes + lane) x (pos 0) (λ k. eqb-false r u e (one_place lanes r lane u lane few few k).0)
        ∙ sym (ap (λ (b : Bool). cond b x (get_or a (r * lanes + lane) (pos 0))) e)

-- a row below n lies in memory of n rows
pub inside_rows : (u n lanes lane m : ℕ) → u < n → lane < lanes → n * lanes ≤ m → u * lanes + lane < m
inside_rows u n lanes lane m h q k = omega (arith, row_ends u n lanes h)
