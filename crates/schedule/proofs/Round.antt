-- A round as code does it: an iteration in every column, then lane by lane one iteration more and the test. What the arrays stand for
-- changes as `round` says. In order: lanes of which some have had their turn (`mixed`); what a round leaves (`Advanced`) and its second half
-- (`Retired`); the second half lane by lane (`Leaving`): an empty lane, a word that stays, a word that leaves, the end.
use Rattle.std.specs.Prelude.{◌≡◌, ◌≢◌, true, false, ltb, length, set}
use Rattle.std.proofs.Math.Path.{refl, sym, ap, ap₂}
use Rattle.std.proofs.Common.{◌∙◌, add-one, ltb-true, ltb-false, lt-ltb, le-ltb, get_or-set_same, get_or-set_other, List, ◌∷◌, map, ℕ, zero, suc, ◌+◌, ◌-◌, ◌≤◌, ◌<◌, arith}
use Rattle.std.proofs.Math.Bool.{cond}
use Rattle.std.proofs.Math.Nat.{zero-add}
use Rattle.std.proofs.Math.Decide.{ℕ_discrete}
use Rattle.std.proofs.Math.ListN.{get_or, length-set}
use Rattle.laws.specs.Choice.{by_bool}
use Rattle.schedule.specs.Run.{Words, Lane, empty, holds, Left, Stock, Turn, each, over, logged, iterated, leave}
use Rattle.schedule.specs.Lanes.{Setup, lane_of, table, row, rows, from, Sized}
use Rattle.schedule.proofs.Lanes.{length_table, get_d_table, table_ext, table_set, lane_held, from_start, from_end, from_step, from_same, kept_more}
use Rattle.schedule.specs.Round.{mixed, Advanced, Retired, Leaving}

module _ {X : Type 0} where
  mixed_below : (l : ℕ) (held iters : List ℕ) (col : ℕ → X) (k : ℕ) → k < l → mixed l held iters col k ≡ row held iters col k
  mixed_below l held iters col k h = ap (λ b. cond b (row held iters col k) (lane_of (get_or held k 0) (col k) (suc (get_or iters k 0)))) (lt-ltb k l h)

  mixed_from : (l : ℕ) (held iters : List ℕ) (col : ℕ → X) (k : ℕ) → l ≤ k → mixed l held iters col k ≡ lane_of (get_or held k 0) (col k) (suc (get_or iters k 0))
  mixed_from l held iters col k h = ap (λ b. cond b (row held iters col k) (lane_of (get_or held k 0) (col k) (suc (get_or iters k 0)))) (le-ltb k l h)

  -- lane k, not l, where arrays agree at k
  mixed_other : (l : ℕ) (held iters held' iters' : List ℕ) (col : ℕ → X) (k : ℕ) → k ≢ l → get_or held' k 0 ≡ get_or held k 0 → get_or iters' k 0 ≡ get_or iters k 0
      → mixed (l + 1) held' iters' col k ≡ mixed l held iters col k
  mixed_other l held iters held' iters' col k n a b =
      by_bool (λ t. ltb k l ≡ t → mixed (l + 1) held' iters' col k ≡ mixed l held iters col k) (ltb k l)
      (λ _ e. mixed_below (l + 1) held' iters' col k (omega (arith, ltb-true k l e)) ∙ ap₂ (λ h i. lane_of h (col k) i) a b ∙ sym (mixed_below l held iters col k (ltb-true k l e)))
      (λ _ e. mixed_from (l + 1) held' iters' col k (omega (arith, ltb-false k l e)) ∙ ap₂ (λ h i. lane_of h (col k) (suc i)) a b ∙ sym (mixed_from l held iters col k (ltb-false k l e))) refl

  map_table : (g : Lane X → Lane X) (f : ℕ → Lane X) (a k : ℕ) → map g (table f a k) ≡ table (λ l. g (f l)) a k
  unfolding table
  map_table g f a zero = refl
  map_table g f a (suc k) = ap (λ ls. g (f a) ∷ ls) (map_table g f (suc a) k)

  iterated_lane : (words : Words X) (h : ℕ) (x y : X) (i : ℕ) → (h ≢ 0 → y ≡ words.iterate x) → iterated words (lane_of h x i) ≡ lane_of h y (suc i)
  unfolding iterated lane_of
  iterated_lane words zero x y i e = refl
  iterated_lane words (suc w) x y i e = ap (λ x. holds w x (suc i)) (sym (e (λ z. omega arith)))

module _ {X M : Type 0} (R : Setup X M) where
  abbrev A : Lane X → Stock X → Turn X
  A = leave R.words

  -- a round: every held lane's column is iterated, then the lanes have their turns
  pub advanced : (held₀ iters₀ : List ℕ) (col₀ : ℕ → X) (memory₀ : ℕ → M) (held iters : List ℕ) (col : ℕ → X) (memory : ℕ → M)
      → ((l : ℕ) → l < R.lanes → get_or held₀ l 0 ≢ 0 → col l ≡ R.words.iterate (col₀ l)) → Retired R held₀ iters₀ memory₀ held iters col memory
      → Advanced R held₀ iters₀ col₀ memory₀ held iters col memory
  unfolding rows
  advanced held₀ iters₀ col₀ memory₀ held iters col memory h r =
      record {
        sized = r.sized;
        after_round = λ q d m. let x = r.after_turns q d m in (x.0, x.1, ap (λ ls. each A ls (record { queue = q; log = d })) lanes_are ∙ x.2);
      }
    where
      lanes_are : map (iterated R.words) (table (row held₀ iters₀ col₀) 0 R.lanes) ≡ table (mixed 0 held₀ iters₀ col) 0 R.lanes
      lanes_are =
          map_table (iterated R.words) (row held₀ iters₀ col₀) 0 R.lanes
          ∙ table_ext _ _ 0 R.lanes (λ l p q. iterated_lane R.words (get_or held₀ l 0) (col₀ l) (col l) (get_or iters₀ l 0) (h l (omega (arith, zero-add R.lanes)))
          ∙ sym (mixed_from 0 held₀ iters₀ col l (omega arith)))

  pub leaving_start : (held iters : List ℕ) (col : ℕ → X) (memory : ℕ → M) → Sized held iters → Leaving R held iters memory 0 held iters col memory
  leaving_start held iters col memory z =
      record {
        sized = z;
        untouched = λ k _. (refl, refl);
        same = λ q d m. (d, m, sym (from_start A (table (mixed 0 held iters col) 0 R.lanes) _));
      }

  module _ (held₀ iters₀ : List ℕ) (memory₀ : ℕ → M) (l : ℕ) (held iters : List ℕ) (col : ℕ → X) (memory : ℕ → M)
      (a : Leaving R held₀ iters₀ memory₀ l held iters col memory) (h : l < R.lanes) (fit : R.lanes ≤ 64) where
    abbrev H : ℕ
    H = get_or held l 0

    abbrev I : ℕ
    I = get_or iters l 0

    abbrev ls : List (Lane X)
    ls = table (mixed l held iters col) 0 R.lanes

    in_lanes : l < length ls
    in_lanes = omega (arith, length_table (mixed l held iters col) 0 R.lanes)

    here : get_or ls l empty ≡ lane_of H (col l) (suc I)
    here = get_d_table (mixed l held iters col) 0 R.lanes l h ∙ ap (mixed l held iters col) (zero-add l) ∙ mixed_from l held iters col l (omega arith)

    -- an empty lane
    pub leaving_skip : H ≡ 0 → Leaving R held₀ iters₀ memory₀ (l + 1) held iters col memory
    unfolding leave lane_of
    leaving_skip e =
        record {
          sized = a.sized;
          untouched = λ k g. a.untouched k (omega arith);
          same = λ q d m.
              let x = a.same q d m in (
                x.0,
                x.1,
                x.2 ∙ from_same A l ls _ in_lanes (ap (λ y. A y (record { queue = q; log = x.0 })) none ∙ ap (λ y. (y, record { queue = q; log = x.0 })) (sym none))
                    ∙ ap₂ (λ n ls. from A n ls (record { queue = q; log = x.0 })) (sym (add-one l)) (table_ext _ _ 0 R.lanes (λ k _ _. sym (at k (ℕ_discrete k l)))),
              );
        }
      where
        none : get_or ls l empty ≡ empty
        none = here ∙ ap (λ h. lane_of h (col l) (suc I)) e

        at : (k : ℕ) → Dec (k ≡ l) → mixed (l + 1) held iters col k ≡ mixed l held iters col k
        at k (yes d) =
            mixed_below (l + 1) held iters col k (omega arith) ∙ ap (row held iters col) d ∙ ap (λ h. lane_of h (col l) I) e
            ∙ sym (mixed_from l held iters col k (omega arith) ∙ ap (λ k. lane_of (get_or held k 0) (col k) (suc (get_or iters k 0))) d ∙ ap (λ h. lane_of h (col l) (suc I)) e)
        at k (no n) = mixed_other l held iters held iters col k n refl refl

    holds_it : H ≢ 0 → get_or ls l empty ≡ holds (H - 1) (col l) (suc I)
    holds_it n = here ∙ lane_held H (col l) (suc I) n

    touched : (k : ℕ) → l + 1 ≤ k → (held' : List ℕ) (i : ℕ) → get_or held' k 0 ≡ get_or held k 0 → (get_or held' k 0 ≡ get_or held₀ k 0) × (get_or (set iters l i) k 0 ≡ get_or iters₀ k 0)
    touched k g held' i e =
        let n : k ≢ l = λ e. omega arith in
        (e ∙ (a.untouched k (omega arith)).0, get_or-set_other iters l k i 0 n ∙ (a.untouched k (omega arith)).1)

    -- a word that stays
    pub leaving_stay : H ≢ 0 → over R.words (col l) (I + 1) ≡ false → Leaving R held₀ iters₀ memory₀ (l + 1) held (set iters l (I + 1)) col memory
    unfolding leave
    leaving_stay n o =
        record {
          sized = record { held_fit = a.sized.held_fit; iters_fit = length-set iters l (I + 1) ∙ a.sized.iters_fit };
          untouched = λ k g. touched k g held (I + 1) refl;
          same = λ q d m.
              let x = a.same q d m in (
                x.0,
                x.1,
                x.2 ∙ from_same A l ls _ in_lanes (turn q x.0)
                    ∙ ap₂ (λ n ls. from A n ls (record { queue = q; log = x.0 })) (sym (add-one l)) (table_ext _ _ 0 R.lanes (λ k _ _. sym (at k (ℕ_discrete k l)))),
              );
        }
      where
        turn : (q : List ℕ) (d : List (Left X)) → A (get_or ls l empty) (record { queue = q; log = d }) ≡ (get_or ls l empty, record { queue = q; log = d })
        turn q d =
            ap (λ y. A y (record { queue = q; log = d })) (holds_it n)
            ∙ ap (λ b. cond b (empty, record { queue = q; log = logged R.words (H - 1) (col l) (suc I) d }) (holds (H - 1) (col l) (suc I), record { queue = q; log = d }))
            (ap (over R.words (col l)) (sym (add-one I)) ∙ o)
            ∙ ap (λ y. (y, record { queue = q; log = d })) (sym (holds_it n))

        at : (k : ℕ) → Dec (k ≡ l) → mixed (l + 1) held (set iters l (I + 1)) col k ≡ mixed l held iters col k
        at k (yes d) =
            mixed_below (l + 1) held (set iters l (I + 1)) col k (omega arith) ∙ ap (row held (set iters l (I + 1)) col) d
            ∙ ap (lane_of H (col l)) (get_or-set_same iters l (I + 1) 0 (omega (arith, a.sized.iters_fit)) ∙ add-one I)
            ∙ sym (mixed_from l held iters col k (omega arith) ∙ ap (λ k. lane_of (get_or held k 0) (col k) (suc (get_or iters k 0))) d)
        at k (no n) = mixed_other l held iters held (set iters l (I + 1)) col k n refl (get_or-set_other iters l k (I + 1) 0 n)

    -- a word that leaves: memory says so; whatever `iters` keeps for its lane
    pub leaving_leave : (memory' : ℕ → M) → H ≢ 0 → over R.words (col l) (I + 1) ≡ true → memory' (H - 1) ≡ R.after (H - 1) (col l) (I + 1)
        → ((v : ℕ) → v ≢ H - 1 → memory' v ≡ memory v) → (i : ℕ) → Leaving R held₀ iters₀ memory₀ (l + 1) (set held l 0) (set iters l i) col memory'
    unfolding leave lane_of
    leaving_leave memory' n o new others i =
        record {
          sized = record { held_fit = length-set held l 0 ∙ a.sized.held_fit; iters_fit = length-set iters l i ∙ a.sized.iters_fit };
          untouched = λ k g. let n : k ≢ l = λ e. omega arith in touched k g (set held l 0) i (get_or-set_other held l k 0 0 n);
          same = λ q d m.
              let x = a.same q d m in (
                logged R.words (H - 1) (col l) (suc I) x.0,
                kept_more R x.0 memory memory' (H - 1) (col l) (suc I) x.1 (new ∙ ap (R.after (H - 1) (col l)) (add-one I)) others,
                x.2 ∙ from_step A l ls _ in_lanes ∙ ap (λ (t : Turn X). from A (suc l) (set ls l t.0) t.1) (turn q x.0)
                    ∙ ap₂ (λ n ls. from A n ls (record { queue = q; log = logged R.words (H - 1) (col l) (suc I) x.0 })) (sym (add-one l)) (sym lanes_are),
              );
        }
      where
        turn : (q : List ℕ) (d : List (Left X)) → A (get_or ls l empty) (record { queue = q; log = d }) ≡ (empty, record { queue = q; log = logged R.words (H - 1) (col l) (suc I) d })
        turn q d =
            ap (λ y. A y (record { queue = q; log = d })) (holds_it n)
            ∙ ap (λ b. cond b (empty, record { queue = q; log = logged R.words (H - 1) (col l) (suc I) d }) (holds (H - 1) (col l) (suc I), record { queue = q; log = d }))
            (ap (over R.words (col l)) (sym (add-one I)) ∙ o)

        lanes_are : table (mixed (l + 1) (set held l 0) (set iters l i) col) 0 R.lanes ≡ set ls l empty
        lanes_are =
            table_set (mixed l held iters col) (mixed (l + 1) (set held l 0) (set iters l i) col) R.lanes l empty h
            (mixed_below (l + 1) (set held l 0) (set iters l i) col l (omega arith)
            ∙ ap (λ h. lane_of h (col l) (get_or (set iters l i) l 0)) (get_or-set_same held l 0 0 (omega (arith, a.sized.held_fit))))
            (λ k e n. mixed_other l held iters (set held l 0) (set iters l i) col k n (get_or-set_other held l k 0 0 n) (get_or-set_other iters l k i 0 n))

  -- every lane has had its turn
  pub leaving_end : (held₀ iters₀ : List ℕ) (memory₀ : ℕ → M) (l : ℕ) (held iters : List ℕ) (col : ℕ → X) (memory : ℕ → M)
      → Leaving R held₀ iters₀ memory₀ l held iters col memory → R.lanes ≡ l → Retired R held₀ iters₀ memory₀ held iters col memory
  unfolding rows
  leaving_end held₀ iters₀ memory₀ l held iters col memory a e =
      record {
        sized = a.sized;
        after_turns = λ q d m.
            let x = a.same q d m in (
              x.0,
              x.1,
              x.2 ∙ from_end A l (table (mixed l held iters col) 0 R.lanes) _ (length_table (mixed l held iters col) 0 R.lanes ∙ e)
                  ∙ ap (λ ls. (ls, record { queue = q; log = x.0 })) (table_ext _ _ 0 R.lanes (λ k _ g. mixed_below l held iters col k (omega (arith, g, zero-add R.lanes, e)))),
            );
      }
