-- What a run keeps from round to round, and what holds at its end, of every order of loading, lane count and round limit. In order: sums over the
-- words of a state; a word in a lane is as alone (`Running`, `Testing`, `Ended`); sums through refilling and a round; the invariant `Inv`, through
-- both; `Good`, what holds at the end (`run_good`). Not here: each word by itself (Places, Iterations).
use Rattle.std.proofs.Math.Path.{◌≡◌, refl, sym, ap, subst}
use Rattle.std.proofs.Common.{◌∙◌, not-suc-le-zero, List, [], ◌∷◌, ◌++◌, map, append_assoc, ℕ, zero, suc, ◌+◌, ◌*◌, ◌≤◌, ◌<◌, arith, eqb-true, ltb-false}
use Rattle.std.specs.Prelude.{true, false, eqb, ltb}
use Rattle.std.proofs.Math.Nat.{mul-le-mul_left}
use Rattle.std.proofs.lemmas.Bool.{eqb-false}
use Rattle.std.proofs.Math.ListN.{length-replicate, length-map}
use Rattle.laws.specs.Choice.{by_cond}
use Rattle.schedule.specs.Run.{Words, Lane, empty, holds, Stock, State, finished, each, held, over, fill, iterated, leave, refill, round, go, start, run}
use Rattle.schedule.specs.Alone.{after}
use Rattle.schedule.proofs.AloneLaws.{end_test}
use Rattle.schedule.specs.WholeRun.{after_alone, ends_alone}
use Rattle.schedule.specs.Sums.{in_lane, in_lanes, in_queue, in_log, in_stock, one, iterations_of, Held, AllLanes, AllLog, Some}
use Rattle.schedule.proofs.Sums.{held_one, each_length, each_sum, each_all, each_before, each_queue, fill_sum, iterated_sum, iterated_all, leave_sum, leave_queue, fill_all, leave_all, leave_held, refill_full, fill_before, fill_fresh, all_empty, none_in}
use Rattle.schedule.specs.Rounds.{total, spent_so_far, above, Running, Ended, Testing, Since, Inv, Good}

no_iterations : (q : List ℕ) → in_queue iterations_of q ≡ 0
unfolding in_queue
no_iterations [] = refl
no_iterations (w ∷ q) = omega (arith, no_iterations q)

above_none : (m w i : ℕ) → above m w i ≡ 0 → i ≤ m
unfolding above
above_none m w i = by_cond (λ (n : ℕ). n ≡ 0 → i ≤ m) (ltb m i) 1 0 (λ e h. omega arith) (λ e h. ltb-false m i e)

module _ {X : Type 0} where
  pub total_spent : (s : State X) → total iterations_of s ≡ spent_so_far s
  unfolding total spent_so_far in_stock
  total_spent s = omega (arith, no_iterations s.stock.queue)

  one_each : (ls : List (Lane X)) → in_lanes (λ w i. suc i) ls ≡ in_lanes iterations_of ls + in_lanes one ls
  unfolding in_lanes in_lane
  one_each [] = refl
  one_each (empty ∷ ls) = omega (arith, one_each ls)
  one_each (holds w x i ∷ ls) = omega (arith, one_each ls)

-- ---- a run's words, each alone
module _ {X : Type 0} (words : Words X) where
  -- the test on the lane's own values is the test whether the word alone is at its end
  own_test : (w : ℕ) (x : X) (i : ℕ) → x ≡ after_alone words w i → i ≤ ends_alone words w → over words x i ≡ eqb (ends_alone words w) i
  unfolding over
  own_test w x i e h = rw e (end_test (words.begin w) words.iterate words.met words.iteration_limit i h)

  pub out : (w : ℕ) (x : X) (i : ℕ) → Testing words w x i → over words x i ≡ true → Ended words w x i
  out w x i p e = (p.0, sym (eqb-true _ i (sym (own_test w x i p.0 p.1) ∙ e)))

  pub stays : (w : ℕ) (x : X) (i : ℕ) → Testing words w x i → over words x i ≡ false → Running words w x i
  stays w x i p e = (p.0, omega (arith, p.1, eqb-false (ends_alone words w) i (sym (own_test w x i p.0 p.1) ∙ e)))

  pub begins : (w : ℕ) → Testing words w (words.begin w) 0
  unfolding after
  begins w = (refl, omega arith)

  pub one_more : (w : ℕ) (x : X) (i : ℕ) → Running words w x i → Testing words w (words.iterate x) (suc i)
  unfolding after
  one_more w x i p = (ap words.iterate p.0, p.1)

  -- refilling changes no sum over words; a round gives each word in a lane one iteration more
  pub refill_total : (f : ℕ → ℕ → ℕ) (s : State X) → total f (refill words s) ≡ total f s
  unfolding total refill
  refill_total f s = each_sum (fill words) f (fill_sum words f) s.lanes s.stock

  pub round_total : (f : ℕ → ℕ → ℕ) (s : State X) → total f (round words s) ≡ in_lanes (λ w i. f w (suc i)) s.lanes + in_stock f s.stock
  unfolding total round
  round_total f s =
      each_sum (leave words) f (leave_sum words f) (map (iterated words) s.lanes) s.stock ∙ ap (λ n. n + in_stock f s.stock) (iterated_sum words f s.lanes)

  module _ (order : List ℕ) (others : ℕ) where
    refill_spent : (s : State X) → spent_so_far (refill words s) ≡ spent_so_far s
    refill_spent s = sym (total_spent _) ∙ refill_total iterations_of s ∙ total_spent s

    round_spent : (s : State X) → spent_so_far (round words s) ≡ spent_so_far s + held s.lanes
    unfolding total
    round_spent s = sym (total_spent _) ∙ round_total iterations_of s ∙ omega (arith, one_each s.lanes, total_spent s, held_one s.lanes)

    -- ---- refilling
    refill_inv : (s : State X) → Inv words order others s → Inv words order others (refill words s)
    unfolding refill
    refill_inv s v =
        record {
          width = each_length (fill words) s.lanes s.stock ∙ v.width;
          running = ok.0;
          ended = ok.1;
          words_kept = λ f. refill_total (λ w i. f w) s ∙ v.words_kept f;
          suffix = (v.suffix.0 ++ front.0, v.suffix.1 ∙ ap (λ z. v.suffix.0 ++ z) front.1 ∙ sym (append_assoc v.suffix.0 front.0 _));
          busy = omega (arith, v.busy, same);
          full = λ h. same ∙ v.full (refill_full words s.lanes s.stock h).1;
          since = subst (λ (g : ℕ). AllLanes (Since words order others s.rounds g) (each (fill words) s.lanes s.stock).0) (sym same) new.0;
          most = λ m h. omega (arith, same, v.most m (sym (refill_total (above m) s) ∙ h));
        }
      where
        same : spent_so_far (refill words s) ≡ spent_so_far s
        same = refill_spent s

        ok : AllLanes (Held (Running words)) (each (fill words) s.lanes s.stock).0 × AllLog (Ended words) (each (fill words) s.lanes s.stock).1.log
        ok =
            each_all (fill words) (Held (Running words)) (Held (Running words)) (λ (t : Stock X). AllLog (Ended words) t.log)
            (fill_all words (Running words) (Ended words) (λ w. out w _ 0 (begins w)) (λ w. stays w _ 0 (begins w))) s.lanes s.stock v.running v.ended

        front : (front : List ℕ) × (s.stock.queue ≡ front ++ (each (fill words) s.lanes s.stock).1.queue)
        front = each_before (fill words) (fill_before words) s.lanes s.stock

        W : Type 0
        W = spent_so_far s ≡ suc others * s.rounds

        fresh : W → (w : ℕ) → suc others * s.rounds + 0 ≤ spent_so_far s + suc others * 0
        fresh x w = omega (arith, x)

        new : AllLanes (Since words order others s.rounds (spent_so_far s)) (each (fill words) s.lanes s.stock).0 × (Some (each (fill words) s.lanes s.stock).1.queue → W)
        new =
            each_all (fill words) (Since words order others s.rounds (spent_so_far s)) (Since words order others s.rounds (spent_so_far s)) (λ (t : Stock X). Some t.queue → W)
            (fill_fresh words (λ w x i. suc others * s.rounds + i ≤ spent_so_far s + suc others * i) W fresh) s.lanes s.stock v.since v.full

    -- ---- a round
    a_lane : (r g m : ℕ) (ls : List (Lane X)) → 0 < in_lanes one ls → AllLanes (Since words order others r g) ls → in_lanes (λ w i. above m w (suc i)) ls ≡ 0
        → (i : ℕ) × (suc others * r + i ≤ g + suc others * i) × (suc i ≤ m)
    unfolding in_lanes in_lane
    a_lane r g m [] h p z = absurd (not-suc-le-zero h)
    a_lane r g m (empty ∷ ls) h p z = a_lane r g m ls (omega arith) p.1 (omega arith)
    a_lane r g m (holds w x i ∷ ls) h p z = (i, p.0, above_none m w (suc i) (omega arith))

    round_inv : (s : State X) → 0 < held s.lanes → (Some s.stock.queue → held s.lanes ≡ suc others) → Inv words order others s → Inv words order others (round words s)
    unfolding round total
    round_inv s some all v =
        record {
          width = each_length (leave words) (map (iterated words) s.lanes) s.stock ∙ length-map s.lanes (iterated words) ∙ v.width;
          running = ok.0;
          ended = ok.1;
          words_kept = λ f. round_total (λ w i. f w) s ∙ v.words_kept f;
          suffix = (v.suffix.0, v.suffix.1 ∙ ap (λ z. v.suffix.0 ++ z) (sym kept));
          busy = omega (arith, v.busy, more);
          full = λ h. let h' = subst Some kept h in omega (arith, more, v.full h', all h');
          since = subst (λ (g : ℕ). AllLanes (Since words order others (suc s.rounds) g) (each (leave words) (map (iterated words) s.lanes) s.stock).0) (sym more) older.0;
          most = λ m z.
              let l = a_lane s.rounds (spent_so_far s) m s.lanes (omega (arith, some, held_one s.lanes)) v.since (none m z) in
              omega (arith, more, some, l.1, mul-le-mul_left others l.2);
        }
      where
        more : spent_so_far (round words s) ≡ spent_so_far s + held s.lanes
        more = round_spent s

        ok : AllLanes (Held (Running words)) (each (leave words) (map (iterated words) s.lanes) s.stock).0
            × AllLog (Ended words) (each (leave words) (map (iterated words) s.lanes) s.stock).1.log
        ok =
            each_all (leave words) (Held (Testing words)) (Held (Running words)) (λ (t : Stock X). AllLog (Ended words) t.log) (leave_all words (Running words) (Ended words) (Testing words) out stays)
            (map (iterated words) s.lanes) s.stock (iterated_all words (Running words) (Testing words) one_more s.lanes v.running) v.ended

        step : (w : ℕ) (x : X) (i : ℕ) → suc others * s.rounds + i ≤ spent_so_far s + suc others * i
            → suc others * suc s.rounds + suc i ≤ spent_so_far s + held s.lanes + suc others * suc i
        step w x i h = omega arith

        older : AllLanes (Since words order others (suc s.rounds) (spent_so_far s + held s.lanes)) (each (leave words) (map (iterated words) s.lanes) s.stock).0 × Unit {0}
        older =
            each_all (leave words) (Since words order others (suc s.rounds) (spent_so_far s + held s.lanes)) (Since words order others (suc s.rounds) (spent_so_far s + held s.lanes)) (λ _. Unit {0})
            (λ l t p _. (leave_held words _ l t p, tt)) (map (iterated words) s.lanes) s.stock (iterated_all words _ _ step s.lanes v.since) tt

        kept : (each (leave words) (map (iterated words) s.lanes) s.stock).1.queue ≡ s.stock.queue
        kept = each_queue (leave words) (leave_queue words) (map (iterated words) s.lanes) s.stock

        none : (m : ℕ) → total (above m) (round words s) ≡ 0 → in_lanes (λ w i. above m w (suc i)) s.lanes ≡ 0
        none m z = omega (arith, round_total (above m) s, z)

    filled_after : (s : State X) → Inv words order others s → Some (refill words s).stock.queue → held (refill words s).lanes ≡ suc others
    unfolding refill
    filled_after s v h = held_one _ ∙ (refill_full words s.lanes s.stock h).0 ∙ v.width

    good_end : (round_limit : ℕ) (s : State X) → Inv words order others s → s.rounds ≤ round_limit → eqb (held (refill words s).lanes) 0 ≡ true
        → Good words order others round_limit (record { ending = finished; last = refill words s })
    good_end round_limit s v l e =
        record {
          inv = refill_inv s v;
          in_limit = unfold refill in l;
          filled = filled_after s v;
          finishes = λ _. eqb-true _ 0 e;
          stops = λ d. let z : ◌≡◌ {A = ℕ} 0 1 = cc in absurd (omega arith);
        }

    go_good : (left : ℕ) (s : State X) → Inv words order others s → Good words order others (s.rounds + left) (go words left s)
    unfolding go
    go_good zero s v =
        by_cond (Good words order others (s.rounds + 0)) (eqb (held (refill words s).lanes) 0) _ _
        (λ e. good_end (s.rounds + 0) s v (omega arith) e)
        (λ e. record {
          inv = refill_inv s v;
          in_limit = unfold refill in omega arith;
          filled = filled_after s v;
          finishes = λ d. let z : ◌≡◌ {A = ℕ} 0 1 = cc in absurd (omega arith);
          stops = λ _. (unfold refill in omega arith, omega (arith, eqb-false (held (refill words s).lanes) 0 e));
        })
    go_good (suc left) s v =
        by_cond (Good words order others (s.rounds + suc left)) (eqb (held (refill words s).lanes) 0) _ _
        (λ e. good_end (s.rounds + suc left) s v (omega arith) e)
        (λ e. subst (λ n. Good words order others n (go words left (round words (refill words s)))) (sums s left)
        (go_good left (round words (refill words s)) (round_inv (refill words s) (omega (arith, eqb-false (held (refill words s).lanes) 0 e)) (filled_after s v) (refill_inv s v))))
      where
        sums : (s : State X) (left : ℕ) → (round words (refill words s)).rounds + left ≡ s.rounds + suc left
        sums s left = unfold round refill in omega arith

    -- ---- the start
    start_spent : spent_so_far (start words order (suc others)) ≡ 0
    unfolding spent_so_far start in_log
    start_spent = omega (arith, none_in X iterations_of (suc others))

    start_inv : Inv words order others (start words order (suc others))
    unfolding start total in_stock in_log
    start_inv =
        record {
          width = length-replicate (suc others) empty;
          running = all_empty _ (suc others);
          ended = tt;
          words_kept = λ f. omega (arith, none_in X (λ w i. f w) (suc others));
          suffix = ([], refl);
          busy = omega arith;
          full = λ _. omega (arith, start_spent);
          since = all_empty _ (suc others);
          most = λ m _. omega arith;
        }

    pub run_good : (round_limit : ℕ) → Good words order others round_limit (run words order (suc others) round_limit)
    unfolding run
    run_good round_limit =
        subst (λ n. Good words order others n (go words round_limit (start words order (suc others)))) sums (go_good round_limit (start words order (suc others)) start_inv)
      where
        sums : (start words order (suc others)).rounds + round_limit ≡ round_limit
        sums = unfold start in omega arith
