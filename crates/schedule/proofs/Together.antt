-- Refilling in passes, as the Rust does: every empty lane takes a word, all are tested together, and those that were over leave room for
-- the next pass. The run is the same up to which lane a word sits in: the ending, the rounds, the words that wait, and every word's status.
--
-- In order: the run in passes (`run_together`); what refilling does to free lanes and a queue, lane by lane and in passes; two states that differ only in
-- which lane a word sits in (`Alike`); `same_run`; `same_status`.
use Rattle.std.specs.Prelude.{◌≡◌, ◌⊎◌, true, false, eqb, replicate}
use Rattle.std.proofs.Math.Path.{refl, sym, ap, ap₂, subst}
use Rattle.std.proofs.Common.{◌∙◌, true≢false, not-suc-le-zero, List, [], ◌∷◌, map, ℕ, zero, suc, ◌+◌, ◌-◌, ◌*◌, ◌≤◌, ◌<◌, arith}
use Rattle.std.proofs.Math.Logic.{inl, inr}
use Rattle.std.proofs.Math.Bool.{Bool, cond}
use Rattle.std.proofs.lemmas.Bool.{false≢true}
use Rattle.std.proofs.Math.ListN.{length, length-map}
use Rattle.laws.specs.Choice.{by_cond, by_bool, same}
use Rattle.schedule.specs.Run.{Words, Lane, empty, holds, Left, Stock, State, Turn, finished, stopped, Result, each, held, over, logged, load, fill, iterated, leave, refill, round, go, start, run}
use Rattle.schedule.specs.Status.{Status, waiting, holding, done, spent, lane_words, log_words, all_words, status, sum}
use Rattle.schedule.specs.WholeRun.{times, count, case, after_alone, ends_alone}
use Rattle.schedule.specs.Sums.{Held, AllLanes, AllLog}
use Rattle.schedule.proofs.Sums.{each_length, each_all, each_queue, iterated_all, leave_queue, leave_all, all_empty, round_held}
use Rattle.schedule.specs.Rounds.{Running, Ended, Testing, Good}
use Rattle.schedule.proofs.Rounds.{out, stays, begins, one_more, run_good}
use Rattle.schedule.specs.Places.{weigh, ByStatus}
use Rattle.schedule.proofs.Places.{times_weigh, weigh_parts, only_found, by_status}
use Rattle.schedule.proofs.Theorem.{demand}
use Rattle.schedule.specs.Together.{take_next, take, leave_fresh, pass, passes, refill_together, go_together, run_together, Alike, SameRun}

module _ {X : Type 0} (words : Words X) where
  -- ---- what refilling does to n free lanes and a queue, whichever lane a word sits in
  unfoldable rest : ℕ → List ℕ → List ℕ
  rest n [] = []
  rest zero (w ∷ q) = w ∷ q
  rest (suc n) (w ∷ q) = cond (over words (words.begin w) 0) (rest (suc n) q) (rest n q)

  unfoldable stay : (ℕ → Status X → ℕ) → ℕ → List ℕ → ℕ
  stay f n [] = 0
  stay f zero (w ∷ q) = 0
  stay f (suc n) (w ∷ q) = cond (over words (words.begin w) 0) (stay f (suc n) q) (f w (holding (words.begin w) 0) + stay f n q)

  unfoldable quick : (ℕ → Status X → ℕ) → ℕ → List ℕ → ℕ
  quick f n [] = 0
  quick f zero (w ∷ q) = 0
  quick f (suc n) (w ∷ q) = cond (over words (words.begin w) 0) (f w (done (words.begin w) 0) + quick f (suc n) q) (quick f n q)

  unfoldable free : List (Lane X) → ℕ
  free [] = 0
  free (empty ∷ ls) = suc (free ls)
  free (holds w x i ∷ ls) = free ls

  free_is : (ls : List (Lane X)) → free ls + weigh (λ w st. 1) (lane_words ls) ≡ length ls
  unfolding free weigh lane_words
  free_is [] = refl
  free_is (empty ∷ ls) = omega (arith, free_is ls)
  free_is (holds w x i ∷ ls) = omega (arith, free_is ls)

  -- from n free lanes here and from n' there refilling leads to the same
  record Same (n : ℕ) (ls : List (Lane X)) (s : Stock X) (n' : ℕ) (ls' : List (Lane X)) (s' : Stock X) : Type 0 where
    rest_same : rest n s.queue ≡ rest n' s'.queue
    lanes_same : (f : ℕ → Status X → ℕ) → weigh f (lane_words ls) + stay f n s.queue ≡ weigh f (lane_words ls') + stay f n' s'.queue
    log_same : (f : ℕ → Status X → ℕ) → weigh f (log_words s.log) + quick f n s.queue ≡ weigh f (log_words s'.log) + quick f n' s'.queue

  same_refl : (n : ℕ) (ls : List (Lane X)) (s : Stock X) → Same n ls s n ls s
  same_refl n ls s = record { rest_same = refl; lanes_same = λ f. refl; log_same = λ f. refl }

  same_on : {n : ℕ} {ls : List (Lane X)} {s : Stock X} {n₁ : ℕ} {ls₁ : List (Lane X)} {s₁ : Stock X} {n₂ : ℕ} {ls₂ : List (Lane X)} {s₂ : Stock X}
      → Same n ls s n₁ ls₁ s₁ → Same n₁ ls₁ s₁ n₂ ls₂ s₂ → Same n ls s n₂ ls₂ s₂
  same_on a b = record { rest_same = a.rest_same ∙ b.rest_same; lanes_same = λ f. a.lanes_same f ∙ b.lanes_same f; log_same = λ f. a.log_same f ∙ b.log_same f }

  -- a word that is over leaves the lane empty; any other holds it
  quick_same : (n : ℕ) (ls : List (Lane X)) (w : ℕ) (q : List ℕ) (d : List (Left X)) → over words (words.begin w) 0 ≡ true
      → Same (suc n) (empty ∷ ls) (record { queue = w ∷ q; log = d }) (suc n) (empty ∷ ls) (record { queue = q; log = logged words w (words.begin w) 0 d })
  unfolding logged rest stay quick lane_words log_words weigh
  quick_same n ls w q d e =
      record {
        rest_same = ap (λ b. cond b (rest (suc n) q) (rest n q)) e;
        lanes_same = λ f. ap (λ b. weigh f (lane_words ls) + cond b (stay f (suc n) q) (f w (holding (words.begin w) 0) + stay f n q)) e;
        log_same = λ f. ap (λ b. weigh f (log_words d) + cond b (f w (done (words.begin w) 0) + quick f (suc n) q) (quick f n q)) e ∙ omega arith;
      }

  hold_same : (n : ℕ) (ls : List (Lane X)) (w : ℕ) (q : List ℕ) (d : List (Left X)) → over words (words.begin w) 0 ≡ false
      → Same (suc n) (empty ∷ ls) (record { queue = w ∷ q; log = d }) n (holds w (words.begin w) 0 ∷ ls) (record { queue = q; log = d })
  unfolding rest stay quick lane_words weigh
  hold_same n ls w q d e =
      record {
        rest_same = ap (λ b. cond b (rest (suc n) q) (rest n q)) e;
        lanes_same = λ f. ap (λ b. weigh f (lane_words ls) + cond b (stay f (suc n) q) (f w (holding (words.begin w) 0) + stay f n q)) e ∙ omega arith;
        log_same = λ f. ap (λ b. weigh f (log_words d) + cond b (f w (done (words.begin w) 0) + quick f (suc n) q) (quick f n q)) e;
      }

  -- ---- lane by lane
  load_same : (n : ℕ) (ls : List (Lane X)) (q : List ℕ) (d : List (Left X))
      → Same (suc n) (empty ∷ ls) (record { queue = q; log = d }) n ((load words q d).0 ∷ ls) (load words q d).1
  unfolding load
  load_same n ls [] d = unfold rest stay quick lane_words in record { rest_same = refl; lanes_same = λ f. refl; log_same = λ f. refl }
  load_same n ls (w ∷ q) d =
      by_bool (λ b. over words (words.begin w) 0 ≡ b → Same (suc n) (empty ∷ ls) (record { queue = w ∷ q; log = d }) n ((T b).0 ∷ ls) (T b).1) (over words (words.begin w) 0)
      (λ _ e. same_on (quick_same n ls w q d e) (load_same n ls q (logged words w (words.begin w) 0 d))) (λ _ e. hold_same n ls w q d e) refl
    where
      T : Bool → Turn X
      T b = cond b (load words q (logged words w (words.begin w) 0 d)) (holds w (words.begin w) 0, record { queue = q; log = d })

  -- one lane more in front
  same_held : (w : ℕ) (x : X) (i : ℕ) {n : ℕ} {ls : List (Lane X)} {s : Stock X} {n' : ℕ} {ls' : List (Lane X)} {s' : Stock X}
      → Same n ls s n' ls' s' → Same n (holds w x i ∷ ls) s n' (holds w x i ∷ ls') s'
  unfolding lane_words weigh
  same_held w x i r = record { rest_same = r.rest_same; lanes_same = λ f. omega (arith, r.lanes_same f); log_same = r.log_same }

  same_empty : {n : ℕ} {ls : List (Lane X)} {s : Stock X} {n' : ℕ} {ls' : List (Lane X)} {s' : Stock X} → Same n ls s n' ls' s' → Same n (empty ∷ ls) s n' (empty ∷ ls') s'
  unfolding lane_words
  same_empty r = record { rest_same = r.rest_same; lanes_same = r.lanes_same; log_same = r.log_same }

  same_front : (l : Lane X) {n : ℕ} {ls : List (Lane X)} {s : Stock X} {n' : ℕ} {ls' : List (Lane X)} {s' : Stock X} → Same n ls s n' ls' s' → Same n (l ∷ ls) s n' (l ∷ ls') s'
  same_front empty r = same_empty r
  same_front (holds w x i) r = same_held w x i r

  fill_same : (ls : List (Lane X)) (s : Stock X) (n : ℕ) → Same (free ls + n) ls s n (each (fill words) ls s).0 (each (fill words) ls s).1
  unfolding each fill free
  fill_same [] s n = let e : n ≡ 0 + n = omega arith in subst (λ k. Same k [] s n [] s) e (same_refl n [] s)
  fill_same (empty ∷ ls) s n =
      let e : suc (free ls + n) ≡ suc (free ls) + n = omega arith in
      same_on (subst (λ k. Same k (empty ∷ ls) s (free ls + n) ((load words s.queue s.log).0 ∷ ls) (load words s.queue s.log).1) e (load_same (free ls + n) ls s.queue s.log))
      (same_front (load words s.queue s.log).0 (fill_same ls (load words s.queue s.log).1 n))
  fill_same (holds w x i ∷ ls) s n = same_held w x i (fill_same ls s n)

  -- ---- in passes
  -- one pass at one lane: the next word stays, or leaves the lane empty
  unfoldable once_next : List ℕ → List (Left X) → Turn X
  once_next [] log = (empty, record { queue = []; log = log })
  once_next (w ∷ q) log = cond (over words (words.begin w) 0) (empty, record { queue = q; log = logged words w (words.begin w) 0 log }) (holds w (words.begin w) 0, record { queue = q; log = log })

  unfoldable once : Lane X → Stock X → Turn X
  once empty s = once_next s.queue s.log
  once (holds w x i) s = (holds w x i, s)

  abbrev After : ℕ → ℕ → List (Lane X) → Stock X → List (Lane X) × Stock X → Type 0
  After k n ls s p = Same k ls s (free p.0 + n) p.0 p.1

  once_same : (ls : List (Lane X)) (s : Stock X) (n : ℕ) → After (free ls + n) n ls s (each once ls s)
  unfolding each once free
  once_same [] s n = same_refl _ [] s
  once_same (holds w x i ∷ ls) s n = same_held w x i (once_same ls s n)
  once_same (empty ∷ ls) s n = at s.queue s.log (once_same ls)
    where
      one_on : (m : ℕ) → m + suc n ≡ suc m + n
      one_on m = omega arith

      on : (m : ℕ) → suc (m + n) ≡ suc m + n
      on m = omega arith

      behind : (q : List ℕ) (d : List (Left X)) → After (free ls + suc n) (suc n) ls (record { queue = q; log = d }) (each once ls (record { queue = q; log = d }))
          → Same (suc (free ls) + n) (empty ∷ ls) (record { queue = q; log = d }) (suc (free (each once ls (record { queue = q; log = d })).0) + n)
          (empty ∷ (each once ls (record { queue = q; log = d })).0) (each once ls (record { queue = q; log = d })).1
      behind q d r =
          subst (λ k. Same k (empty ∷ ls) (record { queue = q; log = d }) (suc (free (each once ls (record { queue = q; log = d })).0) + n) (empty ∷ (each once ls (record { queue = q; log = d })).0) (each once ls (record { queue = q; log = d })).1) (one_on (free ls))
          (subst (λ k. Same (free ls + suc n) (empty ∷ ls) (record { queue = q; log = d }) k (empty ∷ (each once ls (record { queue = q; log = d })).0) (each once ls (record { queue = q; log = d })).1) (one_on _) (same_empty r))

      at : (q : List ℕ) (d : List (Left X)) → ((s : Stock X) (n : ℕ) → After (free ls + n) n ls s (each once ls s))
          → Same (suc (free ls) + n) (empty ∷ ls) (record { queue = q; log = d })
          (free ((once_next q d).0 ∷ (each once ls (once_next q d).1).0) + n) ((once_next q d).0 ∷ (each once ls (once_next q d).1).0) (each once ls (once_next q d).1).1
      at [] d r = unfold once_next in behind [] d (r (record { queue = []; log = d }) (suc n))
      at (w ∷ q) d r = unfold once_next in by_test (over words (words.begin w) 0) refl
        where
          d' : List (Left X)
          d' = logged words w (words.begin w) 0 d

          T : Bool → Turn X
          T b = cond b (empty, record { queue = q; log = d' }) (holds w (words.begin w) 0, record { queue = q; log = d })

          by_test : (b : Bool) → over words (words.begin w) 0 ≡ b
              → Same (suc (free ls) + n) (empty ∷ ls) (record { queue = w ∷ q; log = d }) (free ((T b).0 ∷ (each once ls (T b).1).0) + n) ((T b).0 ∷ (each once ls (T b).1).0) (each once ls (T b).1).1
          by_test true e =
              same_on
              (subst (λ k. Same k (empty ∷ ls) (record { queue = w ∷ q; log = d }) k (empty ∷ ls) (record { queue = q; log = d' })) (on (free ls)) (quick_same (free ls + n) ls w q d e))
              (behind q d' (r (record { queue = q; log = d' }) (suc n)))
          by_test false e =
              same_on
              (subst (λ k. Same k (empty ∷ ls) (record { queue = w ∷ q; log = d }) (free ls + n) (holds w (words.begin w) 0 ∷ ls) (record { queue = q; log = d })) (on (free ls)) (hold_same (free ls + n) ls w q d e))
              (same_held w (words.begin w) 0 (r (record { queue = q; log = d }) n))

  -- every word that has just been taken and tested stays
  abbrev Tested : ℕ → X → ℕ → Type 0
  Tested w x i = i ≡ 0 → over words x 0 ≡ false

  -- taking does not look at the log
  take_log : (ls : List (Lane X)) (q : List ℕ) (d d' : List (Left X))
      → each (take words) ls (record { queue = q; log = d' }) ≡ ((each (take words) ls (record { queue = q; log = d })).0, record { queue = (each (take words) ls (record { queue = q; log = d })).1.queue; log = d' })
  unfolding each take take_next
  take_log [] q d d' = refl
  take_log (holds w x i ∷ ls) q d d' = ap (λ (p : List (Lane X) × Stock X). (holds w x i ∷ p.0, p.1)) (take_log ls q d d')
  take_log (empty ∷ ls) [] d d' = ap (λ (p : List (Lane X) × Stock X). (empty ∷ p.0, p.1)) (take_log ls [] d d')
  take_log (empty ∷ ls) (w ∷ q) d d' = ap (λ (p : List (Lane X) × Stock X). (holds w (words.begin w) 0 ∷ p.0, p.1)) (take_log ls q d d')

  abbrev tested : List (Lane X) × Stock X → List (Lane X) × Stock X
  tested p = each (leave_fresh words) p.0 p.1

  stays_tested : (w : ℕ) (x : X) (i : ℕ) (s : Stock X) → Tested w x i → leave_fresh words (holds w x i) s ≡ (holds w x i, s)
  unfolding leave_fresh leave
  stays_tested w x zero s t = ap (λ b. cond b (empty, record { queue = s.queue; log = logged words w x 0 s.log }) (holds w x 0, s)) (t refl)
  stays_tested w x (suc i) s t = refl

  -- a pass is one turn for each lane
  pass_once : (ls : List (Lane X)) (q : List ℕ) (d : List (Left X)) → AllLanes (Held Tested) ls
      → tested (each (take words) ls (record { queue = q; log = d })) ≡ each once ls (record { queue = q; log = d })
  unfolding each take take_next once once_next leave_fresh leave
  pass_once [] q d t = refl
  pass_once (holds w x i ∷ ls) q d t =
      ap (λ (p : Turn X). (p.0 ∷ (each (leave_fresh words) (each (take words) ls (record { queue = q; log = d })).0 p.1).0, (each (leave_fresh words) (each (take words) ls (record { queue = q; log = d })).0 p.1).1))
      (stays_tested w x i (each (take words) ls (record { queue = q; log = d })).1 t.0)
      ∙ ap (λ (p : List (Lane X) × Stock X). (holds w x i ∷ p.0, p.1)) (pass_once ls q d t.1)
  pass_once (empty ∷ ls) [] d t = ap (λ (p : List (Lane X) × Stock X). (empty ∷ p.0, p.1)) (pass_once ls [] d t.1)
  pass_once (empty ∷ ls) (w ∷ q) d t = by_test (over words B 0) (pass_once ls q d t.1) (pass_once ls q d' t.1)
    where
      B : X
      B = words.begin w

      d' : List (Left X)
      d' = logged words w B 0 d

      next : List (Lane X) × Stock X
      next = each (take words) ls (record { queue = q; log = d })

      -- the lane after its test, and the other lanes after theirs
      ends : Turn X → List (Lane X) × Stock X
      ends p = (p.0 ∷ (each (leave_fresh words) next.0 p.1).0, (each (leave_fresh words) next.0 p.1).1)

      goes : Turn X → List (Lane X) × Stock X
      goes p = (p.0 ∷ (each once ls p.1).0, (each once ls p.1).1)

      log_kept : next.1 ≡ record { queue = next.1.queue; log = d }
      log_kept = ap (λ (p : List (Lane X) × Stock X). p.1) (take_log ls q d d)

      by_test : (b : Bool) → tested (each (take words) ls (record { queue = q; log = d })) ≡ each once ls (record { queue = q; log = d })
          → tested (each (take words) ls (record { queue = q; log = d' })) ≡ each once ls (record { queue = q; log = d' })
          → ends (cond b (empty, record { queue = next.1.queue; log = logged words w B 0 next.1.log }) (holds w B 0, next.1))
          ≡ goes (cond b (empty, record { queue = q; log = d' }) (holds w B 0, record { queue = q; log = d }))
      by_test true r r' =
          ap (λ (s : Stock X). ends (empty, record { queue = next.1.queue; log = logged words w B 0 s.log })) log_kept
          ∙ ap (λ (p : List (Lane X) × Stock X). (empty ∷ (tested p).0, (tested p).1)) (sym (take_log ls q d d'))
          ∙ ap (λ (p : List (Lane X) × Stock X). (empty ∷ p.0, p.1)) r'
      by_test false r r' = ap (λ (p : List (Lane X) × Stock X). (holds w B 0 ∷ p.0, p.1)) r

  -- what a pass leaves: tested words, fewer words waiting, no more free lanes
  once_tested : (ls : List (Lane X)) (s : Stock X) → AllLanes (Held Tested) ls → AllLanes (Held Tested) (each once ls s).0
  unfolding each once
  once_tested [] s t = tt
  once_tested (holds w x i ∷ ls) s t = (t.0, once_tested ls s t.1)
  once_tested (empty ∷ ls) s t = (next s.queue s.log, once_tested ls (once_next s.queue s.log).1 t.1)
    where
      next : (q : List ℕ) (d : List (Left X)) → Held Tested (once_next q d).0
      next [] d = unfold once_next in tt
      next (w ∷ q) d = unfold once_next in by_cond (λ (p : Turn X). Held Tested p.0) (over words (words.begin w) 0) _ _ (λ _. tt) (λ e _. e)

  once_queue : (ls : List (Lane X)) (s : Stock X) → length (each once ls s).1.queue ≡ length s.queue - free ls
  unfolding each once free
  once_queue [] s = omega arith
  once_queue (holds w x i ∷ ls) s = once_queue ls s
  once_queue (empty ∷ ls) s = omega (arith, next s.queue s.log, once_queue ls (once_next s.queue s.log).1)
    where
      next : (q : List ℕ) (d : List (Left X)) → length (once_next q d).1.queue ≡ length q - 1
      next [] d = unfold once_next in omega arith
      next (w ∷ q) d = unfold once_next in by_cond (λ (p : Turn X). length p.1.queue ≡ suc (length q) - 1) (over words (words.begin w) 0) _ _ (λ _. omega arith) (λ _. omega arith)

  once_free : (ls : List (Lane X)) (s : Stock X) → free (each once ls s).0 ≤ free ls
  unfolding each once free
  once_free [] s = omega arith
  once_free (holds w x i ∷ ls) s = once_free ls s
  once_free (empty ∷ ls) s = next (once_next s.queue s.log).0 (each once ls (once_next s.queue s.log).1).0 (once_free ls (once_next s.queue s.log).1)
    where
      next : (l : Lane X) (ls' : List (Lane X)) → free ls' ≤ free ls → free (l ∷ ls') ≤ suc (free ls)
      next empty ls' h = omega arith
      next (holds w x i) ls' h = omega arith

  -- after n passes
  record Passed (n : ℕ) (ls : List (Lane X)) (s : Stock X) (p : List (Lane X) × Stock X) : Type 0 where
    same : Same (free ls) ls s (free p.0) p.0 p.1
    still_tested : AllLanes (Held Tested) p.0
    settled : (free ls ≡ 0) ⊎ (length s.queue ≤ n) → (free p.0 ≡ 0) ⊎ (length p.1.queue ≤ 0)
    as_many : length p.0 ≡ length ls

  passes_same : (n : ℕ) (ls : List (Lane X)) (s : Stock X) → AllLanes (Held Tested) ls → Passed n ls s (passes words n (ls, s))
  unfolding passes pass
  passes_same zero ls s t = record { same = same_refl _ ls s; still_tested = t; settled = λ h. h; as_many = refl }
  passes_same (suc n) ls s t =
      subst (λ (p : List (Lane X) × Stock X). Passed (suc n) ls s (passes words n p)) (sym (pass_once ls s.queue s.log t))
      (on (passes_same n (each once ls s).0 (each once ls s).1 (once_tested ls s t)))
    where
      less : (free ls ≡ 0) ⊎ (length s.queue ≤ suc n) → (free (each once ls s).0 ≡ 0) ⊎ (length (each once ls s).1.queue ≤ n)
      less (inl e) = let z : free (each once ls s).0 ≡ 0 = omega (arith, once_free ls s) in inl z
      less (inr h) = by_free (free ls) refl
        where
          by_free : (k : ℕ) → free ls ≡ k → (free (each once ls s).0 ≡ 0) ⊎ (length (each once ls s).1.queue ≤ n)
          by_free zero e = let z : free (each once ls s).0 ≡ 0 = omega (arith, once_free ls s) in inl z
          by_free (suc k) e = let z : length (each once ls s).1.queue ≤ n = omega (arith, once_queue ls s) in inr z

      zero_on : {k m : ℕ} → Same (k + 0) ls s (m + 0) (each once ls s).0 (each once ls s).1 → Same k ls s m (each once ls s).0 (each once ls s).1
      zero_on {k} {m} r =
          let a : k + 0 ≡ k = omega arith in
          let b : m + 0 ≡ m = omega arith in
          subst (λ k. Same k ls s m (each once ls s).0 (each once ls s).1) a (subst (λ m. Same (k + 0) ls s m (each once ls s).0 (each once ls s).1) b r)

      on : Passed n (each once ls s).0 (each once ls s).1 (passes words n (each once ls s)) → Passed (suc n) ls s (passes words n (each once ls s))
      on r =
          record {
            same = same_on (zero_on (once_same ls s 0)) r.same;
            still_tested = r.still_tested;
            settled = λ h. r.settled (less h);
            as_many = r.as_many ∙ each_length once ls s;
          }

  -- no free lane, or no word waiting
  same_end : (ls : List (Lane X)) (s : Stock X) → (free ls ≡ 0) ⊎ (length s.queue ≤ 0) → Same (free ls) ls s 0 ls s
  same_end ls s (inl e) = subst (λ k. Same (free ls) ls s k ls s) e (same_refl (free ls) ls s)
  same_end ls s (inr h) = by_queue s.queue h
    where
      by_queue : (q : List ℕ) → length q ≤ 0 → Same (free ls) ls (record { queue = q; log = s.log }) 0 ls (record { queue = q; log = s.log })
      by_queue [] h = unfold rest stay quick in record { rest_same = refl; lanes_same = λ f. refl; log_same = λ f. refl }
      by_queue (w ∷ q) h = absurd (not-suc-le-zero h)

  rest_zero : (q : List ℕ) → rest 0 q ≡ q
  unfolding rest
  rest_zero [] = refl
  rest_zero (w ∷ q) = refl

  stay_zero : (f : ℕ → Status X → ℕ) (q : List ℕ) → stay f 0 q ≡ 0
  unfolding stay
  stay_zero f [] = refl
  stay_zero f (w ∷ q) = refl

  quick_zero : (f : ℕ → Status X → ℕ) (q : List ℕ) → quick f 0 q ≡ 0
  unfolding quick
  quick_zero f [] = refl
  quick_zero f (w ∷ q) = refl

  refill_alike : (s t : State X) → Alike words s t → AllLanes (Held Tested) t.lanes → Alike words (refill words s) (refill_together words t)
  unfolding refill refill_together
  refill_alike s t a h =
      record {
        rounds_same = a.rounds_same;
        width_same = each_length (fill words) s.lanes s.stock ∙ a.width_same ∙ sym many.as_many;
        queue_same =
            sym (rest_zero _) ∙ sym left.rest_same ∙ ap₂ rest free_same a.queue_same ∙ right.rest_same ∙ rest_zero _;
        lanes_same = λ f.
            omega (arith, left.lanes_same f, right.lanes_same f, a.lanes_same f, ap₂ (stay f) free_same a.queue_same, stay_zero f (each (fill words) s.lanes s.stock).1.queue, stay_zero f p.1.queue);
        log_same = λ f.
            omega (arith, left.log_same f, right.log_same f, a.log_same f, ap₂ (quick f) free_same a.queue_same, quick_zero f (each (fill words) s.lanes s.stock).1.queue, quick_zero f p.1.queue);
      }
    where
      p : List (Lane X) × Stock X
      p = passes words (length t.stock.queue) (t.lanes, t.stock)

      many : Passed (length t.stock.queue) t.lanes t.stock p
      many = passes_same (length t.stock.queue) t.lanes t.stock h

      free_same : free s.lanes ≡ free t.lanes
      free_same = omega (arith, free_is s.lanes, free_is t.lanes, a.width_same, a.lanes_same (λ w st. 1))

      left : Same (free s.lanes) s.lanes s.stock 0 (each (fill words) s.lanes s.stock).0 (each (fill words) s.lanes s.stock).1
      left =
          let e : free s.lanes + 0 ≡ free s.lanes = omega arith in
          subst (λ k. Same k s.lanes s.stock 0 (each (fill words) s.lanes s.stock).0 (each (fill words) s.lanes s.stock).1) e
          (fill_same s.lanes s.stock 0)

      right : Same (free t.lanes) t.lanes t.stock 0 p.0 p.1
      right = let h : length t.stock.queue ≤ length t.stock.queue = omega arith in same_on many.same (same_end p.0 p.1 (many.settled (inr h)))

  -- a round: what stays and what leaves, in sums over the lanes before it
  abbrev still : (ℕ → Status X → ℕ) → ℕ → Status X → ℕ
  still f w waiting = 0
  still f w (holding x i) = cond (over words (words.iterate x) (suc i)) 0 (f w (holding (words.iterate x) (suc i)))
  still f w (done x i) = 0

  abbrev gone : (ℕ → Status X → ℕ) → ℕ → Status X → ℕ
  gone f w waiting = 0
  gone f w (holding x i) = cond (over words (words.iterate x) (suc i)) (f w (done (words.iterate x) (suc i))) 0
  gone f w (done x i) = 0

  abbrev after : List (Lane X) → Stock X → List (Lane X) × Stock X
  after ls s = each (leave words) (map (iterated words) ls) s

  round_lanes : (f : ℕ → Status X → ℕ) (ls : List (Lane X)) (s : Stock X) → weigh f (lane_words (after ls s).0) ≡ weigh (still f) (lane_words ls)
  unfolding each leave iterated lane_words weigh
  round_lanes f [] s = refl
  round_lanes f (empty ∷ ls) s = round_lanes f ls s
  round_lanes f (holds w x i ∷ ls) s = by_test (over words (words.iterate x) (suc i)) (round_lanes f ls)
    where
      T : Bool → Turn X
      T b = cond b (empty, record { queue = s.queue; log = logged words w (words.iterate x) (suc i) s.log }) (holds w (words.iterate x) (suc i), s)

      by_test : (b : Bool) → ((t : Stock X) → weigh f (lane_words (after ls t).0) ≡ weigh (still f) (lane_words ls))
          → weigh f (lane_words ((T b).0 ∷ (after ls (T b).1).0)) ≡ cond b 0 (f w (holding (words.iterate x) (suc i))) + weigh (still f) (lane_words ls)
      by_test true r = r (T true).1 ∙ omega arith
      by_test false r = omega (arith, r (T false).1)

  round_log : (f : ℕ → Status X → ℕ) (ls : List (Lane X)) (s : Stock X) → weigh f (log_words (after ls s).1.log) ≡ weigh f (log_words s.log) + weigh (gone f) (lane_words ls)
  unfolding each leave iterated lane_words log_words logged weigh
  round_log f [] s = omega arith
  round_log f (empty ∷ ls) s = round_log f ls s
  round_log f (holds w x i ∷ ls) s = by_test (over words (words.iterate x) (suc i)) (round_log f ls)
    where
      T : Bool → Turn X
      T b = cond b (empty, record { queue = s.queue; log = logged words w (words.iterate x) (suc i) s.log }) (holds w (words.iterate x) (suc i), s)

      by_test : (b : Bool) → ((t : Stock X) → weigh f (log_words (after ls t).1.log) ≡ weigh f (log_words t.log) + weigh (gone f) (lane_words ls))
          → weigh f (log_words (after ls (T b).1).1.log) ≡ weigh f (log_words s.log) + (cond b (f w (done (words.iterate x) (suc i))) 0 + weigh (gone f) (lane_words ls))
      by_test true r = omega (arith, r (T true).1)
      by_test false r = omega (arith, r (T false).1)

  round_alike : (s t : State X) → Alike words s t → Alike words (round words s) (round words t)
  unfolding round
  round_alike s t a =
      record {
        rounds_same = ap suc a.rounds_same;
        width_same = width s ∙ a.width_same ∙ sym (width t);
        queue_same = each_queue (leave words) (leave_queue words) _ s.stock ∙ a.queue_same ∙ sym (each_queue (leave words) (leave_queue words) _ t.stock);
        lanes_same = λ f. round_lanes f s.lanes s.stock ∙ a.lanes_same (still f) ∙ sym (round_lanes f t.lanes t.stock);
        log_same = λ f. omega (arith, round_log f s.lanes s.stock, a.log_same f, a.lanes_same (gone f), round_log f t.lanes t.stock);
      }
    where
      width : (s : State X) → length (after s.lanes s.stock).0 ≡ length s.lanes
      width s = each_length (leave words) (map (iterated words) s.lanes) s.stock ∙ length-map s.lanes (iterated words)

  -- ---- the run
  held_weigh : (ls : List (Lane X)) → held ls ≡ weigh (λ w st. 1) (lane_words ls)
  unfolding held weigh lane_words
  held_weigh [] = refl
  held_weigh (empty ∷ ls) = held_weigh ls
  held_weigh (holds w x i ∷ ls) = omega (arith, held_weigh ls)

  round_tested : (s : State X) → AllLanes (Held Tested) (round words s).lanes
  unfolding round
  round_tested s = round_held words Tested (λ w x i e. absurd (omega arith)) s.lanes s.stock

  -- the same test, and the same results either way
  by_test : {p p' q q' : Result X} (x y : Bool) → x ≡ y → SameRun words p p' → SameRun words q q' → SameRun words (cond x p q) (cond y p' q')
  by_test true true e u v = u
  by_test false false e u v = v
  by_test true false e u v = absurd (true≢false e)
  by_test false true e u v = absurd (false≢true e)

  tests_same : (s t : State X) → Alike words s t → eqb (held s.lanes) 0 ≡ eqb (held t.lanes) 0
  tests_same s t a = ap (λ n. eqb n 0) (held_weigh s.lanes ∙ a.lanes_same (λ w st. 1) ∙ sym (held_weigh t.lanes))

  go_alike : (left : ℕ) (s t : State X) → Alike words s t → AllLanes (Held Tested) t.lanes → SameRun words (go words left s) (go_together words left t)
  unfolding go go_together
  go_alike zero s t a h =
      let b = refill_alike s t a h in
      by_test _ _ (tests_same (refill words s) (refill_together words t) b) (record { ending_same = refl; alike = b }) (record { ending_same = refl; alike = b })
  go_alike (suc left) s t a h =
      let b = refill_alike s t a h in
      by_test _ _ (tests_same (refill words s) (refill_together words t) b) (record { ending_same = refl; alike = b })
      (go_alike left (round words (refill words s)) (round words (refill_together words t)) (round_alike _ _ b) (round_tested (refill_together words t)))

  -- refilling lane by lane and refilling in passes make the same run
  pub same_run : (order : List ℕ) (lanes round_limit : ℕ) → SameRun words (run words order lanes round_limit) (run_together words order lanes round_limit)
  unfolding run run_together
  same_run order lanes round_limit =
      go_alike round_limit (start words order lanes) (start words order lanes)
      (record { rounds_same = refl; width_same = refl; queue_same = refl; lanes_same = λ f. refl; log_same = λ f. refl }) (unfold start in all_empty _ lanes)

  -- ---- and every word has the same status: the same kind and iterations, and the values that it has alone after them
  abbrev Mid : ℕ → X → ℕ → Type 0
  Mid w x i = Testing words w x i × (1 ≤ i → i < ends_alone words w)

  abbrev Fine : List (Lane X) × Stock X → Type 0
  Fine p = AllLanes (Held (Running words)) p.0 × AllLog (Ended words) p.1.log

  take_fine : (l : Lane X) (s : Stock X) → Held (Running words) l → AllLog (Ended words) s.log → Held Mid (take words l s).0 × AllLog (Ended words) (take words l s).1.log
  unfolding take
  take_fine (holds w x i) s p q = (((p.0, omega (arith, p.1)), λ _. p.1), q)
  take_fine empty s p q = next s.queue s.log q
    where
      next : (queue : List ℕ) (log : List (Left X)) → AllLog (Ended words) log → Held Mid (take_next words queue log).0 × AllLog (Ended words) (take_next words queue log).1.log
      next [] log q = unfold take_next in (tt, q)
      next (w ∷ queue) log q = unfold take_next in ((begins words w, λ h. absurd (omega arith)), q)

  leave_fine : (l : Lane X) (s : Stock X) → Held Mid l → AllLog (Ended words) s.log → Held (Running words) (leave_fresh words l s).0 × AllLog (Ended words) (leave_fresh words l s).1.log
  unfolding leave_fresh
  leave_fine empty s p q = (tt, q)
  leave_fine (holds w x zero) s p q = leave_all words (Running words) (Ended words) (Testing words) (out words) (stays words) (holds w x 0) s p.0 q
  leave_fine (holds w x (suc i)) s p q = ((p.0.0, p.1 (omega arith)), q)

  pass_fine : (p : List (Lane X) × Stock X) → Fine p → Fine (pass words p)
  unfolding pass
  pass_fine p v =
      let a = each_all (take words) (Held (Running words)) (Held Mid) (λ (t : Stock X). AllLog (Ended words) t.log) take_fine p.0 p.1 v.0 v.1 in
      each_all (leave_fresh words) (Held Mid) (Held (Running words)) (λ (t : Stock X). AllLog (Ended words) t.log) leave_fine _ _ a.0 a.1

  passes_fine : (n : ℕ) (p : List (Lane X) × Stock X) → Fine p → Fine (passes words n p)
  unfolding passes
  passes_fine zero p v = v
  passes_fine (suc n) p v = passes_fine n (pass words p) (pass_fine p v)

  abbrev Well : State X → Type 0
  Well s = Fine (s.lanes, s.stock)

  refill_fine : (s : State X) → Well s → Well (refill_together words s)
  unfolding refill_together
  refill_fine s v = passes_fine (length s.stock.queue) (s.lanes, s.stock) v

  round_fine : (s : State X) → Well s → Well (round words s)
  unfolding round
  round_fine s v =
      each_all (leave words) (Held (Testing words)) (Held (Running words)) (λ (t : Stock X). AllLog (Ended words) t.log) (leave_all words (Running words) (Ended words) (Testing words) (out words) (stays words))
      (map (iterated words) s.lanes) s.stock (iterated_all words (Running words) (Testing words) (one_more words) s.lanes v.0) v.1

  go_fine : (left : ℕ) (s : State X) → Well s → Well (go_together words left s).last
  unfolding go_together
  go_fine zero s v =
      by_cond (λ (r : Result X). Well r.last) (eqb (held (refill_together words s).lanes) 0) (record { ending = finished; last = refill_together words s }) (record { ending = stopped; last = refill_together words s })
      (λ _. refill_fine s v) (λ _. refill_fine s v)
  go_fine (suc left) s v =
      by_cond (λ (r : Result X). Well r.last) (eqb (held (refill_together words s).lanes) 0) (record { ending = finished; last = refill_together words s }) (go_together words left (round words (refill_together words s)))
      (λ _. refill_fine s v) (λ _. go_fine left (round words (refill_together words s)) (round_fine (refill_together words s) (refill_fine s v)))

  none_running : (n : ℕ) → AllLanes (Held (Running words)) (replicate n empty)
  none_running zero = tt
  none_running (suc n) = (tt, none_running n)

  all_same : (s t : State X) → Alike words s t → (f : ℕ → Status X → ℕ) → weigh f (all_words s) ≡ weigh f (all_words t)
  all_same s t a f =
      omega (arith, weigh_parts f s, weigh_parts f t, a.lanes_same f, a.log_same f, ap (sum (λ w. f w waiting)) a.queue_same)

  says_same : (s t : State X) → Alike words s t → (v : ℕ) → times v (all_words s) ≡ 1 → (f : Status X → ℕ) → f (status s v) ≡ f (status t v)
  unfolding status
  says_same s t a v h f =
      sym (only_found (λ w st. f st) v (all_words s) h) ∙ all_same s t a (λ w st. same v w * f st)
      ∙ only_found (λ w st. f st) v (all_words t) (times_weigh v (all_words t) ∙ sym (all_same s t a (λ w st. same v w)) ∙ sym (times_weigh v (all_words s)) ∙ h)

  one_status : (v : ℕ) (x y : Status X) → case 0 1 2 x ≡ case 0 1 2 y → spent x ≡ spent y → ByStatus (Running words) (Ended words) v x → ByStatus (Running words) (Ended words) v y → x ≡ y
  one_status v waiting waiting k n p q = refl
  one_status v waiting (holding y j) k n p q = absurd (omega arith)
  one_status v waiting (done y j) k n p q = absurd (omega arith)
  one_status v (holding x i) waiting k n p q = absurd (omega arith)
  one_status v (holding x i) (holding y j) k n p q = ap₂ holding (p.0 ∙ ap (after_alone words v) n ∙ sym q.0) n
  one_status v (holding x i) (done y j) k n p q = absurd (omega arith)
  one_status v (done x i) waiting k n p q = absurd (omega arith)
  one_status v (done x i) (holding y j) k n p q = absurd (omega arith)
  one_status v (done x i) (done y j) k n p q = ap₂ done (p.0 ∙ ap (after_alone words v) n ∙ sym q.0) n

  module _ (order : List ℕ) (each_once : (w : ℕ) → count w order ≤ 1) (others round_limit : ℕ) where
    abbrev r : Result X
    r = run words order (suc others) round_limit

    abbrev t : Result X
    t = run_together words order (suc others) round_limit

    pub same_status : (v : ℕ) → count v order ≡ 1 → status r.last v ≡ status t.last v
    same_status v h =
        one_status v (status r.last v) (status t.last v) (says (case 0 1 2)) (says spent)
        (by_status (Running words) (Ended words) r.last g.inv.running g.inv.ended v) (by_status (Running words) (Ended words) t.last well.0 well.1 v)
      where
        g : Good words order others round_limit r
        g = run_good words order others round_limit

        says : (f : Status X → ℕ) → f (status r.last v) ≡ f (status t.last v)
        says =
            says_same r.last t.last (same_run order (suc others) round_limit).alike v
            ((demand words order each_once (suc others) (omega arith) round_limit).all_there v ∙ h)

        well : Well t.last
        well = unfold run_together start in go_fine round_limit (start words order (suc others)) (none_running (suc others), tt)
