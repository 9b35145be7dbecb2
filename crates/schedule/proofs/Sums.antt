-- What a turn for each lane keeps. In order: sums over the words in lanes, queue and log; facts of every lane and of the log; any turn (`each-..`);
-- then of loading, of an iteration and of leaving: sums, facts that the test `over` decides, lanes full while a word waits, the queue handed out
-- from its front, words just taken. Not here: from round to round (Rounds).
use Rattle.std.specs.Prelude.{◌≡◌, true, false, length, replicate}
use Rattle.std.proofs.Math.Path.{refl, sym, ap}
use Rattle.std.proofs.Common.{◌∙◌, List, [], ◌∷◌, ◌++◌, map, append_assoc, ℕ, zero, suc, ◌+◌, arith}
use Rattle.laws.specs.Choice.{by_cond}
use Rattle.schedule.specs.Run.{Words, Lane, empty, holds, Left, Stock, Turn, each, held, over, logged, load, fill, iterated, leave}
use Rattle.schedule.specs.Sums.{in_lane, in_lanes, in_log, in_queue, in_stock, one, Held, AllLanes, AllLog, Some}

pub none_in : (X : Type 0) (f : ℕ → ℕ → ℕ) (n : ℕ) → in_lanes {X = X} f (replicate n empty) ≡ 0
unfolding in_lanes in_lane
none_in X f zero = refl
none_in X f (suc n) = omega (arith, none_in X f n)

-- a fact of every word held, of every lane, of every word that has left; a list with a word in it
module _ {X : Type 0} where
  -- lanes that hold no word; and of lanes nothing is asked
  pub all_empty : (P : ℕ → X → ℕ → Type 0) (n : ℕ) → AllLanes (Held P) (replicate n empty)
  all_empty P zero = tt
  all_empty P (suc n) = (tt, all_empty P n)

  any_lane : (ls : List (Lane X)) → AllLanes (Held (λ w x i. Unit {0})) ls
  any_lane [] = tt
  any_lane (empty ∷ ls) = (tt, any_lane ls)
  any_lane (holds w x i ∷ ls) = (tt, any_lane ls)

pub held_one : {X : Type 0} (ls : List (Lane X)) → held ls ≡ in_lanes one ls
unfolding held in_lanes in_lane
held_one [] = refl
held_one (empty ∷ ls) = omega (arith, held_one ls)
held_one (holds w x i ∷ ls) = omega (arith, held_one ls)

-- ---- any turn
module _ {X : Type 0} (turn : Lane X → Stock X → Turn X) where
  pub each_length : (ls : List (Lane X)) (s : Stock X) → length (each turn ls s).0 ≡ length ls
  unfolding each
  each_length [] s = refl
  each_length (l ∷ ls) s = ap suc (each_length ls (turn l s).1)

  pub each_sum : (f : ℕ → ℕ → ℕ) → ((l : Lane X) (s : Stock X) → in_lane f (turn l s).0 + in_stock f (turn l s).1 ≡ in_lane f l + in_stock f s)
      → (ls : List (Lane X)) (s : Stock X) → in_lanes f (each turn ls s).0 + in_stock f (each turn ls s).1 ≡ in_lanes f ls + in_stock f s
  unfolding each in_lanes
  each_sum f step [] s = refl
  each_sum f step (l ∷ ls) s = omega (arith, step l s, each_sum f step ls (turn l s).1)

  pub each_all : (P P' : Lane X → Type 0) (Q : Stock X → Type 0) → ((l : Lane X) (s : Stock X) → P l → Q s → P' (turn l s).0 × Q (turn l s).1)
      → (ls : List (Lane X)) (s : Stock X) → AllLanes P ls → Q s → AllLanes P' (each turn ls s).0 × Q (each turn ls s).1
  unfolding each
  each_all P P' Q step [] s p q = (tt, q)
  each_all P P' Q step (l ∷ ls) s p q =
      let h = step l s p.0 q in
      let r = each_all P P' Q step ls (turn l s).1 p.1 h.1 in
      ((h.0, r.0), r.1)

  pub each_before : (step : (l : Lane X) (s : Stock X) → (front : List ℕ) × (s.queue ≡ front ++ (turn l s).1.queue))
      → (ls : List (Lane X)) (s : Stock X) → (front : List ℕ) × (s.queue ≡ front ++ (each turn ls s).1.queue)
  unfolding each
  each_before step [] s = ([], refl)
  each_before step (l ∷ ls) s =
      let a = step l s in
      let r = each_before step ls (turn l s).1 in
      (a.0 ++ r.0, a.1 ∙ ap (λ z. a.0 ++ z) r.1 ∙ sym (append_assoc a.0 r.0 _))

  pub each_queue : ((l : Lane X) (s : Stock X) → (turn l s).1.queue ≡ s.queue) → (ls : List (Lane X)) (s : Stock X) → (each turn ls s).1.queue ≡ s.queue
  unfolding each
  each_queue step [] s = refl
  each_queue step (l ∷ ls) s = each_queue step ls (turn l s).1 ∙ step l s

module _ {X : Type 0} (words : Words X) where
  -- ---- refilling: no sum changes
  load_sum : (f : ℕ → ℕ → ℕ) (q : List ℕ) (d : List (Left X)) → in_lane f (load words q d).0 + in_stock f (load words q d).1 ≡ in_queue f q + in_log f d
  unfolding load logged in_stock in_lane in_queue in_log
  load_sum f [] d = omega arith
  load_sum f (w ∷ q) d =
      by_cond (λ (t : Turn X). in_lane f t.0 + in_stock f t.1 ≡ f w 0 + in_queue f q + in_log f d) (over words (words.begin w) 0) _ _
      (λ e. omega (arith, load_sum f q (logged words w (words.begin w) 0 d))) (λ e. omega arith)

  pub fill_sum : (f : ℕ → ℕ → ℕ) (l : Lane X) (s : Stock X) → in_lane f (fill words l s).0 + in_stock f (fill words l s).1 ≡ in_lane f l + in_stock f s
  unfolding fill in_stock in_lane
  fill_sum f empty s = omega (arith, load_sum f s.queue s.log)
  fill_sum f (holds w x i) s = refl

  -- ---- an iteration: every word held has one more
  pub iterated_sum : (f : ℕ → ℕ → ℕ) (ls : List (Lane X)) → in_lanes f (map (iterated words) ls) ≡ in_lanes (λ w i. f w (suc i)) ls
  unfolding iterated in_lanes in_lane
  iterated_sum f [] = refl
  iterated_sum f (empty ∷ ls) = omega (arith, iterated_sum f ls)
  iterated_sum f (holds w x i ∷ ls) = ap (λ n. f w (suc i) + n) (iterated_sum f ls)

  pub iterated_all : (P P' : ℕ → X → ℕ → Type 0) → ((w : ℕ) (x : X) (i : ℕ) → P w x i → P' w (words.iterate x) (suc i))
      → (ls : List (Lane X)) → AllLanes (Held P) ls → AllLanes (Held P') (map (iterated words) ls)
  unfolding iterated
  iterated_all P P' step [] p = tt
  iterated_all P P' step (empty ∷ ls) p = (tt, iterated_all P P' step ls p.1)
  iterated_all P P' step (holds w x i ∷ ls) p = (step w x i p.0, iterated_all P P' step ls p.1)

  -- ---- leaving: no sum changes, no word is handed out
  pub leave_sum : (f : ℕ → ℕ → ℕ) (l : Lane X) (s : Stock X) → in_lane f (leave words l s).0 + in_stock f (leave words l s).1 ≡ in_lane f l + in_stock f s
  unfolding leave logged in_stock in_lane in_log
  leave_sum f empty s = refl
  leave_sum f (holds w x i) s =
      by_cond (λ (t : Turn X). in_lane f t.0 + in_stock f t.1 ≡ f w i + in_stock f s) (over words x i) _ _ (λ e. omega arith) (λ e. refl)

  pub leave_queue : (l : Lane X) (s : Stock X) → (leave words l s).1.queue ≡ s.queue
  unfolding leave
  leave_queue empty s = refl
  leave_queue (holds w x i) s = by_cond (λ (t : Turn X). t.1.queue ≡ s.queue) (over words x i) _ _ (λ e. refl) (λ e. refl)

  -- ---- facts that the outcome of the test `over` decides: P of a word that stays, Q of a word that leaves
  module _ (P Q : ℕ → X → ℕ → Type 0) where
    abbrev Stays : Turn X → Type 0
    Stays t = Held P t.0 × AllLog Q t.1.log

    load_all : ((w : ℕ) → over words (words.begin w) 0 ≡ true → Q w (words.begin w) 0) → ((w : ℕ) → over words (words.begin w) 0 ≡ false → P w (words.begin w) 0)
        → (q : List ℕ) (d : List (Left X)) → AllLog Q d → Stays (load words q d)
    unfolding load logged
    load_all out in' [] d h = (tt, h)
    load_all out in' (w ∷ q) d h =
        by_cond Stays (over words (words.begin w) 0) _ _
        (λ e. load_all out in' q (logged words w (words.begin w) 0 d) (out w e, h)) (λ e. (in' w e, h))

    pub fill_all : ((w : ℕ) → over words (words.begin w) 0 ≡ true → Q w (words.begin w) 0) → ((w : ℕ) → over words (words.begin w) 0 ≡ false → P w (words.begin w) 0)
        → (l : Lane X) (s : Stock X) → Held P l → AllLog Q s.log → Stays (fill words l s)
    unfolding fill
    fill_all out in' empty s p h = load_all out in' s.queue s.log h
    fill_all out in' (holds w x i) s p h = (p, h)

    pub leave_all : (B : ℕ → X → ℕ → Type 0) → ((w : ℕ) (x : X) (i : ℕ) → B w x i → over words x i ≡ true → Q w x i)
        → ((w : ℕ) (x : X) (i : ℕ) → B w x i → over words x i ≡ false → P w x i)
        → (l : Lane X) (s : Stock X) → Held B l → AllLog Q s.log → Stays (leave words l s)
    unfolding leave logged
    leave_all B out in' empty s p h = (tt, h)
    leave_all B out in' (holds w x i) s p h = by_cond Stays (over words x i) _ _ (λ e. (tt, (out w x i p e, h))) (λ e. (in' w x i p e, h))

  pub leave_held : (P : ℕ → X → ℕ → Type 0) (l : Lane X) (s : Stock X) → Held P l → Held P (leave words l s).0
  unfolding leave
  leave_held P empty s p = tt
  leave_held P (holds w x i) s p = by_cond (λ (t : Turn X). Held P t.0) (over words x i) _ _ (λ e. tt) (λ e. p)

  -- after an iteration a word that is held has had one: what holds of every number of iterations but 0 holds of it
  pub round_held : (P : ℕ → X → ℕ → Type 0) → ((w : ℕ) (x : X) (i : ℕ) → P w x (suc i)) → (ls : List (Lane X)) (s : Stock X)
      → AllLanes (Held P) (each (leave words) (map (iterated words) ls) s).0
  round_held P h ls s =
      (each_all (leave words) (Held P) (Held P) (λ _. Unit {0}) (λ l t q _. (leave_held P l t q, tt)) _ s
      (iterated_all (λ w x i. Unit {0}) P (λ w x i _. h w (words.iterate x) i) ls (any_lane ls)) tt).0

  -- ---- while a word waits after refilling, every lane is held
  load_full : (q : List ℕ) (d : List (Left X)) → Some (load words q d).1.queue → (in_lane one (load words q d).0 ≡ 1) × Some q
  unfolding load logged in_lane
  load_full [] d = λ h. absurd h
  load_full (w ∷ q) d =
      by_cond (λ (t : Turn X). Some t.1.queue → (in_lane one t.0 ≡ 1) × Unit {0}) (over words (words.begin w) 0) _ _
      (λ e h. ((load_full q (logged words w (words.begin w) 0 d) h).0, tt)) (λ e h. (refl, tt))

  fill_full : (l : Lane X) (s : Stock X) → Some (fill words l s).1.queue → (in_lane one (fill words l s).0 ≡ 1) × Some s.queue
  unfolding fill in_lane
  fill_full empty s h = load_full s.queue s.log h
  fill_full (holds w x i) s h = (refl, h)

  pub refill_full : (ls : List (Lane X)) (s : Stock X) → Some (each (fill words) ls s).1.queue
      → (in_lanes one (each (fill words) ls s).0 ≡ length ls) × Some s.queue
  unfolding each in_lanes
  refill_full [] s h = (refl, h)
  refill_full (l ∷ ls) s h =
      let r = refill_full ls (fill words l s).1 h in
      let a = fill_full l s r.1 in
      (omega (arith, a.0, r.0), a.1)

  -- ---- the queue is handed out from its front
  load_before : (q : List ℕ) (d : List (Left X)) → (front : List ℕ) × (q ≡ front ++ (load words q d).1.queue)
  unfolding load logged
  load_before [] d = ([], refl)
  load_before (w ∷ q) d =
      by_cond (λ (t : Turn X). (front : List ℕ) × (w ∷ q ≡ front ++ t.1.queue)) (over words (words.begin w) 0) _ _
      (λ e. let r = load_before q (logged words w (words.begin w) 0 d) in (w ∷ r.0, ap (λ z. w ∷ z) r.1)) (λ e. (w ∷ [], refl))

  pub fill_before : (l : Lane X) (s : Stock X) → (front : List ℕ) × (s.queue ≡ front ++ (fill words l s).1.queue)
  unfolding fill
  fill_before empty s = load_before s.queue s.log
  fill_before (holds w x i) s = ([], refl)

  -- ---- a word taken has had no iterations, and a word was waiting
  load_fresh : (P : ℕ → X → ℕ → Type 0) (W : Type 0) → (W → (w : ℕ) → P w (words.begin w) 0) → (q : List ℕ) (d : List (Left X)) → (Some q → W)
      → Held P (load words q d).0 × (Some (load words q d).1.queue → W)
  unfolding load logged
  load_fresh P W new [] d h = (tt, h)
  load_fresh P W new (w ∷ q) d h =
      by_cond (λ (t : Turn X). Held P t.0 × (Some t.1.queue → W)) (over words (words.begin w) 0) _ _
      (λ e. load_fresh P W new q (logged words w (words.begin w) 0 d) (λ _. h tt)) (λ e. (new (h tt) w, λ _. h tt))

  pub fill_fresh : (P : ℕ → X → ℕ → Type 0) (W : Type 0) → (W → (w : ℕ) → P w (words.begin w) 0) → (l : Lane X) (s : Stock X) → Held P l → (Some s.queue → W)
      → Held P (fill words l s).0 × (Some (fill words l s).1.queue → W)
  unfolding fill
  fill_fresh P W new empty s p h = load_fresh P W new s.queue s.log h
  fill_fresh P W new (holds w x i) s p h = (p, h)
