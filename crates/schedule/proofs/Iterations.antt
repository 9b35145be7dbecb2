-- "A word waits until a lane takes it, is held until it leaves, and is then finished" and "A word's iterations, which its record shows, are the
-- rounds made while a lane held it": of every order of loading, lane count and round limit, for a word that stands once in the order.
--
-- In order: the states of a run, round by round, and that its last state is one of them (`last_is`); a word that was taken does not wait again and
-- a finished one stays so (`waits_first`, `stays_finished`); its iterations are the rounds in which it is held (`iterations_are_rounds`),
-- and these are the rounds from the one before which a lane took it to the one in which it left (`held_between`).
use Rattle.std.specs.Prelude.{◌≡◌, ◌↔◌, eqb}
use Rattle.std.proofs.Math.Path.{refl, sym, ap}
use Rattle.std.proofs.Common.{◌∙◌, subst, not-suc-le-zero, List, [], ◌∷◌, map, ℕ, zero, suc, ◌+◌, ◌-◌, ◌*◌, ◌≤◌, ◌<◌, arith}
use Rattle.std.proofs.Math.Decide.{ℕ_discrete}
use Rattle.laws.specs.Choice.{same, by_cond}
use Rattle.schedule.specs.Run.{Words, Lane, empty, holds, Left, Stock, State, Turn, Result, each, held, over, logged, load, fill, iterated, leave, refill, round, go, start, run}
use Rattle.schedule.specs.Status.{Status, waiting, holding, done, spent, lane_words, log_words, all_words, status}
use Rattle.schedule.specs.WholeRun.{count, times, case, Finished}
use Rattle.schedule.specs.Sums.{in_lane, in_lanes, in_queue, in_log, in_stock}
use Rattle.schedule.proofs.Sums.{none_in}
use Rattle.schedule.specs.Rounds.{total}
use Rattle.schedule.proofs.Rounds.{refill_total, round_total}
use Rattle.schedule.proofs.Places.{queue_sum, count_sum, times_weigh, only_found, weigh_total, case_at}
use Rattle.schedule.specs.Iterations.{state_at, held_in, rounds_held, HeldFromTo}

module _ {X : Type 0} (words : Words X) (order : List ℕ) (lanes : ℕ) where
  -- ---- the run's last state is the one after its rounds
  rounds_at : (r : ℕ) → (state_at words order lanes r).rounds ≡ r
  unfolding state_at refill round start
  rounds_at zero = refl
  rounds_at (suc r) = ap suc (rounds_at r)

  go_last : (left r : ℕ) (s : State X) → refill words s ≡ state_at words order lanes r → (k : ℕ) × ((go words left s).last ≡ state_at words order lanes k)
  unfolding go state_at
  go_last zero r s e =
      by_cond (λ (t : Result X). (k : ℕ) × (t.last ≡ state_at words order lanes k)) (eqb (held (refill words s).lanes) 0) _ _ (λ _. (r, e)) (λ _. (r, e))
  go_last (suc left) r s e =
      by_cond (λ (t : Result X). (k : ℕ) × (t.last ≡ state_at words order lanes k)) (eqb (held (refill words s).lanes) 0) _ _ (λ _. (r, e))
      (λ _. go_last left (suc r) (round words (refill words s)) (ap (λ (t : State X). refill words (round words t)) e))

  module _ (round_limit : ℕ) where
    abbrev last : State X
    last = (run words order lanes round_limit).last

    pub last_is : last ≡ state_at words order lanes last.rounds
    unfolding run state_at
    last_is =
        let x = go_last round_limit 0 (start words order lanes) refl in
        x.1 ∙ ap (state_at words order lanes) (sym (ap (λ (s : State X). s.rounds) x.1 ∙ rounds_at x.0))

-- ---- a turn: the log grows and the queue shrinks, by sums over words
module _ {X : Type 0} (words : Words X) (f : ℕ → ℕ → ℕ) where
  abbrev Later : Stock X → Stock X → Type 0
  Later a b = (in_log f a.log ≤ in_log f b.log) × (in_queue f b.queue ≤ in_queue f a.queue)

  each_later : (turn : Lane X → Stock X → Turn X) → ((l : Lane X) (s : Stock X) → Later s (turn l s).1) → (ls : List (Lane X)) (s : Stock X) → Later s (each turn ls s).1
  unfolding each
  each_later turn step [] s = (omega arith, omega arith)
  each_later turn step (l ∷ ls) s =
      let a = step l s in
      let b = each_later turn step ls (turn l s).1 in
      (omega (arith, a.0, b.0), omega (arith, a.1, b.1))

  load_later : (q : List ℕ) (d : List (Left X)) → Later (record { queue = q; log = d }) (load words q d).1
  unfolding load logged in_log in_queue
  load_later [] d = (omega arith, omega arith)
  load_later (w ∷ q) d =
      by_cond (λ (t : Turn X). Later (record { queue = w ∷ q; log = d }) t.1) (over words (words.begin w) 0) _ _
      (λ _. let r = load_later q (logged words w (words.begin w) 0 d) in (omega (arith, r.0), omega (arith, r.1))) (λ _. (omega arith, omega arith))

  fill_later : (l : Lane X) (s : Stock X) → Later s (fill words l s).1
  unfolding fill
  fill_later empty s = load_later s.queue s.log
  fill_later (holds w x i) s = (omega arith, omega arith)

  leave_later : (l : Lane X) (s : Stock X) → Later s (leave words l s).1
  unfolding leave logged in_log
  leave_later empty s = (omega arith, omega arith)
  leave_later (holds w x i) s =
      by_cond (λ (t : Turn X). Later s t.1) (over words x i) _ _ (λ _. (omega arith, omega arith)) (λ _. (omega arith, omega arith))

  round_later : (s : State X) → Later s.stock (refill words (round words s)).stock
  unfolding refill round
  round_later s =
      let a = each_later (leave words) leave_later (map (iterated words) s.lanes) s.stock in
      let t = each (leave words) (map (iterated words) s.lanes) s.stock in
      let b = each_later (fill words) fill_later t.0 t.1 in
      (omega (arith, a.0, b.0), omega (arith, a.1, b.1))

-- ---- one word among others: 1 for the word v; its iterations
abbrev mine : ℕ → ℕ → ℕ → ℕ
mine v w i = same v w

abbrev my_iterations : ℕ → ℕ → ℕ → ℕ
my_iterations v w i = same v w * i

count_queue : (v : ℕ) (q : List ℕ) → count v q ≡ in_queue (mine v) q
count_queue v q = count_sum v q ∙ sym (queue_sum (mine v) q)

none_yet : (v : ℕ) (q : List ℕ) → in_queue (my_iterations v) q ≡ 0
unfolding in_queue
none_yet v [] = refl
none_yet v (w ∷ q) = omega (arith, none_yet v q)

module _ {X : Type 0} (v : ℕ) where
  times_lanes : (ls : List (Lane X)) → times v (lane_words ls) ≡ in_lanes (mine v) ls
  unfolding times lane_words in_lanes in_lane
  times_lanes [] = refl
  times_lanes (empty ∷ ls) = omega (arith, times_lanes ls)
  times_lanes (holds w x i ∷ ls) = omega (arith, times_lanes ls)

  times_log : (es : List (Left X)) → times v (log_words es) ≡ in_log (mine v) es
  unfolding times log_words in_log
  times_log [] = refl
  times_log (e ∷ es) = omega (arith, times_log es)

  one_more : (ls : List (Lane X)) → in_lanes (λ w i. my_iterations v w (suc i)) ls ≡ in_lanes (my_iterations v) ls + in_lanes (mine v) ls
  unfolding in_lanes in_lane
  one_more [] = refl
  one_more (empty ∷ ls) = omega (arith, one_more ls)
  one_more (holds w x i ∷ ls) = omega (arith, one_more ls)

module _ {X : Type 0} (words : Words X) (order : List ℕ) (lanes w : ℕ) (once : count w order ≡ 1) where
  abbrev state : ℕ → State X
  state = state_at words order lanes

  mine_at : (r : ℕ) → total (mine w) (state r) ≡ in_queue (mine w) order
  unfolding state_at
  mine_at zero = refill_total words (mine w) (start words order lanes) ∙ begun
    where
      begun : total (mine w) (start words order lanes) ≡ in_queue (mine w) order
      begun = unfold total start in_stock in_log in omega (arith, none_in X (mine w) lanes)
  mine_at (suc r) = refill_total words (mine w) (round words (state r)) ∙ round_total words (mine w) (state r) ∙ same_total ∙ mine_at r
    where
      same_total : in_lanes (mine w) (state r).lanes + in_stock (mine w) (state r).stock ≡ total (mine w) (state r)
      same_total = unfold total in refl

  stands_once : (r : ℕ) → times w (all_words (state r)) ≡ 1
  stands_once r = times_weigh w (all_words (state r)) ∙ weigh_total (mine w) (state r) ∙ mine_at r ∙ sym (count_queue w order) ∙ once

  -- ---- waiting, then held, then finished
  pub waits_first : (r : ℕ) → status (state (suc r)) w ≡ waiting → status (state r) w ≡ waiting
  unfolding state_at
  waits_first r e = at (status (state r) w) (case_at 1 0 0 w (state r) (stands_once r))
    where
      now : count w (state (suc r)).stock.queue ≡ 1
      now = omega (arith, case_at 1 0 0 w (state (suc r)) (stands_once (suc r)), ap (case 1 0 0) e)

      before : 1 ≤ count w (state r).stock.queue
      before =
          omega (arith, now, (round_later words (mine w) (state r)).1, count_queue w (state r).stock.queue, count_queue w (state (suc r)).stock.queue)

      at : (st : Status X) → 1 * count w (state r).stock.queue + 0 * times w (lane_words (state r).lanes) + 0 * times w (log_words (state r).stock.log) ≡ case 1 0 0 st → st ≡ waiting
      at waiting q = refl
      at (holding x i) q = absurd (omega (arith, before, q))
      at (done x i) q = absurd (omega (arith, before, q))

  pub stays_finished : (r : ℕ) → Finished (status (state r) w) → Finished (status (state (suc r)) w)
  unfolding state_at
  stays_finished r d = at (status (state (suc r)) w) (case_at 0 0 1 w (state (suc r)) (stands_once (suc r)))
    where
      one : (st : Status X) → Finished st → case 0 0 1 st ≡ 1
      one waiting f = absurd f
      one (holding x i) f = absurd f
      one (done x i) f = refl

      before : times w (log_words (state r).stock.log) ≡ 1
      before = omega (arith, case_at 0 0 1 w (state r) (stands_once r), one (status (state r) w) d)

      now : 1 ≤ times w (log_words (state (suc r)).stock.log)
      now = omega (arith, before, (round_later words (mine w) (state r)).0, times_log w (state r).stock.log, times_log w (state (suc r)).stock.log)

      at : (st : Status X) → 0 * count w (state (suc r)).stock.queue + 0 * times w (lane_words (state (suc r)).lanes) + 1 * times w (log_words (state (suc r)).stock.log) ≡ case 0 0 1 st → Finished st
      at waiting q = absurd (omega (arith, now, q))
      at (holding x i) q = absurd (omega (arith, now, q))
      at (done x i) q = tt

  -- ---- its iterations are the rounds in which it is held
  held_lanes : (r : ℕ) → held_in words order lanes w r ≡ in_lanes (mine w) (state r).lanes
  unfolding held_in
  held_lanes r = omega (arith, case_at 0 1 0 w (state r) (stands_once r), times_lanes w (state r).lanes)

  next_spent : (r : ℕ) → total (my_iterations w) (state (suc r)) ≡ total (my_iterations w) (state r) + held_in words order lanes w r
  unfolding state_at
  next_spent r = refill_total words (my_iterations w) (round words (state r)) ∙ round_total words (my_iterations w) (state r) ∙ more
    where
      parts : total (my_iterations w) (state r) ≡ in_lanes (my_iterations w) (state r).lanes + in_stock (my_iterations w) (state r).stock
      parts = unfold total in refl

      more : in_lanes (λ v i. my_iterations w v (suc i)) (state r).lanes + in_stock (my_iterations w) (state r).stock ≡ total (my_iterations w) (state r) + held_in words order lanes w r
      more = omega (arith, one_more w (state r).lanes, held_lanes r, parts)

  spent_at : (r : ℕ) → total (my_iterations w) (state r) ≡ rounds_held words order lanes w r
  unfolding rounds_held
  spent_at zero = unfold state_at in (refill_total words (my_iterations w) (start words order lanes) ∙ begun)
    where
      begun : total (my_iterations w) (start words order lanes) ≡ 0
      begun = unfold total start in_stock in_log in omega (arith, none_in X (my_iterations w) lanes, none_yet w order)
  spent_at (suc r) = next_spent r ∙ ap (λ n. n + held_in words order lanes w r) (spent_at r)

  -- so far
  pub iterations_at : (r : ℕ) → spent (status (state r) w) ≡ rounds_held words order lanes w r
  unfolding status
  iterations_at r = sym (only_found (λ v st. spent st) w (all_words (state r)) (stands_once r)) ∙ weigh_total (my_iterations w) (state r) ∙ spent_at r

  -- at the end
  pub iterations_are_rounds : (round_limit : ℕ)
      → spent (status (run words order lanes round_limit).last w) ≡ rounds_held words order lanes w (run words order lanes round_limit).last.rounds
  iterations_are_rounds round_limit =
      ap (λ (s : State X). spent (status s w)) (last_is words order lanes round_limit) ∙ iterations_at (run words order lanes round_limit).last.rounds

  record Between (k a b : ℕ) : Type 0 where
    held_there : HeldFromTo words order lanes w once k a b
    many : rounds_held words order lanes w k ≡ b - a
    while_waiting : status (state k) w ≡ waiting → a ≡ k
    while_held : case 0 1 0 (status (state k) w) ≡ 1 → b ≡ k

  between : (k : ℕ) → (a : ℕ) × (b : ℕ) × Between k a b
  unfolding rounds_held
  between zero =
      (0, 0, record { held_there = (omega arith, omega arith, λ r h. absurd (not-suc-le-zero h)); many = refl; while_waiting = λ _. refl; while_held = λ _. refl })
  between (suc k) = at (status (state k) w) refl (between k)
    where
      H : ℕ → ℕ
      H r = held_in words order lanes w r

      here : (st : Status X) → status (state k) w ≡ st → H k ≡ case 0 1 0 st
      here st e = unfold held_in in ap (case 0 1 0) e

      -- round k, or one before it
      each_round : (a b a' b' : ℕ) → ((r : ℕ) → r < k → H r ≡ 1 ↔ ((a ≤ r) × (r < b))) → ((r : ℕ) → r < k → ((a ≤ r) × (r < b)) ↔ ((a' ≤ r) × (r < b')))
          → H k ≡ 1 ↔ ((a' ≤ k) × (k < b')) → (r : ℕ) → r < suc k → H r ≡ 1 ↔ ((a' ≤ r) × (r < b'))
      each_round a b a' b' old same_rounds new r h = go (ℕ_discrete r k)
        where
          go : Dec (r ≡ k) → H r ≡ 1 ↔ ((a' ≤ r) × (r < b'))
          go (yes e) = subst (λ n. H n ≡ 1 ↔ ((a' ≤ n) × (n < b'))) (sym e) new
          go (no n) =
              let g : r < k = omega arith in
              (λ x. (same_rounds r g).0 ((old r g).0 x), λ y. (old r g).1 ((same_rounds r g).1 y))

      at : (st : Status X) → status (state k) w ≡ st → (a : ℕ) × (b : ℕ) × Between k a b → (a : ℕ) × (b : ℕ) × Between (suc k) a b
      at waiting e (a, b, p) = (
        suc k,
        suc k,
        record {
          held_there = (
            omega arith,
            omega arith,
            each_round a b (suc k) (suc k) p.held_there.2
                (λ r h. ((λ x. absurd (omega (arith, p.while_waiting e, x.0))), λ y. absurd (omega (arith, y.0))))
                ((λ x. absurd (omega (arith, here waiting e, x))), λ y. absurd (omega (arith, y.0))),
          );
          many = omega (arith, p.many, p.while_waiting e, p.held_there.0, p.held_there.1, here waiting e);
          while_waiting = λ _. refl;
          while_held = λ _. refl;
        },
      )
      at (holding x i) e (a, b, p) =
          let q : b ≡ k = p.while_held (ap (case 0 1 0) e) in (
            a,
            suc k,
            record {
              held_there = (
                omega (arith, p.held_there.0),
                omega arith,
                each_round a b a (suc k) p.held_there.2
                    (λ r h. ((λ o. (o.0, omega (arith, o.1, q))), λ y. (y.0, omega (arith, h, q))))
                    ((λ _. (omega (arith, p.held_there.0, q), omega arith)), λ _. here (holding x i) e),
              );
              many = omega (arith, p.many, q, p.held_there.0, here (holding x i) e);
              while_waiting = λ f. absurd (omega (arith, ap (case 1 0 0) (waits_first k f), ap (case 1 0 0) e));
              while_held = λ _. refl;
            },
          )
      at (done x i) e (a, b, p) = (
        a,
        b,
        record {
          held_there = (
            p.held_there.0,
            omega (arith, p.held_there.1),
            each_round a b a b p.held_there.2 (λ r h. ((λ x. x), λ y. y))
                ((λ o. absurd (omega (arith, here (done x i) e, o))), λ y. absurd (omega (arith, y.1, p.held_there.1))),
          );
          many = omega (arith, p.many, here (done x i) e);
          while_waiting = λ f. absurd (omega (arith, ap (case 1 0 0) (waits_first k f), ap (case 1 0 0) e));
          while_held = λ f. absurd (still (status (state (suc k)) w) (stays_finished k (subst Finished (sym e) tt)) f);
        },
      )
        where
          still : (st : Status X) → Finished st → case 0 1 0 st ≡ 1 → ⊥
          still waiting d f = d
          still (holding y j) d f = d
          still (done y j) d f = omega (arith, f)

  pub held_between : (round_limit : ℕ) → (a : ℕ) × (b : ℕ) × HeldFromTo words order lanes w once (run words order lanes round_limit).last.rounds a b × (spent (status (run words order lanes round_limit).last w) ≡ b - a)
  held_between round_limit =
      let (a, b, p) = between (run words order lanes round_limit).last.rounds in
      (a, b, p.held_there, iterations_are_rounds round_limit ∙ p.many)
