-- Demand 3 of the schedule holds of every run (`demand`): every order of loading that has each word at most once, every lane count of 1 or more,
-- every round limit. In order: the claim from what a run keeps (Rounds) and where words are (Places); no lane is empty while a word waits; no word
-- has more iterations than the limit; the scope's order of loading, and the claim for it (`demand_in_input_order`). Not here: round by round
-- (Iterations).
use Rattle.std.specs.Prelude.{◌≡◌, ◌↔◌, cond, ltb, get_or}
use Rattle.std.proofs.Math.Path.{refl, sym, ap, subst}
use Rattle.std.proofs.Common.{ap₂, ◌∙◌, not-suc-le-zero, zero-add, eq-eqb, ne_eqb, lt-ltb, le-ltb, ext_get_or, List, [], ◌∷◌, ◌++◌, ℕ, zero, suc, ◌+◌, ◌-◌, ◌*◌, ◌≤◌, ◌<◌, arith}
use Rattle.std.proofs.Math.Decide.{ℕ_discrete}
use Rattle.std.proofs.Math.ListN.{length, length-append}
use Rattle.laws.specs.Choice.{by_cond, same_self, same}
use Rattle.schedule.specs.Run.{counting, input_order}
use Rattle.schedule.specs.Run.{Words, Lane, empty, holds, Left, State, Ending, finished, stopped, Result, held, run}
use Rattle.schedule.specs.AloneLaws.{FirstMetOrLimit}
use Rattle.schedule.proofs.AloneLaws.{ends_so}
use Rattle.schedule.specs.Status.{Status, waiting, holding, done, spent, lane_words, log_words, all_words, status, sum, largest}
use Rattle.schedule.specs.WholeRun.{given, longest, times, count, case, Where, after_alone, ends_alone, Finished, AsAlone, WholeRun}
use Rattle.schedule.specs.Sums.{in_lane, in_lanes, in_queue, in_log, in_stock, one, iterations_of, Held, AllLanes, AllLog, Some}
use Rattle.schedule.proofs.Sums.{held_one}
use Rattle.schedule.specs.Rounds.{total, spent_so_far, above, Running, Ended, Good}
use Rattle.schedule.proofs.Rounds.{total_spent, run_good}
use Rattle.schedule.specs.Places.{weigh, by_iterations, ByStatus}
use Rattle.schedule.proofs.Places.{sum_ext, largest_le, largest_sum, queue_sum, count_sum, times_weigh, sum_status, weigh_total, weigh_case, by_status, in_one_place}

module _ {X : Type 0} where
  lanes_left : (words : Words X) (ls : List (Lane X)) → AllLanes (Held (Running words)) ls → in_lanes iterations_of ls + in_lanes one ls ≤ in_lanes (λ w i. ends_alone words w) ls
  unfolding in_lanes in_lane
  lanes_left words [] p = omega arith
  lanes_left words (empty ∷ ls) p = omega (arith, lanes_left words ls p.1)
  lanes_left words (holds w x i ∷ ls) p = omega (arith, p.0.1, lanes_left words ls p.1)

  log_left : (words : Words X) (es : List (Left X)) → AllLog (Ended words) es → in_log iterations_of es ≡ in_log (λ w i. ends_alone words w) es
  unfolding in_log
  log_left words [] p = refl
  log_left words (e ∷ es) p = omega (arith, p.0.1, log_left words es p.1)

  ones_lanes : (ls : List (Lane X)) → weigh (λ w st. 1) (lane_words ls) ≡ held ls
  unfolding weigh lane_words held
  ones_lanes [] = refl
  ones_lanes (empty ∷ ls) = ones_lanes ls
  ones_lanes (holds w x i ∷ ls) = omega (arith, ones_lanes ls)

  ones_log : (es : List (Left X)) → weigh (λ w st. 1) (log_words es) ≡ length es
  unfolding weigh log_words
  ones_log [] = refl
  ones_log (e ∷ es) = omega (arith, ones_log es)

  in_log_one : (es : List (Left X)) → in_log one es ≡ length es
  unfolding in_log
  in_log_one [] = refl
  in_log_one (e ∷ es) = omega (arith, in_log_one es)

some_queue : (v : ℕ) (q : List ℕ) → count v q ≡ 1 → Some q
unfolding count
some_queue v [] h = absurd (omega arith)
some_queue v (w ∷ q) h = tt

in_queue_one : (q : List ℕ) → in_queue one q ≡ length q
unfolding in_queue
in_queue_one [] = refl
in_queue_one (w ∷ q) = omega (arith, in_queue_one q)

sum_none : (f : ℕ → ℕ) (q : List ℕ) → ((v : ℕ) → 1 ≤ count v q → f v ≡ 0) → sum f q ≡ 0
unfolding sum count
sum_none f [] h = refl
sum_none f (w ∷ q) h = omega (arith, h w (omega (arith, same_self w)), sum_none f q (λ v l. h v (omega arith)))

by_ending : (P : Ending → Type 0) (e : Ending) → (e ≡ finished → P finished) → (e ≡ stopped → P stopped) → P e
by_ending P finished f g = f refl
by_ending P stopped f g = g refl

above_zero : (m w i : ℕ) → i ≤ m → above m w i ≡ 0
unfolding above
above_zero m w i h = ap {B = ℕ} (λ b. cond b 1 0) (le-ltb m i h)

module _ {X : Type 0} (words : Words X) (order : List ℕ) (once : (w : ℕ) → count w order ≤ 1) (others round_limit : ℕ) (r : Result X) (g : Good words order others round_limit r) where
  s : State X
  s = r.last

  stand : (v : ℕ) → times v (all_words s) ≡ count v order
  unfolding s
  stand v =
      times_weigh v (all_words s) ∙ weigh_total (λ w i. same v w) s ∙ g.inv.words_kept (same v) ∙ queue_sum (λ w i. same v w) order ∙ sym (count_sum v order)

  -- the sum over the order of what each word's status says
  over_all : (f : ℕ → Status X → ℕ) → sum (λ v. f v (status s v)) order ≡ weigh f (all_words s)
  unfolding status
  over_all f = sum_status order (all_words s) stand once f

  given_is : given order s ≡ spent_so_far s
  unfolding given
  given_is = over_all (λ w st. spent st) ∙ weigh_total iterations_of s ∙ total_spent s

  none_above : total (above (longest order s)) s ≡ 0
  unfolding longest
  none_above =
      sym (weigh_total (above m) s) ∙ sym (over_all (by_iterations (above m)))
      ∙ sum_none (λ v. above m v (spent (status s v))) order (λ v l. above_zero m v _ (largest_le (λ w. spent (status s w)) order v l))
    where
      m : ℕ
      m = largest (λ w. spent (status s w)) order

  number : (a b c : ℕ) → sum (λ w. case a b c (status s w)) order ≡ a * sum (λ _. 1) s.stock.queue + b * held s.lanes + c * length s.stock.log
  number a b c =
      sum_ext (λ w. case a b c (status s w)) (λ w. 1 * case a b c (status s w)) order (λ v _. omega arith)
      ∙ over_all (λ w st. 1 * case a b c st) ∙ weigh_case (λ _. 1) a b c s
      ∙ ap₂ (λ m n. a * sum (λ _. 1) s.stock.queue + b * m + c * n) (ones_lanes s.lanes) (ones_log s.stock.log)

  place_of : (v : ℕ) → count v order ≡ 1 → Where s v (status s v)
  place_of v h = in_one_place s v (stand v ∙ h)

  -- no lane is held: every word is finished
  done_all : held s.lanes ≡ 0 → (v : ℕ) → count v order ≡ 1 → Finished (status s v)
  unfolding s
  done_all z v h = at (status s v) refl (place_of v h)
    where
      at : (st : Status X) → status s v ≡ st → Where s v st → Finished st
      at waiting e w = absurd (omega (arith, g.filled (some_queue v s.stock.queue w.0)))
      at (holding x i) e w =
          absurd (omega (arith, largest_le (λ w. case 0 1 0 (status s w)) order v (omega arith), some_held, ap (case 0 1 0) e, number 0 1 0))
        where
          some_held : largest (λ w. case 0 1 0 (status s w)) order ≤ sum (λ w. case 0 1 0 (status s w)) order
          some_held = largest_sum (λ w. case 0 1 0 (status s w)) order
      at (done x i) e w = tt

  -- every word is finished: no lane is held
  none_held : ((v : ℕ) → count v order ≡ 1 → Finished (status s v)) → held s.lanes ≡ 0
  none_held h =
      omega (arith, number 0 1 0, sum_none (λ w. case 0 1 0 (status s w)) order (λ v l. at (status s v) (h v (omega (arith, once v)))))
    where
      at : (st : Status X) → Finished st → case 0 1 0 st ≡ 0
      at waiting f = absurd f
      at (holding x i) f = absurd f
      at (done x i) f = refl

  busy_end : r.ending ≡ stopped → round_limit < sum (ends_alone words) order
  unfolding s spent_so_far total in_stock
  busy_end e =
      omega (
        arith,
        (g.stops e).0,
        (g.stops e).1,
        g.inv.busy,
        held_one s.lanes,
        lanes_left words s.lanes g.inv.running,
        log_left words s.stock.log g.inv.ended,
        g.inv.words_kept (ends_alone words),
        queue_sum (λ w i. ends_alone words w) order,
      )

  alone_of : (v : ℕ) (st : Status X) → ByStatus (Running words) (Ended words) v st → AsAlone words v st
  alone_of v waiting p = tt
  alone_of v (holding x i) p = p
  alone_of v (done x i) p = (p.0 ∙ ap (after_alone words v) p.1, p.1)

  finishes : r.ending ≡ finished ↔ held s.lanes ≡ 0
  unfolding s
  finishes = (g.finishes, λ z. by_ending (λ e. e ≡ finished) r.ending (λ _. refl) (λ e. absurd (omega (arith, (g.stops e).1))))

  loaded_of : (front : List ℕ) × (order ≡ front ++ s.stock.queue) × (length front ≡ held s.lanes + length s.stock.log)
  unfolding s total in_stock
  loaded_of = (
    g.inv.suffix.0,
    g.inv.suffix.1,
    omega (
      arith,
      ap length g.inv.suffix.1,
      length-append g.inv.suffix.0 s.stock.queue,
      g.inv.words_kept (λ _. 1),
      in_queue_one order,
      in_queue_one s.stock.queue,
      in_log_one s.stock.log,
      held_one s.lanes,
    ),
  )

  demand_of : WholeRun words order (suc others) round_limit r
  unfolding s
  demand_of =
      record {
        rounds_within = g.in_limit;
        finished_when = finishes;
        stopped_when = λ e. (g.stops e).0;
        all_finished = (λ e. done_all (finishes.0 e), λ h. finishes.1 (none_held h));
        enough = λ h. by_ending (λ e. e ≡ finished) r.ending (λ _. refl) (λ e. absurd (omega (arith, busy_end e)));
        all_there = stand;
        place = place_of;
        as_alone = λ v. alone_of v (status s v) (by_status (Running words) (Ended words) s g.inv.running g.inv.ended v);
        loaded = loaded_of;
        lane_count = g.inv.width;
        held_count = number 0 1 0 ∙ omega arith;
        finished_count = number 0 0 1 ∙ omega arith;
        waits = λ w h e. given_is ∙ g.inv.full (some_queue w s.stock.queue (subst (Where s w) e (place_of w h)).0);
        most = subst (λ n. suc others * s.rounds ≤ given order s + n * longest order s) less (omega (arith, given_is, g.inv.most (longest order s) none_above));
      }
    where
      less : others ≡ suc others - 1
      less = omega arith

-- each word once, a lane at least: the theorem
pub demand : {X : Type 0} (words : Words X) (order : List ℕ) → ((w : ℕ) → count w order ≤ 1) → (lanes : ℕ) → 1 ≤ lanes → (round_limit : ℕ)
    → WholeRun words order lanes round_limit (run words order lanes round_limit)
demand words order once zero h round_limit = absurd (not-suc-le-zero h)
demand words order once (suc others) h round_limit = demand_of words order once others round_limit _ (run_good words order others round_limit)

-- no lane is empty while a word waits
pub full_while_waiting : {X : Type 0} (words : Words X) (order : List ℕ) → ((w : ℕ) → count w order ≤ 1) → (lanes : ℕ) → 1 ≤ lanes → (round_limit w : ℕ)
    → count w order ≡ 1 → status (run words order lanes round_limit).last w ≡ waiting → held (run words order lanes round_limit).last.lanes ≡ lanes
full_while_waiting words order once zero h round_limit w o e = absurd (not-suc-le-zero h)
full_while_waiting {X} words order once (suc others) h round_limit w o e =
    let s : State X = (run words order (suc others) round_limit).last in
    (run_good words order others round_limit).filled
    (some_queue w s.stock.queue (subst (Where s w) e ((demand words order once (suc others) h round_limit).place w o)).0)

-- ---- what follows for a word's record
module _ {X : Type 0} (words : Words X) (w : ℕ) where
  alone : FirstMetOrLimit (words.begin w) words.iterate words.met words.iteration_limit (ends_alone words w)
  alone = ends_so (words.begin w) words.iterate words.met words.iteration_limit

  -- no more iterations than the limit
  pub spent_within : (st : Status X) → AsAlone words w st → spent st ≤ words.iteration_limit
  spent_within waiting a = omega arith
  spent_within (holding x i) a = omega (arith, a.1, alone.within)
  spent_within (done x i) a = omega (arith, a.1, alone.within)

-- ---- the scope's order
count_below : (v a n : ℕ) → v < a → count v (counting a n) ≡ 0
unfolding count counting
count_below v a zero h = refl
count_below v a (suc n) h =
    let e : v ≡ a → ⊥ = λ e. omega arith in
    omega (arith, ap {B = ℕ} (λ b. cond b 1 0) (ne_eqb v a e), count_below v (suc a) n (omega arith))

count_counting : (v a n : ℕ) → a ≤ v → count v (counting a n) ≡ cond (ltb v (a + n)) 1 0
unfolding count counting
count_counting v a zero h = sym (ap {B = ℕ} (λ b. cond b 1 0) (le-ltb v (a + 0) (omega arith)))
count_counting v a (suc n) h = at (ℕ_discrete v a) (count_counting v (suc a) n)
  where
    at : Dec (v ≡ a) → (suc a ≤ v → count v (counting (suc a) n) ≡ cond (ltb v (suc a + n)) 1 0) → same v a + count v (counting (suc a) n) ≡ cond (ltb v (a + suc n)) 1 0
    at (yes e) k =
        let i : v < a + suc n = omega arith in
        let j : v < suc a = omega arith in
        omega (arith, ap {B = ℕ} (λ b. cond b 1 0) (eq-eqb v a e), count_below v (suc a) n j, ap {B = ℕ} (λ b. cond b 1 0) (lt-ltb v (a + suc n) i))
    at (no e) k =
        let i : suc a + n ≡ a + suc n = omega arith in
        omega (arith, ap {B = ℕ} (λ b. cond b 1 0) (ne_eqb v a e), k (omega arith), ap {B = ℕ} (λ m. cond (ltb v m) 1 0) i)

pub input_count : (w n : ℕ) → w < n → count w (input_order n) ≡ 1
unfolding input_order
input_count w n h =
    let i : w < 0 + n = omega arith in
    count_counting w 0 n (omega arith) ∙ ap {B = ℕ} (λ b. cond b 1 0) (lt-ltb w (0 + n) i)

pub input_once : (n w : ℕ) → count w (input_order n) ≤ 1
unfolding input_order
input_once n w = omega (arith, count_counting w 0 n (omega arith), by_cond (λ m. m ≤ 1) (ltb w (0 + n)) 1 0 (λ _. omega arith) (λ _. omega arith))

pub length_counting : (a n : ℕ) → length (counting a n) ≡ n
unfolding counting
length_counting a zero = refl
length_counting a (suc n) = ap suc (length_counting (suc a) n)

pub get_d_counting : (a n k : ℕ) → k < n → get_or (counting a n) k 0 ≡ a + k
unfolding counting
get_d_counting a zero k h = absurd (not-suc-le-zero h)
get_d_counting a (suc n) zero h = omega arith
get_d_counting a (suc n) (suc k) h = get_d_counting (suc a) n k (omega arith) ∙ omega arith

-- a list of n words with word k at place k is the input order
pub input_is : (n : ℕ) (order : List ℕ) → length order ≡ n → ((k : ℕ) → k < n → get_or order k 0 ≡ k) → order ≡ input_order n
unfolding input_order
input_is n order l h =
    ext_get_or 0 order (counting 0 n) (l ∙ sym (length_counting 0 n)) (λ k g. let i : k < n = omega (arith, g, l) in h k i ∙ sym (get_d_counting 0 n k i ∙ zero-add k))

-- the run of n words in input order, for every lane count and round limit
pub demand_in_input_order : {X : Type 0} (words : Words X) (n lanes : ℕ) → 1 ≤ lanes → (round_limit : ℕ)
    → WholeRun words (input_order n) lanes round_limit (run words (input_order n) lanes round_limit)
demand_in_input_order words n lanes h round_limit = demand words (input_order n) (input_once n) lanes h round_limit
