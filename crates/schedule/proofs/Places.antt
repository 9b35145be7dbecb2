-- Each word of a run is in one place. In order: sums and the largest over an order; sums over words with their status (`weigh`); in a list with the
-- words of an order, each once, a word's status is what stands beside it (`only_found`, `sum_status`); the three parts of a state; facts of every
-- word from facts of lanes and log (`by_status`); where a word is, by its status (`case_at`, `in_one_place`).
use Rattle.std.specs.Prelude.{◌≡◌}
use Rattle.std.proofs.Math.Path.{refl, sym, ap, ap₂, subst}
use Rattle.std.proofs.Common.{◌∙◌, not-suc-le-zero, eqb-true, List, [], ◌∷◌, ◌++◌, ℕ, ◌+◌, ◌*◌, ◌≤◌, max, arith}
use Rattle.std.proofs.Math.Bool.{cond}
use Rattle.std.proofs.Math.Dec.{eqb}
use Rattle.laws.specs.Choice.{by_cond, by_bool, same_self, same_sym, same}
use Rattle.schedule.specs.Run.{Lane, empty, holds, Left, State}
use Rattle.schedule.specs.Status.{Status, waiting, holding, done, lane_words, log_words, queue_words, all_words, seek, status, sum, largest}
use Rattle.schedule.specs.WholeRun.{times, count, case, Where}
use Rattle.schedule.specs.Sums.{in_lane, in_lanes, in_queue, in_log, in_stock, Held, AllLanes, AllLog}
use Rattle.schedule.specs.Rounds.{total}
use Rattle.schedule.specs.Places.{weigh, All, by_iterations, ByStatus}

-- ---- sums over an order
pub queue_sum : (f : ℕ → ℕ → ℕ) (q : List ℕ) → in_queue f q ≡ sum (λ w. f w 0) q
unfolding in_queue sum
queue_sum f [] = refl
queue_sum f (w ∷ q) = omega (arith, queue_sum f q)

pub count_sum : (v : ℕ) (q : List ℕ) → count v q ≡ sum (λ w. same v w) q
unfolding count sum
count_sum v [] = refl
count_sum v (w ∷ q) = omega (arith, count_sum v q)

sum_times : (k : ℕ → ℕ) (a : ℕ) (q : List ℕ) → sum (λ w. k w * a) q ≡ a * sum k q
unfolding sum
sum_times k a [] = omega arith
sum_times k a (w ∷ q) = omega (arith, sum_times k a q)

pub sum_ext : (f g : ℕ → ℕ) (q : List ℕ) → ((v : ℕ) → 1 ≤ count v q → f v ≡ g v) → sum f q ≡ sum g q
unfolding sum count
sum_ext f g [] h = refl
sum_ext f g (w ∷ q) h = ap₂ ◌+◌ (h w (omega (arith, same_self w))) (sum_ext f g q (λ v l. h v (omega arith)))

sum_add : (f g : ℕ → ℕ) (q : List ℕ) → sum (λ v. f v + g v) q ≡ sum f q + sum g q
unfolding sum
sum_add f g [] = refl
sum_add f g (v ∷ q) = omega (arith, sum_add f g q)

sum_zero : (q : List ℕ) → sum (λ _. 0) q ≡ 0
unfolding sum
sum_zero [] = refl
sum_zero (v ∷ q) = omega (arith, sum_zero q)

sum_one : (w x : ℕ) (q : List ℕ) → sum (λ v. same v w * x) q ≡ x * count w q
unfolding sum count
sum_one w x [] = omega arith
sum_one w x (v ∷ q) =
    ap (λ n. n * x + sum (λ v. same v w * x) q) (same_sym v w)
    ∙ by_bool (λ b. cond b 1 0 * x + sum (λ v. same v w * x) q ≡ x * (cond b 1 0 + count w q)) (eqb w v)
    (λ _. omega (arith, sum_one w x q)) (λ _. omega (arith, sum_one w x q))

pub largest_le : (f : ℕ → ℕ) (q : List ℕ) (v : ℕ) → 1 ≤ count v q → f v ≤ largest f q
unfolding largest count
largest_le f [] v h = absurd (not-suc-le-zero h)
largest_le f (w ∷ q) v h =
    by_bool (λ b. eqb v w ≡ b → 1 ≤ cond b 1 0 + count v q → f v ≤ max (f w) (largest f q)) (eqb v w)
    (λ _ e h. omega (arith, ap f (eqb-true v w e))) (λ _ e h. omega (arith, largest_le f q v (omega arith))) refl h

pub largest_sum : (f : ℕ → ℕ) (q : List ℕ) → largest f q ≤ sum f q
unfolding largest sum
largest_sum f [] = omega arith
largest_sum f (w ∷ q) = omega (arith, largest_sum f q)

module _ {X : Type 0} where
  weigh_append : (f : ℕ → Status X → ℕ) (a b : List (ℕ × Status X)) → weigh f (a ++ b) ≡ weigh f a + weigh f b
  unfolding weigh
  weigh_append f [] b = omega arith
  weigh_append f (e ∷ a) b = omega (arith, weigh_append f a b)

  pub times_weigh : (v : ℕ) (es : List (ℕ × Status X)) → times v es ≡ weigh (λ w st. same v w) es
  unfolding times weigh
  times_weigh v [] = refl
  times_weigh v (e ∷ es) = omega (arith, times_weigh v es)

  all_append : (P : ℕ → Status X → Type 0) (a b : List (ℕ × Status X)) → All P a → All P b → All P (a ++ b)
  all_append P [] b p q = q
  all_append P (e ∷ a) b p q = (p.0, all_append P a b p.1 q)

  -- what holds of every word in the list, and of waiting, holds of the status that is found
  seek_all : (P : ℕ → Status X → Type 0) (v : ℕ) (es : List (ℕ × Status X)) → All P es → P v waiting → P v (seek v es)
  unfolding seek
  seek_all P v [] p h = h
  seek_all P v (e ∷ es) p h =
      by_cond (P v) (eqb v e.0) e.1 (seek v es) (λ q. subst (λ w. P w e.1) (sym (eqb-true v e.0 q)) p.0) (λ _. seek_all P v es p.1 h)

  -- f of the word v alone
  abbrev only : ℕ → (ℕ → Status X → ℕ) → ℕ → Status X → ℕ
  only v f w st = same v w * f w st

  only_none : (f : ℕ → Status X → ℕ) (v : ℕ) (es : List (ℕ × Status X)) → times v es ≡ 0 → weigh (only v f) es ≡ 0
  unfolding weigh times
  only_none f v [] z = refl
  only_none f v (e ∷ es) z =
      by_bool (λ b. cond b 1 0 + times v es ≡ 0 → cond b 1 0 * f e.0 e.1 + weigh (only v f) es ≡ 0) (eqb v e.0)
      (λ _ z. absurd (omega arith)) (λ _ z. omega (arith, only_none f v es (omega arith))) z

  -- a word that stands once in the list: a sum over it alone is what its status says
  pub only_found : (f : ℕ → Status X → ℕ) (v : ℕ) (es : List (ℕ × Status X)) → times v es ≡ 1 → weigh (only v f) es ≡ f v (seek v es)
  unfolding weigh times seek
  only_found f v [] z = absurd (omega arith)
  only_found f v (e ∷ es) z =
      by_bool (λ b. eqb v e.0 ≡ b → cond b 1 0 + times v es ≡ 1 → cond b 1 0 * f e.0 e.1 + weigh (only v f) es ≡ f v (cond b e.1 (seek v es))) (eqb v e.0)
      (λ _ q z. omega (arith, only_none f v es (omega arith), ap (λ w. f w e.1) (eqb-true v e.0 q)))
      (λ _ _ z. omega (arith, only_found f v es (omega arith))) refl z

  -- ---- a list with the words of an order, each once
  module _ (order : List ℕ) where
    exchange : (f : ℕ → Status X → ℕ) (es : List (ℕ × Status X)) → All (λ w st. count w order ≡ 1) es → sum (λ v. weigh (only v f) es) order ≡ weigh f es
    unfolding weigh
    exchange f [] p = sum_zero order
    exchange f (e ∷ es) p =
        sum_add (λ v. same v e.0 * f e.0 e.1) (λ v. weigh (only v f) es) order
        ∙ ap₂ ◌+◌ (sum_one e.0 (f e.0 e.1) order ∙ ap (λ n. f e.0 e.1 * n) p.0 ∙ omega arith) (exchange f es p.1)

    every : (Q : ℕ → Type 0) (es : List (ℕ × Status X)) → ((w : ℕ) → 1 ≤ times w es → Q w) → All (λ w st. Q w) es
    unfolding times
    every Q [] h = tt
    every Q (e ∷ es) h = (h e.0 (omega (arith, same_self e.0)), every Q es (λ w l. h w (omega arith)))

    -- the sum over the order of what each word's status says is the sum over the list
    pub sum_status : (es : List (ℕ × Status X)) → ((v : ℕ) → times v es ≡ count v order) → ((v : ℕ) → count v order ≤ 1)
        → (f : ℕ → Status X → ℕ) → sum (λ v. f v (seek v es)) order ≡ weigh f es
    sum_status es stand once f =
        sum_ext (λ v. f v (seek v es)) (λ v. weigh (only v f) es) order (λ v l. sym (only_found f v es (omega (arith, stand v, once v))))
        ∙ exchange f es (every (λ w. count w order ≡ 1) es (λ w l. omega (arith, stand w, once w)))

  weigh_lanes : (f : ℕ → ℕ → ℕ) (ls : List (Lane X)) → weigh (by_iterations f) (lane_words ls) ≡ in_lanes f ls
  unfolding weigh lane_words in_lanes in_lane
  weigh_lanes f [] = refl
  weigh_lanes f (empty ∷ ls) = omega (arith, weigh_lanes f ls)
  weigh_lanes f (holds w x i ∷ ls) = omega (arith, weigh_lanes f ls)

  weigh_log : (f : ℕ → ℕ → ℕ) (es : List (Left X)) → weigh (by_iterations f) (log_words es) ≡ in_log f es
  unfolding weigh log_words in_log
  weigh_log f [] = refl
  weigh_log f (e ∷ es) = omega (arith, weigh_log f es)

  weigh_queue : (f : ℕ → Status X → ℕ) (q : List ℕ) → weigh f (queue_words q) ≡ sum (λ w. f w waiting) q
  unfolding weigh queue_words sum
  weigh_queue f [] = refl
  weigh_queue f (w ∷ q) = omega (arith, weigh_queue f q)

  pub weigh_parts : (f : ℕ → Status X → ℕ) (s : State X)
      → weigh f (all_words s) ≡ weigh f (lane_words s.lanes) + weigh f (log_words s.stock.log) + sum (λ w. f w waiting) s.stock.queue
  unfolding all_words
  weigh_parts f s =
      omega (arith, weigh_append f (lane_words s.lanes) (log_words s.stock.log ++ queue_words s.stock.queue), weigh_append f (log_words s.stock.log) (queue_words s.stock.queue), weigh_queue f s.stock.queue)

  pub weigh_total : (f : ℕ → ℕ → ℕ) (s : State X) → weigh (by_iterations f) (all_words s) ≡ total f s
  unfolding total in_stock
  weigh_total f s =
      omega (arith, weigh_parts (by_iterations f) s, weigh_lanes f s.lanes, weigh_log f s.stock.log, queue_sum f s.stock.queue)

  module _ (H D : ℕ → X → ℕ → Type 0) where
    all_lanes : (ls : List (Lane X)) → AllLanes (Held H) ls → All (ByStatus H D) (lane_words ls)
    unfolding lane_words
    all_lanes [] p = tt
    all_lanes (empty ∷ ls) p = all_lanes ls p.1
    all_lanes (holds w x i ∷ ls) p = (p.0, all_lanes ls p.1)

    all_log : (es : List (Left X)) → AllLog D es → All (ByStatus H D) (log_words es)
    unfolding log_words
    all_log [] p = tt
    all_log (e ∷ es) p = (p.0, all_log es p.1)

    all_queue : (q : List ℕ) → All (ByStatus H D) (queue_words q)
    unfolding queue_words
    all_queue [] = tt
    all_queue (w ∷ q) = (tt, all_queue q)

    pub by_status : (s : State X) → AllLanes (Held H) s.lanes → AllLog D s.stock.log → (v : ℕ) → ByStatus H D v (status s v)
    unfolding status all_words
    by_status s p q v =
        seek_all (ByStatus H D) v _ (all_append _ (lane_words s.lanes) _ (all_lanes s.lanes p) (all_append _ (log_words s.stock.log) _ (all_log s.stock.log q) (all_queue s.stock.queue))) tt

  -- ---- where a word is, by its status
  module _ (k : ℕ → ℕ) (a b c : ℕ) where
    case_lanes : (ls : List (Lane X)) → weigh (λ w st. k w * case a b c st) (lane_words ls) ≡ b * weigh (λ w st. k w) (lane_words ls)
    unfolding weigh lane_words
    case_lanes [] = omega arith
    case_lanes (empty ∷ ls) = case_lanes ls
    case_lanes (holds w x i ∷ ls) = omega (arith, case_lanes ls)

    case_log : (es : List (Left X)) → weigh (λ w st. k w * case a b c st) (log_words es) ≡ c * weigh (λ w st. k w) (log_words es)
    unfolding weigh log_words
    case_log [] = omega arith
    case_log (e ∷ es) = omega (arith, case_log es)

    pub weigh_case : (s : State X) → weigh (λ w st. k w * case a b c st) (all_words s)
        ≡ a * sum k s.stock.queue + b * weigh (λ w st. k w) (lane_words s.lanes) + c * weigh (λ w st. k w) (log_words s.stock.log)
    weigh_case s =
        omega (arith, weigh_parts (λ w st. k w * case a b c st) s, case_lanes s.lanes, case_log s.stock.log, sum_times k a s.stock.queue)

  -- a word that stands once: its status says how often it stands in the queue, in lanes and in the log
  pub case_at : (a b c v : ℕ) (s : State X) → times v (all_words s) ≡ 1
      → a * count v s.stock.queue + b * times v (lane_words s.lanes) + c * times v (log_words s.stock.log) ≡ case a b c (status s v)
  unfolding status
  case_at a b c v s h =
      ap (λ n. a * n + b * times v (lane_words s.lanes) + c * times v (log_words s.stock.log)) (count_sum v s.stock.queue)
      ∙ ap₂ (λ m n. a * sum (same v) s.stock.queue + b * m + c * n) (times_weigh v (lane_words s.lanes)) (times_weigh v (log_words s.stock.log))
      ∙ sym (weigh_case (same v) a b c s) ∙ only_found (λ w st. case a b c st) v (all_words s) h

  pub in_one_place : (s : State X) (v : ℕ) → times v (all_words s) ≡ 1 → Where s v (status s v)
  in_one_place s v h = at (status s v) (case_at 1 0 0 v s h) (case_at 0 1 0 v s h) (case_at 0 0 1 v s h)
    where
      Sum : ℕ → ℕ → ℕ → Status X → Type 0
      Sum a b c st = a * count v s.stock.queue + b * times v (lane_words s.lanes) + c * times v (log_words s.stock.log) ≡ case a b c st

      at : (st : Status X) → Sum 1 0 0 st → Sum 0 1 0 st → Sum 0 0 1 st → Where s v st
      at waiting p q r = (omega arith, omega arith, omega arith)
      at (holding x i) p q r = (omega arith, omega arith, omega arith)
      at (done x i) p q r = (omega arith, omega arith, omega arith)
