-- After the last round: the words still held are written, lane by lane. Then memory says of each word what its status says (`memory_of`), and
-- demand 3 speaks of memory. In order: finding a word among others; `Closing` from the first lane to the last; the run's own lanes and log.
use Rattle.std.specs.Prelude.{◌≡◌, ◌≢◌, Bool, true, false, eqb, length, take, drop}
use Rattle.std.proofs.Math.Path.{refl, ap}
use Rattle.std.proofs.Common.{sym, ◌∙◌, add-one, eqb-true, eq-eqb, ne_eqb, length-append, length-drop, take-append-drop, take-suc, take_all, List, [], ◌∷◌, ◌++◌, append_assoc, ℕ, ◌+◌, ◌-◌, ◌≤◌, ◌<◌, arith}
use Rattle.std.proofs.Math.Bool.{cond}
use Rattle.std.proofs.lemmas.Bool.{eqb-false}
use Rattle.std.proofs.Math.ListN.{get_or}
use Rattle.laws.specs.Choice.{by_bool, by_cond, same_self}
use Rattle.schedule.specs.Run.{Lane, empty, holds, Left, State, held}
use Rattle.schedule.specs.Status.{Status, waiting, holding, done, lane_words, log_words, queue_words, all_words, seek, status}
use Rattle.schedule.specs.WholeRun.{times, count, WholeRun}
use Rattle.schedule.proofs.Theorem.{demand}
use Rattle.schedule.specs.Lanes.{Setup, lane_of, row, rows, kept, Kept}
use Rattle.schedule.proofs.Lanes.{length_rows, get_d_rows, lane_held}
use Rattle.schedule.specs.Loop.{result, ResultStands}
use Rattle.schedule.specs.Close.{memory_of, Closing}

module _ {X : Type 0} where
  times_append : (v : ℕ) (a b : List (ℕ × Status X)) → times v (a ++ b) ≡ times v a + times v b
  unfolding times
  times_append v [] b = omega arith
  times_append v (e ∷ a) b = omega (arith, times_append v a b)

  lane_words_append : (a b : List (Lane X)) → lane_words (a ++ b) ≡ lane_words a ++ lane_words b
  unfolding lane_words
  lane_words_append [] b = refl
  lane_words_append (empty ∷ a) b = lane_words_append a b
  lane_words_append (holds w x i ∷ a) b = ap (λ ws. (w, holding x i) ∷ ws) (lane_words_append a b)

  -- a word more, if it is not the one sought, makes no difference; the one sought is found if it stands nowhere before
  seek_other : (v w : ℕ) (st : Status X) → v ≢ w → (a b : List (ℕ × Status X)) → seek v (a ++ ((w, st) ∷ b)) ≡ seek v (a ++ b)
  unfolding seek
  seek_other v w st n [] b = ap (λ t. cond t st (seek v b)) (ne_eqb v w n)
  seek_other v w st n (e ∷ a) b = ap (λ r. cond (eqb v e.0) e.1 r) (seek_other v w st n a b)

  seek_here : (w : ℕ) (st : Status X) (a b : List (ℕ × Status X)) → times w a ≡ 0 → seek w (a ++ ((w, st) ∷ b)) ≡ st
  unfolding seek times
  seek_here w st [] b z = ap (λ t. cond t st (seek w b)) (eq-eqb w w refl)
  seek_here w st (e ∷ a) b z =
      by_bool (λ t. cond t 1 0 + times w a ≡ 0 → cond t e.1 (seek w (a ++ ((w, st) ∷ b))) ≡ st) (eqb w e.0)
      (λ _ z. absurd (omega arith)) (λ _ z. seek_here w st a b (omega arith)) z

  -- the words that wait are found waiting with or without the queue
  seek_queue : (v : ℕ) (q : List ℕ) → seek {X = X} v (queue_words q) ≡ waiting
  unfolding seek queue_words
  seek_queue v [] = refl
  seek_queue v (w ∷ q) = by_cond (λ (st : Status X). st ≡ waiting) (eqb v w) waiting _ (λ _. refl) (λ _. seek_queue v q)

  seek_no_queue : (v : ℕ) (a : List (ℕ × Status X)) (q : List ℕ) → seek v (a ++ queue_words q) ≡ seek v a
  unfolding seek
  seek_no_queue v [] q = seek_queue v q
  seek_no_queue v (e ∷ a) q = ap (λ r. cond (eqb v e.0) e.1 r) (seek_no_queue v a q)

module _ {X M : Type 0} (R : Setup X M) where
  memory_log : (log : List (Left X)) (v : ℕ) → kept R v (seek v (log_words log)) ≡ memory_of R v (seek v (log_words log))
  unfolding kept memory_of seek log_words
  memory_log [] v = refl
  memory_log (e ∷ es) v =
      by_bool (λ b. kept R v (cond b (done e.values e.iterations) (seek v (log_words es))) ≡ memory_of R v (cond b (done e.values e.iterations) (seek v (log_words es)))) (eqb v e.word)
      (λ _. refl) (λ _. memory_log es v)

  module _ (held' iters : List ℕ) (col : ℕ → X) (log : List (Left X)) where
    abbrev ls : List (Lane X)
    ls = rows R.lanes held' iters col

    abbrev seen : ℕ → List (ℕ × Status X)
    seen l = lane_words (take l ls) ++ log_words log

    pub closing_start : (memory : ℕ → M) → ((w : ℕ) → times w (lane_words ls) ≤ 1) → Kept R log memory → Closing R held' iters col log 0 memory
    unfolding lane_words
    closing_start memory once k = record { each_once = once; memory_so = λ v. k v ∙ memory_log log v }

    next_lane : (l : ℕ) → l < R.lanes → lane_words (take (l + 1) ls) ≡ lane_words (take l ls) ++ lane_words (row held' iters col l ∷ [])
    next_lane l h =
        ap (λ k. lane_words (take k ls)) (add-one l) ∙ ap lane_words (take-suc ls l empty (omega (arith, length_rows R.lanes held' iters col)))
        ∙ lane_words_append (take l ls) (get_or ls l empty ∷ []) ∙ ap (λ x. lane_words (take l ls) ++ lane_words (x ∷ [])) (get_d_rows R.lanes held' iters col l h)

    append_nil : (a : List (ℕ × Status X)) → a ++ [] ≡ a
    append_nil [] = refl
    append_nil (e ∷ a) = ap (λ b. e ∷ b) (append_nil a)

    -- an empty lane
    pub closing_skip : (l : ℕ) (memory : ℕ → M) → l < R.lanes → get_or held' l 0 ≡ 0 → Closing R held' iters col log l memory → Closing R held' iters col log (l + 1) memory
    unfolding lane_words lane_of
    closing_skip l memory h z c =
        record {
          each_once = c.each_once;
          memory_so = λ v. c.memory_so v ∙ ap (λ ws. memory_of R v (seek v (ws ++ log_words log)))
              (sym (next_lane l h ∙ ap (λ k. lane_words (take l ls) ++ lane_words (lane_of k (col l) (get_or iters l 0) ∷ [])) z ∙ append_nil (lane_words (take l ls))));
        }

    -- lane l's word is written, and no other
    pub closing_write : (l : ℕ) (memory memory' : ℕ → M) → l < R.lanes → get_or held' l 0 ≢ 0
        → memory' (get_or held' l 0 - 1) ≡ R.during (get_or held' l 0 - 1) (col l) (get_or iters l 0) → ((v : ℕ) → v ≢ get_or held' l 0 - 1 → memory' v ≡ memory v)
        → Closing R held' iters col log l memory → Closing R held' iters col log (l + 1) memory'
    unfolding lane_words memory_of
    closing_write l memory memory' h n new others c = record { each_once = c.each_once; memory_so = λ v. at v (eqb v w) refl }
      where
        w : ℕ
        w = get_or held' l 0 - 1

        st : Status X
        st = holding (col l) (get_or iters l 0)

        one_more : lane_words (take (l + 1) ls) ≡ lane_words (take l ls) ++ ((w, st) ∷ [])
        one_more = next_lane l h ∙ ap (λ x. lane_words (take l ls) ++ lane_words (x ∷ [])) (lane_held (get_or held' l 0) (col l) (get_or iters l 0) n)

        now_seen : seen (l + 1) ≡ lane_words (take l ls) ++ ((w, st) ∷ log_words log)
        now_seen = ap (λ ws. ws ++ log_words log) one_more ∙ append_assoc (lane_words (take l ls)) ((w, st) ∷ []) (log_words log)

        not_before : times w (lane_words (take l ls)) ≡ 0
        not_before =
            omega (
              arith,
              c.each_once w,
              ap (λ a. times w (lane_words a)) (take-append-drop (l + 1) ls),
              ap (times w) (lane_words_append (take (l + 1) ls) (drop (l + 1) ls)),
              times_append w (lane_words (take (l + 1) ls)) (lane_words (drop (l + 1) ls)),
              ap (times w) one_more,
              times_append w (lane_words (take l ls)) ((w, st) ∷ []),
              one_there,
            )
          where
            one_there : times w ((w, st) ∷ []) ≡ 1
            one_there = unfold times in omega (arith, same_self w)

        at : (v : ℕ) (b : Bool) → eqb v w ≡ b → memory' v ≡ memory_of R v (seek v (seen (l + 1)))
        at v true e =
            ap memory' (eqb-true v w e) ∙ new
            ∙ sym (ap (memory_of R v) (ap (seek v) now_seen ∙ ap (λ u. seek u (lane_words (take l ls) ++ ((w, st) ∷ log_words log))) (eqb-true v w e) ∙ seek_here w st (lane_words (take l ls)) (log_words log) not_before)
            ∙ ap (λ u. R.during u (col l) (get_or iters l 0)) (eqb-true v w e))
        at v false e =
            others v (eqb-false v w e) ∙ c.memory_so v ∙ ap (memory_of R v) (sym (ap (seek v) now_seen ∙ seek_other v w st (eqb-false v w e) (lane_words (take l ls)) (log_words log)))

    pub closing_end : (l : ℕ) (memory : ℕ → M) → R.lanes ≡ l → Closing R held' iters col log l memory → (v : ℕ) → memory v ≡ memory_of R v (seek v (lane_words ls ++ log_words log))
    closing_end l memory e c v = c.memory_so v ∙ ap (λ a. memory_of R v (seek v (lane_words a ++ log_words log))) (take_all l ls (omega (arith, length_rows R.lanes held' iters col)))

  -- ---- the run's own lanes and log
  module _ (n round_limit : ℕ) (once : (w : ℕ) → count w R.order ≤ 1) (some : 1 ≤ R.lanes) where
    demanded : WholeRun R.words R.order R.lanes round_limit (result R n round_limit)
    demanded = demand R.words R.order once R.lanes some round_limit

    module _ (ended : Bool) (rounds : ℕ) (held' iters : List ℕ) (col : ℕ → X) (next : ℕ) (memory : ℕ → M) (r : ResultStands R n round_limit ended rounds held' iters col next memory) where
      abbrev s : State X
      s = (result R n round_limit).last

      pub close_start : Closing R held' iters col s.stock.log 0 memory
      close_start =
          closing_start held' iters col s.stock.log memory (λ w. at_most w) r.stands.log_is
        where
          at_most : (w : ℕ) → times w (lane_words (rows R.lanes held' iters col)) ≤ 1
          at_most w =
              omega (
                arith,
                ap (λ ls. times w (lane_words ls)) r.stands.lanes_are,
                demanded.all_there w,
                once w,
                unfolded w,
                times_append w (lane_words s.lanes) (log_words s.stock.log ++ queue_words s.stock.queue),
              )
            where
              unfolded : (w : ℕ) → times w (all_words s) ≡ times w (lane_words s.lanes ++ (log_words s.stock.log ++ queue_words s.stock.queue))
              unfolded w = unfold all_words in refl

      -- memory says of each word what its status says
      pub close_end : (l : ℕ) (memory' : ℕ → M) → R.lanes ≡ l → Closing R held' iters col s.stock.log l memory' → (v : ℕ) → memory' v ≡ memory_of R v (status s v)
      unfolding status all_words
      close_end l memory' e c v =
          closing_end held' iters col s.stock.log l memory' e c v
          ∙ ap (λ ls. memory_of R v (seek v (lane_words ls ++ log_words s.stock.log))) r.stands.lanes_are
          ∙ ap (memory_of R v) (sym (ap (seek v) (sym (append_assoc (lane_words s.lanes) (log_words s.stock.log) (queue_words s.stock.queue)))
          ∙ seek_no_queue v (lane_words s.lanes ++ log_words s.stock.log) s.stock.queue))

      -- the words loaded: held and finished
      pub loaded_are : next ≡ held s.lanes + length s.stock.log
      loaded_are =
          omega (
            arith,
            r.in_order,
            ap length r.stands.queue_is,
            length-drop next R.order,
            ap length demanded.loaded.1,
            length-append demanded.loaded.0 s.stock.queue,
            demanded.loaded.2,
          )
