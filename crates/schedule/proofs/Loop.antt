-- The run as code does it: refill, test, a round, again. In order: what a round may rely on (`Safe`, `Ready`); what arrays and memory are at the
-- end (`ResultStands`); before refilling (`Going`) and after it (`Pausing`), and the ways from one to the other and to the end.
use Rattle.std.proofs.Math.Path.{◌≡◌, refl, sym, ap, ap₂, subst}
use Rattle.std.proofs.Common.{◌∙◌, add-one, List, [], ◌∷◌, map, ℕ, zero, suc, ◌+◌, ◌-◌, ◌≤◌, ◌<◌, arith, ltb-true, lt-ltb}
use Rattle.std.specs.Prelude.{◌≢◌, Bool, true, not, ◌||◌, ltb, length, get_or, replicate}
use Rattle.std.proofs.Math.Bool.{false, cond}
use Rattle.std.proofs.lemmas.Bool.{not-true, not-false, eqb-false}
use Rattle.std.proofs.Math.Dec.{eqb}
use Rattle.std.proofs.Math.ListN.{drop}
use Rattle.std.proofs.lemmas.List.{length-replicate, get_or-replicate}
use Rattle.std.proofs.Math.Seq.{ext_get_or}
use Rattle.laws.specs.Choice.{by_bool, by_cond}
use Rattle.schedule.specs.Run.{is_stopped}
use Rattle.schedule.specs.Run.{Words, Lane, empty, holds, Left, Stock, State, Ending, finished, stopped, Result, each, held, over, fill, iterated, leave, refill, round, go, start, run}
use Rattle.schedule.specs.Sums.{in_lane, in_lanes, in_queue, in_log, in_stock, Held, AllLanes, AllLog}
use Rattle.schedule.proofs.Sums.{each_all, each_sum, fill_sum, leave_sum, iterated_sum, iterated_all, fill_all, leave_all, all_empty, none_in, round_held}
use Rattle.schedule.specs.Lanes.{Setup, lane_of, rows, Kept, stock, Stands, Sized}
use Rattle.schedule.proofs.Lanes.{length_rows, get_d_rows, lane_held, any_is, kept_start}
use Rattle.schedule.specs.Refill.{Refilled, Assigned, fresh}
use Rattle.schedule.proofs.Refill.{refilled_later}
use Rattle.schedule.specs.Round.{Advanced}
use Rattle.schedule.specs.Loop.{outside, Short, Safe, result, ResultStands, made, settle, Ready, Going, Pausing}

not_outside : (n w i : ℕ) → outside n w i ≡ 0 → w < n
unfolding outside
not_outside n w i = by_cond (λ (m : ℕ). m ≡ 0 → w < n) (ltb w n) 0 1 (λ e _. ltb-true w n e) (λ _ h. absurd (omega arith))

-- ---- what a round may rely on: a held word is one of the n words, and has had fewer iterations than the limit
module _ {X : Type 0} (words : Words X) (n : ℕ) where
  abbrev Any : ℕ → X → ℕ → Type 0
  Any w x i = Unit {0}

  over_false : (x : X) (i : ℕ) → over words x i ≡ false → i ≢ words.iteration_limit
  unfolding over
  over_false x i =
      by_bool (λ a. (a || eqb i words.iteration_limit) ≡ false → i ≢ words.iteration_limit) (words.met x)
      (λ _ e. let z : ◌≡◌ {A = ℕ} 0 1 = cc in absurd (omega arith)) (λ _ e. eqb-false i words.iteration_limit e)

  any_log : (log : List (Left X)) → AllLog Any log
  any_log [] = tt
  any_log (e ∷ es) = (tt, any_log es)

  safe_fill : (ls : List (Lane X)) (s : Stock X) → Safe words n ls s → Safe words n (each (fill words) ls s).0 (each (fill words) ls s).1
  safe_fill ls s v =
      record {
        short = (each_all (fill words) (Held (Short words n)) (Held (Short words n)) (λ (t : Stock X). AllLog Any t.log)
            (fill_all words (Short words n) Any (λ w _. tt) (λ w e. omega (arith, over_false (words.begin w) 0 e))) ls s v.short (any_log s.log)).0;
        known = each_sum (fill words) (outside n) (fill_sum words (outside n)) ls s ∙ v.known;
      }

  safe_round : (ls : List (Lane X)) (s : Stock X) → Safe words n ls s → Safe words n (each (leave words) (map (iterated words) ls) s).0 (each (leave words) (map (iterated words) ls) s).1
  safe_round ls s v =
      record {
        short = (each_all (leave words) (Held B) (Held (Short words n)) (λ (t : Stock X). AllLog Any t.log)
            (leave_all words (Short words n) Any B (λ w x i p e. tt) (λ w x i p e. omega (arith, p, over_false x i e))) (map (iterated words) ls) s
            (iterated_all words (Short words n) B (λ w x i p. p) ls v.short) (any_log s.log)).0;
        known = each_sum (leave words) (outside n) (leave_sum words (outside n)) (map (iterated words) ls) s
            ∙ ap (λ m. m + in_stock (outside n) s) (iterated_sum words (outside n) ls) ∙ plain;
      }
    where
      B : ℕ → X → ℕ → Type 0
      B w x i = i ≤ words.iteration_limit

      plain : in_lanes (λ w i. outside n w (suc i)) ls + in_stock (outside n) s ≡ 0
      plain = unfold outside in v.known

  held_at : (P : ℕ → X → ℕ → Type 0) (ls : List (Lane X)) → AllLanes (Held P) ls → (k w : ℕ) (x : X) (i : ℕ) → get_or ls k empty ≡ holds w x i → P w x i
  held_at P [] p k w x i e = let z : ◌≡◌ {A = ℕ} 0 1 = cc in absurd (omega arith)
  held_at P (y ∷ ls) p zero w x i e = subst (Held P) e p.0
  held_at P (y ∷ ls) p (suc k) w x i e = held_at P ls p.1 k w x i e

  known_at : (f : ℕ → ℕ → ℕ) (ls : List (Lane X)) → in_lanes f ls ≡ 0 → (k w : ℕ) (x : X) (i : ℕ) → get_or ls k empty ≡ holds w x i → f w i ≡ 0
  unfolding in_lanes in_lane
  known_at f [] z k w x i e = let z : ◌≡◌ {A = ℕ} 0 1 = cc in absurd (omega arith)
  known_at f (y ∷ ls) z zero w x i e = omega (arith, ap (in_lane f) e)
  known_at f (y ∷ ls) z (suc k) w x i e = known_at f ls (omega arith) k w x i e

module _ {X M : Type 0} (R : Setup X M) (n round_limit : ℕ) where
  go_settle : (left : ℕ) (s : State X) → go R.words left s ≡ settle R n round_limit left (refill R.words s)
  unfolding go settle
  go_settle zero s = refl
  go_settle (suc left) s = refl

  ready : (held' iters : List ℕ) (col : ℕ → X) (s : Stock X) → Safe R.words n (rows R.lanes held' iters col) s → Ready R n round_limit held' iters
  ready held' iters col s v =
      record {
        held_known = λ l h z. not_outside n _ _ (known_at R.words n (outside n) (rows R.lanes held' iters col) (omega (arith, v.known)) l _ _ _ (holds_it l h z));
        iters_short = λ l h z. held_at R.words n (Short R.words n) (rows R.lanes held' iters col) v.short l _ _ _ (holds_it l h z);
      }
    where
      holds_it : (l : ℕ) → l < R.lanes → get_or held' l 0 ≢ 0 → get_or (rows R.lanes held' iters col) l empty ≡ holds (get_or held' l 0 - 1) (col l) (get_or iters l 0)
      holds_it l h z = get_d_rows R.lanes held' iters col l h ∙ lane_held _ _ _ z

  zeros : (held' iters : List ℕ) (col : ℕ → X) → ((k : ℕ) → k < R.lanes → get_or held' k 0 ≡ 0) → rows R.lanes held' iters col ≡ replicate R.lanes empty
  unfolding lane_of
  zeros held' iters col z =
      ext_get_or empty _ _ (length_rows R.lanes held' iters col ∙ sym (length-replicate R.lanes empty)) (λ i h.
      let g : i < R.lanes = omega (arith, h, length_rows R.lanes held' iters col) in
      get_d_rows R.lanes held' iters col i g ∙ ap (λ h. lane_of h (col i) (get_or iters i 0)) (z i g) ∙ sym (get_or-replicate R.lanes i empty empty g))

  all_inside : (q : List ℕ) → ((k : ℕ) → k < length q → get_or q k 0 < n) → in_queue (outside n) q ≡ 0
  unfolding in_queue
  all_inside [] h = refl
  all_inside (w ∷ q) h = omega (arith, inside w (h 0 (omega arith)), all_inside q (λ k g. h (suc k) (omega arith)))
    where
      inside : (w : ℕ) → w < n → outside n w 0 ≡ 0
      inside w g = unfold outside in ap {B = ℕ} (λ b. cond b 0 1) (lt-ltb w n g)

  -- no lane is held and no word is marked
  pub going_start : (held' iters : List ℕ) (col : ℕ → X) (memory : ℕ → M) → Sized held' iters → ((k : ℕ) → k < R.lanes → get_or held' k 0 ≡ 0)
      → ((k : ℕ) → k < length R.order → get_or R.order k 0 < n) → ((v : ℕ) → memory v ≡ R.before v) → Going R n round_limit held' iters col 0 0 memory
  unfolding made start run in_stock in_log
  going_start held' iters col memory s z inside m =
      record {
        sized = s;
        in_order = omega arith;
        in_limit = omega arith;
        begun = λ l h k. absurd (k (z l h));
        log = [];
        log_is = kept_start R memory m;
        safe = subst (λ (ls : List (Lane X)). Safe R.words n ls (stock R 0 [])) (sym (zeros held' iters col z))
            (record { short = all_empty _ R.lanes; known = omega (arith, none_in X (outside n) R.lanes, all_inside R.order inside) });
        goes = ap₂ (λ k ls. go R.words k (record { lanes = ls; stock = record { queue = R.order; log = [] }; rounds = 0 })) none (zeros held' iters col z);
      }
    where
      none : round_limit - 0 ≡ round_limit
      none = omega arith

  pub pausing : (held₀ iters₀ : List ℕ) (col₀ : ℕ → X) (next₀ : ℕ) (memory₀ : ℕ → M) (held' iters : List ℕ) (col : ℕ → X) (next : ℕ) (busy : Bool) (memory : ℕ → M) (rounds : ℕ)
      → Going R n round_limit held₀ iters₀ col₀ next₀ rounds memory₀ → Refilled R held₀ iters₀ col₀ next₀ memory₀ held' iters col next busy memory
      → Pausing R n round_limit held' iters col next rounds busy memory
  unfolding made refill
  pausing held₀ iters₀ col₀ next₀ memory₀ held' iters col next busy memory rounds g r =
      record {
        sized = r.sized g.sized;
        in_order = r.in_order;
        in_limit = g.in_limit;
        busy_is = r.busy_is;
        is_ready = ready held' iters col _ ok;
        log = t.1.log;
        log_is = s.log_is;
        safe = ok;
        goes = ap₂ (λ ls q. settle R n round_limit (round_limit - rounds) (record { lanes = ls; stock = record { queue = q; log = t.1.log }; rounds = rounds })) s.lanes_are s.queue_is
            ∙ sym (go_settle (round_limit - rounds) (made R n round_limit held₀ iters₀ col₀ next₀ rounds g.log)) ∙ g.goes;
      }
    where
      t : List (Lane X) × Stock X
      t = each (fill R.words) (rows R.lanes held₀ iters₀ col₀) (stock R next₀ g.log)

      s : Stands R t held' iters col next memory
      s = r.after_refill g.log g.log_is

      ok : Safe R.words n (rows R.lanes held' iters col) (stock R next t.1.log)
      ok =
          subst (λ (ls : List (Lane X)). Safe R.words n ls (stock R next t.1.log)) (sym s.lanes_are)
          (subst (λ (q : List ℕ). Safe R.words n t.0 (record { queue = q; log = t.1.log })) (sym s.queue_is) (safe_fill R.words n _ _ g.safe))

  -- the same with columns loaded after the words are assigned: first what loading may rely on, then the columns as loaded
  module _ (held₀ iters₀ : List ℕ) (col₀ : ℕ → X) (next₀ : ℕ) (memory₀ : ℕ → M) (held' iters : List ℕ) (next : ℕ) (busy : Bool) (memory : ℕ → M) (rounds : ℕ)
      (g : Going R n round_limit held₀ iters₀ col₀ next₀ rounds memory₀) (r : Assigned R held₀ iters₀ next₀ memory₀ held' iters next busy memory) where
    pub pausing_later : (col : ℕ → X) → ((l : ℕ) → l < R.lanes → get_or held' l 0 ≢ 0 → col l ≡ fresh R held' iters col₀ l) → Pausing R n round_limit held' iters col next rounds busy memory
    pausing_later col h =
        pausing held₀ iters₀ col₀ next₀ memory₀ held' iters col next busy memory rounds g (refilled_later R held₀ iters₀ col₀ next₀ memory₀ held' iters col next busy memory g.begun r h)

    pub ready_later : Ready R n round_limit held' iters
    ready_later = (pausing_later (fresh R held' iters col₀) (λ l _ _. refl)).is_ready

    pub sized_later : Sized held' iters
    sized_later = (r.refilled col₀).sized g.sized

  module _ (held' iters : List ℕ) (col : ℕ → X) (next rounds : ℕ) (busy : Bool) (memory : ℕ → M) (p : Pausing R n round_limit held' iters col next rounds busy memory) where
    T : State X
    T = made R n round_limit held' iters col next rounds p.log

    stands_so : (e : Ending) → result R n round_limit ≡ record { ending = e; last = T } → (b : Bool) → b ≡ is_stopped e → ResultStands R n round_limit b rounds held' iters col next memory
    unfolding T made
    stands_so e q b i =
        record {
          ending_is = i ∙ ap (λ (r : Result X). is_stopped r.ending) (sym q);
          rounds_are = ap (λ (r : Result X). r.last.rounds) (sym q);
          in_order = p.in_order;
          stands =
              subst (λ (r : Result X). Stands R (r.last.lanes, r.last.stock) held' iters col next memory) (sym q)
              (record { lanes_are = refl; queue_is = refl; log_is = p.log_is });
        }

    idle : (left : ℕ) → eqb (held (rows R.lanes held' iters col)) 0 ≡ true → settle R n round_limit left T ≡ record { ending = finished; last = T }
    unfolding settle T made
    idle zero e = ap (λ b. cond b (record { ending = finished; last = T }) (record { ending = stopped; last = T })) e
    idle (suc left) e = ap (λ b. cond b (record { ending = finished; last = T }) (go R.words left (round R.words T))) e

    busy_rows : busy ≡ not (eqb (held (rows R.lanes held' iters col)) 0)
    busy_rows = p.busy_is ∙ any_is R.lanes held' iters col

    -- no lane is held
    pub ends_finished : busy ≡ false → (ended : Bool) → ended ≡ false → ResultStands R n round_limit ended rounds held' iters col next memory
    unfolding T is_stopped
    ends_finished b = stands_so finished (sym p.goes ∙ idle (round_limit - rounds) (not-false _ (sym busy_rows ∙ b)))

    busy_held : busy ≡ true → eqb (held (rows R.lanes held' iters col)) 0 ≡ false
    busy_held b = not-true _ (sym busy_rows ∙ b)

    -- the limit is used up
    pub ends_stopped : busy ≡ true → rounds ≡ round_limit → (ended : Bool) → ended ≡ true → ResultStands R n round_limit ended rounds held' iters col next memory
    unfolding settle T made is_stopped
    ends_stopped b r =
        stands_so stopped (sym p.goes ∙ ap (λ k. settle R n round_limit k T) zero_left ∙ ap (λ b. cond b (record { ending = finished; last = T }) (record { ending = stopped; last = T })) (busy_held b))
      where
        zero_left : round_limit - rounds ≡ 0
        zero_left = omega arith

    -- else a round
    pub goes_on : (held'' iters'' : List ℕ) (col'' : ℕ → X) (next'' : ℕ) (memory'' : ℕ → M) → next'' ≡ next → busy ≡ true → rounds ≢ round_limit
        → Advanced R held' iters col memory held'' iters'' col'' memory'' → Going R n round_limit held'' iters'' col'' next'' (rounds + 1) memory''
    unfolding settle T made round
    goes_on held'' iters'' col'' next'' memory'' same_next b r a =
        subst (λ k. Going R n round_limit held'' iters'' col'' k (rounds + 1) memory'') (sym same_next) (record {
          sized = a.sized;
          in_order = p.in_order;
          in_limit = omega (arith, p.in_limit);
          begun = λ l h z.
              let y = held_at R.words n Begun (rows R.lanes held'' iters'' col'') once_more l _ _ _ (get_d_rows R.lanes held'' iters'' col'' l h ∙ lane_held _ _ _ z) in
              λ e. omega arith;
          log = x.0;
          log_is = x.1;
          safe = subst (λ (t : List (Lane X) × Stock X). Safe R.words n t.0 t.1) x.2 (safe_round R.words n _ _ p.safe);
          goes =
              ap (λ (m : ℕ). go R.words (round_limit - (rounds + 1)) (record { lanes = rows R.lanes held'' iters'' col''; stock = record { queue = drop next R.order; log = x.0 }; rounds = m })) (add-one rounds)
              ∙ ap (λ (t : List (Lane X) × Stock X). go R.words (round_limit - (rounds + 1)) (record { lanes = t.0; stock = t.1; rounds = suc rounds })) (sym x.2)
              ∙ sym (ap (λ b. cond b (record { ending = finished; last = T }) (go R.words (round_limit - (rounds + 1)) (round R.words T))) (busy_held b))
              ∙ ap (λ k. settle R n round_limit k T) (sym one_less) ∙ p.goes;
        })
      where
        x : (log' : List (Left X)) × Kept R log' memory''
            × (each (leave R.words) (map (iterated R.words) (rows R.lanes held' iters col)) (record { queue = drop next R.order; log = p.log })
            ≡ (rows R.lanes held'' iters'' col'', record { queue = drop next R.order; log = log' }))
        x = a.after_round (drop next R.order) p.log p.log_is

        Begun : ℕ → X → ℕ → Type 0
        Begun w x i = 1 ≤ i

        once_more : AllLanes (Held Begun) (rows R.lanes held'' iters'' col'')
        once_more =
            subst (λ (t : List (Lane X) × Stock X). AllLanes (Held Begun) t.0) x.2
            (round_held R.words Begun (λ w x i. omega arith) (rows R.lanes held' iters col) _)

        one_less : round_limit - rounds ≡ suc (round_limit - (rounds + 1))
        one_less = omega (arith, p.in_limit)
