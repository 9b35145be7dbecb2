-- How arrays and columns of memory stand for the run's lanes, queue and log, and how code that goes from lane to lane meets `each`. In order: the
-- parts of such a run (`Setup`); lanes as rows of arrays; the turns from lane l on (`from`); how many lanes are held, and whether any is; memory
-- that keeps the log (`Kept`); all of them together (`Stands`).
use Rattle.std.specs.Prelude.{◌≡◌, ◌≢◌, Bool, cond, not, ◌||◌, length, get_or, set}
use Rattle.std.proofs.Math.Path.{refl, ap, ap₂}
use Rattle.std.proofs.Common.{sym, ◌∙◌, not-suc-le-zero, le_of_suc-le-suc, add-one, below_more, eqb-true, ne_eqb, length-set, get_or-set_same, get_or-set_other, ext_get_or, List, [], ◌∷◌, ℕ, zero, suc, ◌+◌, ◌-◌, ◌≤◌, ◌<◌, arith}
use Rattle.std.proofs.Math.Bool.{true, false, or-true, or-false}
use Rattle.std.proofs.Math.Nat.{zero-add}
use Rattle.std.proofs.Math.Decide.{ℕ_discrete}
use Rattle.std.proofs.lemmas.Bool.{eqb-false}
use Rattle.std.proofs.Math.Dec.{eqb}
use Rattle.std.proofs.lemmas.List.{set-get_or}
use Rattle.laws.specs.Choice.{or_left, or_right}
use Rattle.laws.specs.Stores.{set_at}
use Rattle.schedule.specs.Run.{Lane, empty, holds, Left, Stock, Turn, each, held, logged}
use Rattle.schedule.specs.Status.{done, log_words, seek}
use Rattle.schedule.specs.Lanes.{Setup, lane_of, table, row, rows, from, any_of, any_held, kept, Kept}

module _ {X : Type 0} where
  pub length_table : (f : ℕ → Lane X) (a k : ℕ) → length (table f a k) ≡ k
  unfolding table
  length_table f a zero = refl
  length_table f a (suc k) = ap suc (length_table f (suc a) k)

  pub get_d_table : (f : ℕ → Lane X) (a k l : ℕ) → l < k → get_or (table f a k) l empty ≡ f (a + l)
  unfolding table
  get_d_table f a zero l h = absurd (not-suc-le-zero h)
  get_d_table f a (suc k) zero h = let e : a ≡ a + 0 = omega arith in ap f e
  get_d_table f a (suc k) (suc l) h = let e : suc a + l ≡ a + suc l = omega arith in get_d_table f (suc a) k l (le_of_suc-le-suc h) ∙ ap f e

  pub table_ext : (f g : ℕ → Lane X) (a k : ℕ) → ((l : ℕ) → a ≤ l → l < a + k → f l ≡ g l) → table f a k ≡ table g a k
  unfolding table
  table_ext f g a zero h = refl
  table_ext f g a (suc k) h = ap₂ ◌∷◌ (h a (omega arith) (omega arith)) (table_ext f g (suc a) k (λ l p q. h l (omega arith) (omega arith)))

  -- lane l becomes y, and the others are as they were
  pub table_set : (f f' : ℕ → Lane X) (n l : ℕ) (y : Lane X) → l < n → f' l ≡ y → ((k : ℕ) → k < n → k ≢ l → f' k ≡ f k) → table f' 0 n ≡ set (table f 0 n) l y
  table_set f f' n l y h new others =
      ext_get_or empty _ _ (length_table f' 0 n ∙ sym (length-set (table f 0 n) l y ∙ length_table f 0 n)) (λ k e. at k (omega (arith, e, length_table f' 0 n)) (ℕ_discrete k l))
    where
      at : (k : ℕ) → k < n → Dec (k ≡ l) → get_or (table f' 0 n) k empty ≡ get_or (set (table f 0 n) l y) k empty
      at k e (yes d) =
          get_d_table f' 0 n k e ∙ ap f' (zero-add k ∙ d) ∙ new
          ∙ sym (set_at empty (table f 0 n) l y k (omega (arith, length_table f 0 n)) d)
      at k e (no m) =
          get_d_table f' 0 n k e ∙ ap f' (zero-add k) ∙ others k e m
          ∙ sym (get_or-set_other (table f 0 n) l k y empty m ∙ get_d_table f 0 n k e ∙ ap f (zero-add k))

  module _ (lanes : ℕ) where
    pub length_rows : (held iters : List ℕ) (col : ℕ → X) → length (rows lanes held iters col) ≡ lanes
    unfolding rows
    length_rows held iters col = length_table _ 0 lanes

    pub get_d_rows : (held iters : List ℕ) (col : ℕ → X) (l : ℕ) → l < lanes → get_or (rows lanes held iters col) l empty ≡ row held iters col l
    unfolding rows
    get_d_rows held iters col l h = get_d_table (row held iters col) 0 lanes l h ∙ ap (row held iters col) (zero-add l)

    -- the same lanes, from the same rows
    pub rows_ext : (held iters held' iters' : List ℕ) (col col' : ℕ → X) → ((l : ℕ) → l < lanes → row held iters col l ≡ row held' iters' col' l)
        → rows lanes held iters col ≡ rows lanes held' iters' col'
    unfolding rows
    rows_ext held iters held' iters' col col' h = table_ext _ _ 0 lanes (λ l p q. h l (omega (arith, zero-add lanes)))

    -- lane l becomes h, i and col' l; the columns of the other lanes are as they were
    pub set_rows : (held iters : List ℕ) (col col' : ℕ → X) (l h i : ℕ) → l < lanes → lanes ≤ length held → lanes ≤ length iters → ((k : ℕ) → k < lanes → k ≢ l → col' k ≡ col k)
        → rows lanes (set held l h) (set iters l i) col' ≡ set (rows lanes held iters col) l (lane_of h (col' l) i)
    unfolding rows
    set_rows held iters col col' l h i g a b others =
        table_set (row held iters col) (row (set held l h) (set iters l i) col') lanes l (lane_of h (col' l) i) g
        (ap₂ (λ h i. lane_of h (col' l) i) (get_or-set_same held l h 0 (omega arith)) (get_or-set_same iters l i 0 (omega arith)))
        (λ k e n. ap₂ (λ h i. lane_of h (col' k) i) (get_or-set_other held l k h 0 n) (get_or-set_other iters l k i 0 n)
        ∙ ap (λ x. lane_of (get_or held k 0) x (get_or iters k 0)) (others k e n))

  pub lane_held : (h : ℕ) (x : X) (i : ℕ) → h ≢ 0 → lane_of h x i ≡ holds (h - 1) x i
  unfolding lane_of
  lane_held zero x i n = absurd (n refl)
  lane_held (suc w) x i n = let e : w ≡ suc w - 1 = omega arith in ap (λ w. holds w x i) e

  pub from_start : (turn : Lane X → Stock X → Turn X) (ls : List (Lane X)) (s : Stock X) → from turn 0 ls s ≡ each turn ls s
  unfolding from
  from_start turn ls s = refl

  pub from_end : (turn : Lane X → Stock X → Turn X) (l : ℕ) (ls : List (Lane X)) (s : Stock X) → length ls ≡ l → from turn l ls s ≡ (ls, s)
  unfolding from each
  from_end turn zero [] s h = refl
  from_end turn (suc l) [] s h = absurd (omega arith)
  from_end turn zero (x ∷ ls) s h = absurd (omega arith)
  from_end turn (suc l) (x ∷ ls) s h = ap (λ (p : List (Lane X) × Stock X). (x ∷ p.0, p.1)) (from_end turn l ls s (omega arith))

  pub from_step : (turn : Lane X → Stock X → Turn X) (l : ℕ) (ls : List (Lane X)) (s : Stock X) → l < length ls
      → from turn l ls s ≡ from turn (suc l) (set ls l (turn (get_or ls l empty) s).0) (turn (get_or ls l empty) s).1
  unfolding from each
  from_step turn l [] s h = absurd (not-suc-le-zero h)
  from_step turn zero (x ∷ ls) s h = refl
  from_step turn (suc l) (x ∷ ls) s h = ap (λ (p : List (Lane X) × Stock X). (x ∷ p.0, p.1)) (from_step turn l ls s (le_of_suc-le-suc h))

  -- a turn that changes nothing at lane l
  pub from_same : (turn : Lane X → Stock X → Turn X) (l : ℕ) (ls : List (Lane X)) (s : Stock X) → l < length ls → turn (get_or ls l empty) s ≡ (get_or ls l empty, s)
      → from turn l ls s ≡ from turn (suc l) ls s
  from_same turn l ls s h e =
      from_step turn l ls s h ∙ ap (λ (p : Turn X). from turn (suc l) (set ls l p.0) p.1) e ∙ ap (λ ls. from turn (suc l) ls s) (set-get_or ls l empty)

  -- ---- how many lanes are held, lane by lane
  held_cons : (x : Lane X) (ls : List (Lane X)) → held (x ∷ ls) ≡ held (x ∷ []) + held ls
  unfolding held
  held_cons empty ls = omega arith
  held_cons (holds w y i) ls = omega arith

  held_append : (f : ℕ → Lane X) (a l : ℕ) → held (table f a (suc l)) ≡ held (table f a l) + held (f (a + l) ∷ [])
  unfolding table held
  held_append f a zero = let e : a ≡ a + 0 = omega arith in ap (λ n. held (f n ∷ [])) e ∙ omega arith
  held_append f a (suc l) =
      let e : suc a + l ≡ a + suc l = omega arith in
      omega (arith, held_cons (f a) (table f (suc a) (suc l)), held_cons (f a) (table f (suc a) l), held_append f (suc a) l, ap (λ n. held (f n ∷ [])) e)

  held_next : (held' iters : List ℕ) (col : ℕ → X) (l : ℕ) → held (rows (suc l) held' iters col) ≡ held (rows l held' iters col) + held (row held' iters col l ∷ [])
  unfolding rows
  held_next held' iters col l = held_append (row held' iters col) 0 l ∙ ap (λ n. held (table (row held' iters col) 0 l) + held (row held' iters col n ∷ [])) (zero-add l)

  one_held : (h : ℕ) (x : X) (i : ℕ) → h ≢ 0 → held (lane_of h x i ∷ []) ≡ 1
  unfolding lane_of held
  one_held zero x i n = absurd (n refl)
  one_held (suc w) x i n = refl

  none_held : (h : ℕ) (x : X) (i : ℕ) → h ≡ 0 → held (lane_of h x i ∷ []) ≡ 0
  unfolding lane_of held
  none_held h x i e = ap (λ h. held (lane_of h x i ∷ [])) e

pub any_start : (f : ℕ → Bool) → false ≡ any_of f 0
unfolding any_of
any_start f = refl

pub any_again : (f : ℕ → Bool) (k : ℕ) (a d r : Bool) → a ≡ any_of f k → d ≡ f k → r ≡ (a || d) → r ≡ any_of f (k + 1)
unfolding any_of
any_again f k a d r e g h = h ∙ (λ i. e i || g i) ∙ ap (any_of f) (sym (add-one k))

pub any_not : (f : ℕ → Bool) (m k : ℕ) → any_of f m ≡ false → k < m → f k ≡ false
unfolding any_of
any_not f zero k e q = absurd (omega (arith, q))
any_not f (suc m) k e q =
    below_more (λ j. f j ≡ false) m (λ j r. any_not f m j (or_left (any_of f m) (f m) e) r) (or_right (any_of f m) (f m) e) k (omega (arith, q))

pub any_is : {X : Type 0} (lanes : ℕ) (held' iters : List ℕ) (col : ℕ → X) → any_held held' lanes ≡ not (eqb (held (rows lanes held' iters col)) 0)
unfolding any_of
any_is zero held' iters col = unfold rows table held in refl
any_is (suc l) held' iters col = at (eqb (get_or held' l 0) 0) refl (any_is l held' iters col)
  where
    at : (b : Bool) → eqb (get_or held' l 0) 0 ≡ b → any_held held' l ≡ not (eqb (held (rows l held' iters col)) 0)
        → (any_held held' l || not b) ≡ not (eqb (held (rows (suc l) held' iters col)) 0)
    at true e r =
        let same : held (rows l held' iters col) ≡ held (rows (suc l) held' iters col) = omega (arith, held_next held' iters col l, none_held (get_or held' l 0) (col l) (get_or iters l 0) (eqb-true _ 0 e)) in
        or-false (any_held held' l) ∙ r ∙ ap (λ n. not (eqb n 0)) same
    at false e r =
        or-true (any_held held' l)
        ∙ sym (ap not (ne_eqb (held (rows (suc l) held' iters col)) 0 (λ z. omega (arith, held_next held' iters col l, one_held (get_or held' l 0) (col l) (get_or iters l 0) (eqb-false _ 0 e)))))

-- ---- memory that keeps the log
module _ {X M : Type 0} (R : Setup X M) where
  pub kept_start : (memory : ℕ → M) → ((v : ℕ) → memory v ≡ R.before v) → Kept R [] memory
  unfolding kept seek log_words
  kept_start memory h = h

  -- word w leaves: its part of memory is written, and no other
  pub kept_more : (log : List (Left X)) (memory memory' : ℕ → M) (w : ℕ) (x : X) (i : ℕ) → Kept R log memory
      → memory' w ≡ R.after w x i → ((v : ℕ) → v ≢ w → memory' v ≡ memory v) → Kept R (logged R.words w x i log) memory'
  unfolding kept seek log_words logged
  kept_more log memory memory' w x i k new others v = at (eqb v w) refl
    where
      at : (b : Bool) → eqb v w ≡ b → memory' v ≡ kept R v (cond b (done x i) (seek v (log_words log)))
      at true e = ap memory' (eqb-true v w e) ∙ new ∙ ap (λ v. R.after v x i) (sym (eqb-true v w e))
      at false e = others v (eqb-false v w e) ∙ k v
