-- A run check after check: each with its values but those of shared variables, which have other edges in the run. It makes the run but for those.
--
-- In order: the checks of a run on the memory (`PartMade`, `ChecksMade`); a layer whose variables have one edge each (`layer_made`); with the values of the
-- shared variables it is the run (`run_law`).
--
-- Not here: the same of one word (iteration, InTurn); those values (Rows).
use Rattle.std.specs.Prelude.{◌≡◌, refl, Bool, true, false, cond, List, ℕ, zero, suc, ◌+◌, ◌*◌, ◌/◌, ◌≤◌, ◌<◌, min, ltb, get_or, ℤ, pos}
use Rattle.std.proofs.Math.Path.{sym, subst}
use Rattle.std.proofs.Common.{ap, ◌∙◌, arith, add-zero, add-suc, add-one, ltb-true, ltb-false, le-ltb}
use Rattle.std.proofs.Math.Decide.{dec_lt}
use Rattle.iteration.specs.Check.{Word, check, wrote, t_of, within}
use Rattle.iteration.specs.Iteration.{Code, degree, Sum, gather_run, settle, run, run_of, in_turn, in_run, run_size, runs, run_count}
use Rattle.iteration.specs.CheckLaws.{within_at}
use Rattle.lane16.specs.Column.{column}
use Rattle.iteration.specs.Once.{shared_in, stepped, Once, Order}
use Rattle.iteration.specs.Lists.{var, rows_in, edges_in, code_in}
use Rattle.simd.specs.Words.{word_of, word}
use Rattle.simd_layered.specs.Checked.{Checked}
use Rattle.iteration.specs.Full.{check_unless, Full, place_of, part_full, checks_full}
use Rattle.iteration.specs.ListsLaws.{start_in, degree_in, order}
use Rattle.fixed_layered.specs.Full.{full_of, full}
use Rattle.fixed.specs.Sequential.{InTurn}
use Rattle.iteration.specs.InTurn.{checks_run, in_turn_run}
use Rattle.fixed_layered.specs.Sent.{within_wrote, sent}
use Rattle.fixed_layered.specs.Gather.{gather_run_at, run_gathers, run_none}
use Rattle.fixed_layered.specs.Rows.{written_at, Written}
use Rattle.fixed_layered.specs.RunMemory.{InRun}
use Rattle.fixed_layered.specs.Layers.{RunMade, RunsMade, same_checks, once_part}

-- ---- on the memory: the run but for the values of shared variables
pub record PartMade (sh : ℕ → Bool) (n p lanes : ℕ) (o : ℤ) (lists : List ℕ) (first q m : ℕ) (a a' : List ℤ) : Type 0 where
  pub fulls : (i : ℕ) → i < lanes → full n (edges_in p lists) lanes a' i ≡ part_full o (code_in p lists) (stepped first q) sh m (full n (edges_in p lists) lanes a i)
  pub rest : (i : ℕ) → i < lanes → (u : ℕ) → n + 3 * edges_in p lists ≤ u → column lanes a' i u ≡ column lanes a i u

-- after x checks
pub record ChecksMade (sh : ℕ → Bool) (n p lanes : ℕ) (o : ℤ) (lists : List ℕ) (first q : ℕ) (a : List ℤ) (x : ℕ) (a' : List ℤ) : Type 0 where
  pub fulls : (i : ℕ) → i < lanes → full n (edges_in p lists) lanes a' i ≡ checks_full sh o (code_in p lists) (stepped first q) x (full n (edges_in p lists) lanes a i)
  pub rest : (i : ℕ) → i < lanes → (u : ℕ) → n + 3 * edges_in p lists ≤ u → column lanes a' i u ≡ column lanes a i u

pub checks_start : (sh : ℕ → Bool) (n p lanes : ℕ) (o : ℤ) (lists : List ℕ) (first q : ℕ) (a : List ℤ) → ChecksMade sh n p lanes o lists first q a 0 a
unfolding checks_full
checks_start sh n p lanes o lists first q a = record { fulls = λ i h. refl; rest = λ i h u k. refl }

module _ {sh : ℕ → Bool} {n p lanes : ℕ} {o : ℤ} {lists : List ℕ} {first q : ℕ} {a : List ℤ} where
  pub checks_again : {x s d pl : ℕ} {a' a'' : List ℤ} → stepped first q x < p → s ≡ get_or lists (stepped first q x) 0 → s + d ≡ get_or lists (stepped first q x + 1) 0
      → pl ≡ place_of (code_in p lists) (stepped first q) x → pl + d ≤ edges_in p lists
      → ChecksMade sh n p lanes o lists first q a x a' → Checked sh (rows_in p lists) s d n lanes pl o a' a'' → ChecksMade sh n p lanes o lists first q a (x + 1) a''
  unfolding checks_full
  checks_again {x} {s} {d} {pl} {a'} {a''} h e f g room v k =
      subst (λ (j : ℕ). ChecksMade sh n p lanes o lists first q a j a'') (sym (add-one x))
      (record {
        fulls =
            λ i b. let w = v.fulls i b in
            λ j. record {
              word = (k.words i b ∙ (λ l. check_unless sh o (var (rows_in p lists)) (S l) (D l) (w l).word)) j;
              t =
                  (within_wrote (edges_in p lists) pl d _ (λ e. column lanes a' i (n + edges_in p lists + e)) (λ e. column lanes a'' i (n + edges_in p lists + e)) room (k.t_rows i b)
                  ∙ (λ l. wrote (λ k. g l + k) (t_of (var (rows_in p lists)) (S l) (w l).word.L (w l).word.r) (w l).t (D l)))
                  j;
              old =
                  (within_wrote (edges_in p lists) pl d _ (λ e. column lanes a' i (n + 2 * edges_in p lists + e)) (λ e. column lanes a'' i (n + 2 * edges_in p lists + e)) room (k.old_rows i b)
                  ∙ (λ l. wrote (λ k. g l + k) (λ k. (w l).word.r (S l + k)) (w l).old (D l)))
                  j;
            };
        rest = λ i b u r. k.rest i b u r ∙ v.rest i b u r;
      })
    where
      S : s ≡ (code_in p lists).row_start (stepped first q x)
      S = e ∙ sym (start_in p lists (stepped first q x) (omega arith))

      D : d ≡ degree (code_in p lists) (stepped first q x)
      D = sym (degree_in p lists (stepped first q x) s d h e f)

  -- the run but for the values of shared variables
  pub checks_end : {x m : ℕ} {a' : List ℤ} {o' : ℤ} → o ≡ o' → x ≡ m → InRun n p first q m lists → ((v : ℕ) → sh v ≡ false → Once (code_in p lists) (stepped first q) m v)
      → ChecksMade sh n p lanes o lists first q a x a'
      → PartMade sh n p lanes o' lists first q m a a'
  checks_end {x} {m} {a'} {o'} e f r once v =
      subst (λ (z : ℤ). PartMade sh n p lanes z lists first q m a a') e
      (record {
        fulls =
            λ i h. v.fulls i h ∙ ap (λ (j : ℕ). checks_full sh o (code_in p lists) (stepped first q) j (full n (edges_in p lists) lanes a i)) f
            ∙ checks_run o (code_in p lists) (stepped first q) m (edges_in p lists) n (order r.lists_right first q m r.step r.inside) sh once (full n (edges_in p lists) lanes a i);
        rest = v.rest;
      })

-- ---- a layer whose variables have one edge each: its checks in turn are its runs
in_turn_join : (o : ℤ) (code : Code) (c : ℕ → ℕ) (a b : ℕ) (w : Word) → in_turn o code c (a + b) w ≡ in_turn o code (λ x. c (a + x)) b (in_turn o code c a w)
unfolding in_turn
in_turn_join o code c a zero w = ap (λ (k : ℕ). in_turn o code c k w) (add-zero a)
in_turn_join o code c a (suc b) w =
    ap (λ (k : ℕ). in_turn o code c k w) (add-suc a b)
    ∙ ap (check o code.rows (code.row_start (c (a + b))) (degree code (c (a + b)))) (in_turn_join o code c a b w)

-- a run of no checks
run_of_none : (o : ℤ) (code : Code) (c : ℕ → ℕ) (E n : ℕ) (w : Word) → run o code c 0 w ≡ w
unfolding in_turn
run_of_none o code c E n w =
    sym (in_turn_run o code c 0 E n (record { next = λ j x h k. absurd (omega (arith, k)); last = λ x h. absurd (omega (arith, h)); below = λ x k h. absurd (omega (arith, h)) })
    (λ v. record { one = λ x k y j h. absurd (omega (arith, h)) }) w)

module _ {n p q l : ℕ} (s : ℕ) (o : ℤ) {lists : List ℕ} (r : InRun n p l q 374 lists) (once : (v : ℕ) → Once (code_in p lists) (stepped l q) 374 v) where
  -- run j, which begins at check j * s of the layer
  run_in_turn : (j : ℕ) (w : Word) → j * s < 374 → run o (code_in p lists) (in_run q s l j) (run_size s j) w ≡ in_turn o (code_in p lists) (λ x. stepped l q (j * s + x)) (run_size s j) w
  run_in_turn j w h =
      let fits : j * s + run_size s j ≤ 374 = omega arith in
      let inside : (x : ℕ) → x < run_size s j → stepped (l + j * s * q) q x < p = λ x k. subst (λ (y : ℕ). y < p) (there (j * s) x) (r.inside (j * s + x) (omega arith)) in
      ap (λ (c : ℕ → ℕ). run o (code_in p lists) c (run_size s j) w) (sym (same_checks q s l j (j * s) refl))
      ∙ sym (in_turn_run o (code_in p lists) (stepped (l + j * s * q) q) (run_size s j) (edges_in p lists) n (order r.lists_right (l + j * s * q) q (run_size s j) r.step inside)
      (λ v. once_part q l (j * s) (run_size s j) fits (once v)) w)
      ∙ ap (λ (c : ℕ → ℕ). in_turn o (code_in p lists) c (run_size s j) w) (λ i x. sym (there (j * s) x) i)
    where
      there : (at x : ℕ) → l + (at + x) * q ≡ l + at * q + x * q
      there at x = omega arith

  layer_runs : (j : ℕ) (w : Word) → runs o (code_in p lists) q s l j w ≡ in_turn o (code_in p lists) (stepped l q) (min (j * s) 374) w
  unfolding runs in_turn
  layer_runs zero w = let z : 0 ≡ min (0 * s) 374 = omega arith in ap (λ (k : ℕ). in_turn o (code_in p lists) (stepped l q) k w) z
  layer_runs (suc j) w = go (dec_lt (j * s) 374) (layer_runs j w)
    where
      before : Word
      before = runs o (code_in p lists) q s l j w

      turned : ℕ → Word
      turned k = in_turn o (code_in p lists) (stepped l q) k w

      go : Dec (j * s < 374) → before ≡ turned (min (j * s) 374) → run o (code_in p lists) (in_run q s l j) (run_size s j) before ≡ turned (min (suc j * s) 374)
      go (yes h) ih =
          let at : min (j * s) 374 ≡ j * s = omega arith in
          let ends : j * s + run_size s j ≡ min (suc j * s) 374 = omega arith in
          run_in_turn j before h
          ∙ ap (in_turn o (code_in p lists) (λ x. stepped l q (j * s + x)) (run_size s j)) (ih ∙ ap turned at)
          ∙ sym (in_turn_join o (code_in p lists) (stepped l q) (j * s) (run_size s j) w)
          ∙ ap turned ends
      go (no h) ih =
          let none : run_size s j ≡ 0 = omega arith in
          let ends : min (j * s) 374 ≡ min (suc j * s) 374 = omega arith in
          ap (λ (m : ℕ). run o (code_in p lists) (in_run q s l j) m before) none
          ∙ run_of_none o (code_in p lists) (in_run q s l j) (edges_in p lists) n before
          ∙ ih
          ∙ ap turned ends

  pub layer_made : {lanes : ℕ} {a a' : List ℤ} → 0 < s → InTurn n p lanes o lists l q a 374 a' → RunsMade n p lanes o lists q s l a (run_count s) a'
  layer_made {lanes} {a} {a'} some v =
      let all : 374 ≡ min (run_count s * s) 374 = omega arith in
      record {
        words =
            λ i h. v.words i h
            ∙ ap (λ (k : ℕ). in_turn o (code_in p lists) (stepped l q) k (word n (edges_in p lists) lanes a i)) all
            ∙ sym (layer_runs (run_count s) (word n (edges_in p lists) lanes a i));
        rest = λ i h u k. v.rest i h u (omega (arith, k));
      }

-- ---- with the values of shared variables it is the run
made : {n E : ℕ} {code : Code} {c : ℕ → ℕ} {m : ℕ} (flags : List Bool) (o : ℤ) (f f' : ℕ → ℤ) (w : Full) → Order code c m E n → n ≤ 44880 → ((g : ℕ) → get_or flags g false ≡ true → 374 * g + 374 ≤ n)
    → full_of n E f ≡ part_full o code c (shared_in flags) m w → ((u : ℕ) → n ≤ u → w.word.L u ≡ pos 0)
    → ((u : ℕ) → u < 374 * 120 → shared_in flags u ≡ true → f' u ≡ written_at n E code c m f u) → ((u : ℕ) → (u < 374 * 120 → shared_in flags u ≡ false) → f' u ≡ f u)
    → word_of n E f' ≡ run o code c m w.word
unfolding word_of run within
made {n} {E} {code} {c} {m} flags o f f' w ord few low is zeros done still =
    (λ i. record { L = λ u. values u (ltb u n) refl i; r = λ e. cond (ltb e E) (behind (n + e) (omega arith) i) (pos 0) })
    ∙ (λ i. record { L = λ u. settle (gather_run (run_of o code c m w.word) code c u m) (w.word.L u); r = (is i).word.r })
  where
    behind : (u : ℕ) → n ≤ u → f' u ≡ f u
    behind u q = still u (λ r. go (shared_in flags u) refl)
      where
        go : (b : Bool) → shared_in flags u ≡ b → b ≡ false
        go false e = refl
        go true e = absurd (omega (arith, low (u / 374) e))

    gathers : (u : ℕ) → gather_run_at n E code c u f m ≡ gather_run (run_of o code c m w.word) code c u m
    gathers u = run_gathers (sent (shared_in flags) o f w ord is) refl u m (omega arith)

    before_is : (u : ℕ) → u < n → f u ≡ cond (shared_in flags u) (w.word.L u) (settle (gather_run (run_of o code c m w.word) code c u m) (w.word.L u))
    before_is u q = sym (within_at n f u q) ∙ ap (λ (x : Full). x.word.L u) is

    value : (u : ℕ) → u < n → (b : Bool) → shared_in flags u ≡ b → f' u ≡ settle (gather_run (run_of o code c m w.word) code c u m) (w.word.L u)
    value u q true e =
        done u (omega arith) e
        ∙ (λ i. settle (gathers u i) ((before_is u q ∙ ap (λ (b : Bool). cond b (w.word.L u) (settle (gather_run (run_of o code c m w.word) code c u m) (w.word.L u))) e) i))
    value u q false e =
        still u (λ r. e)
        ∙ before_is u q
        ∙ ap (λ (b : Bool). cond b (w.word.L u) (settle (gather_run (run_of o code c m w.word) code c u m) (w.word.L u))) e

    values : (u : ℕ) (b : Bool) → ltb u n ≡ b → cond b (f' u) (pos 0) ≡ settle (gather_run (run_of o code c m w.word) code c u m) (w.word.L u)
    values u true e = value u (ltb-true u n e) (shared_in flags u) refl
    values u false e =
        sym (ap (λ (a : Sum). settle a (w.word.L u)) (sym (gathers u) ∙ run_none n E code c f u m (λ y k q l x. omega (arith, ord.below y k q l, ltb-false u n e))) ∙ zeros u (ltb-false u n e))

behind_zero : (n E : ℕ) (f : ℕ → ℤ) (u : ℕ) → n ≤ u → (word_of n E f).L u ≡ pos 0
unfolding word_of within
behind_zero n E f u h = ap (λ (b : Bool). cond b (f u) (pos 0)) (le-ltb u n h)

pub run_law : {n p lanes : ℕ} {o : ℤ} {lists : List ℕ} {first q m : ℕ} {flags : List Bool} {a b a' : List ℤ} → InRun n p first q m lists
    → ((g : ℕ) → get_or flags g false ≡ true → 374 * g + 374 ≤ n)
    → PartMade (shared_in flags) n p lanes o lists first q m a b → Written n (edges_in p lists) (code_in p lists) (stepped first q) m lanes flags b 120 a' → RunMade n p lanes o lists first q m a a'
run_law {n} {p} {lanes} {o} {lists} {first} {q} {m} {flags} {a} {b} {a'} r low s k =
    record {
      words =
          λ i h. made flags o (column lanes b i) (column lanes a' i) (full n (edges_in p lists) lanes a i) (order r.lists_right first q m r.step r.inside) r.few_bits low (s.fulls i h)
          (behind_zero n (edges_in p lists) (column lanes a i)) (λ u l e. k.done i u h l e) (λ u l. k.still i u h l);
      rest = λ i h u l. k.still i u h (λ y. go u l (shared_in flags u) refl) ∙ s.rest i h u l;
    }
  where
    go : (u : ℕ) → n + 3 * edges_in p lists ≤ u → (b : Bool) → shared_in flags u ≡ b → b ≡ false
    go u l false e = refl
    go u l true e = absurd (omega (arith, low (u / 374) e))
