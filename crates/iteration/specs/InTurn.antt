-- A run check after check: each with its values but those of shared variables, which have other edges in the run. It makes the run but for those;
-- where no variable has several edges, the run is its checks in turn.
--
-- In order: checks in turn that leave the values of shared variables; what the run gathers, and that those checks make it (`checks_run`);
-- `in_turn_run`.
--
-- Not here: the same on memory (fixed_layered, Checks).
use Rattle.std.specs.Prelude.{◌≡◌, refl, Bool, true, false, cond, eqb, ℕ, zero, suc, ◌+◌, ◌-◌, ◌≤◌, ◌<◌, ℤ, pos, ◌+ℤ◌, ◌-ℤ◌}
use Rattle.std.proofs.Common.{sym, ap, ◌∙◌, arith, eqb-true, ne_eqb}
use Rattle.laws.specs.Choice.{eqb_sym}
use Rattle.laws.specs.Definitions.{put}
use Rattle.iteration.specs.Value.{sat_z}
use Rattle.iteration.specs.Check.{Word, check, message, wrote, t_of, new_l, new_r}
use Rattle.iteration.specs.Iteration.{Code, degree, Run, Sum, nothing, gather, gather_edge, gather_check, gather_run, settle, run, run_of, run_r, in_turn}
use Rattle.iteration.specs.CheckLaws.{message_same, wrote_same, wrote_other, wrote_at}
use Rattle.iteration.specs.Once.{Once, Order}
use Rattle.iteration.specs.Full.{Full, place_of, laid_out, t_sent, old_sent, part_full, wrote_unless, check_unless, part_check, checks_full}

module _ {code : Code} {c : ℕ → ℕ} {m E n : ℕ} (o : Order code c m E n) where
  -- the messages of the run's first i checks leave the others
  sent_other : (ofs : ℤ) (L r : ℕ → ℤ) (i e : ℕ) → i ≤ m → ((j : ℕ) → j < i → code.row_start (c j) + degree code (c j) ≤ e) → run_r ofs code c L r i e ≡ r e
  unfolding run_r new_r
  sent_other ofs L r zero e h b = refl
  sent_other ofs L r (suc i) e h b =
      wrote_other (λ k. code.row_start (c i) + k) _ (run_r ofs code c L r i) (degree code (c i)) e (λ k q y. omega (arith, b i (omega arith)))
      ∙ sent_other ofs L r i e (omega arith) (λ j q. b j (omega arith))

  pub before : (ofs : ℤ) (L r : ℕ → ℤ) (x k : ℕ) → x < m → run_r ofs code c L r x (code.row_start (c x) + k) ≡ r (code.row_start (c x) + k)
  before ofs L r x k h = sent_other ofs L r x (code.row_start (c x) + k) (omega arith) (λ j q. omega (arith, o.next j x q h))

-- ---- what the definition gathers: nothing from checks that have no edge of u
check_none : (w : Run) (u s d : ℕ) (a : Sum) → ((k : ℕ) → k < d → w.v (s + k) ≡ u → ⊥) → gather_check w u s d a ≡ a
unfolding gather_check gather_edge
check_none w u s zero a h = refl
check_none w u s (suc d) a h =
    ap (λ (b : Bool). cond b (gather (sat_z (w.L u -ℤ w.old (s + d))) (w.new (s + d)) (w.old (s + d)) (gather_check w u s d a)) (gather_check w u s d a)) (ne_eqb (w.v (s + d)) u (h d (omega arith)))
    ∙ check_none w u s d a (λ k q. h k (omega arith))

module _ (o : ℤ) (code : Code) (c : ℕ → ℕ) (m E n : ℕ) (ord : Order code c m E n) (sh : ℕ → Bool) (once : (v : ℕ) → sh v ≡ false → Once code c m v) (f : Full) where
  abbrev w : Word
  w = f.word

  abbrev W : Run
  W = run_of o code c m w

  abbrev start : ℕ → ℕ
  start x = code.row_start (c x)

  none_run : (u x : ℕ) → ((y k : ℕ) → y < x → k < degree code (c y) → code.rows (start y + k) ≡ u → ⊥) → gather_run W code c u x ≡ nothing
  unfolding gather_run
  none_run u zero h = refl
  none_run u (suc x) h = check_none W u (start x) (degree code (c x)) (gather_run W code c u x) (λ k q. h x k (omega arith) q) ∙ none_run u x (λ y k q. h y k (omega arith))

  -- a check's messages stay to the run's end
  after : (x j e : ℕ) → suc x + j ≤ m → e < start x + degree code (c x) → run_r o code c w.L w.r (suc x + j) e ≡ run_r o code c w.L w.r (suc x) e
  unfolding run_r new_r
  after x zero e h q = let z : suc x + 0 ≡ suc x = omega arith in ap (λ (i : ℕ). run_r o code c w.L w.r i e) z
  after x (suc j) e h q =
      let z : suc x + suc j ≡ suc (suc x + j) = omega arith in
      ap (λ (i : ℕ). run_r o code c w.L w.r i e) z
      ∙ wrote_other (λ k. start (suc x + j) + k) _ (run_r o code c w.L w.r (suc x + j)) (degree code (c (suc x + j))) e (λ k l y. omega (arith, ord.next x (suc x + j) (omega arith) (omega arith)))
      ∙ after x j e (omega arith) q

  new_at : (x k : ℕ) → x < m → k < degree code (c x) → W.new (start x + k) ≡ message o (t_sent o code c w x) (degree code (c x)) k
  unfolding run_r new_r
  new_at x k h q =
      let z : suc x + (m - suc x) ≡ m = omega arith in
      ap (λ (i : ℕ). run_r o code c w.L w.r i (start x + k)) (sym z)
      ∙ after x (m - suc x) (start x + k) (omega arith) (omega arith)
      ∙ wrote_at (start x) (message o (t_sent o code c w x) (degree code (c x))) (run_r o code c w.L w.r x) (degree code (c x)) k q

  record Going (x : ℕ) (g : Full) : Type 0 where
    l_is : (u : ℕ) → g.word.L u ≡ cond (sh u) (w.L u) (settle (gather_run W code c u x) (w.L u))
    r_is : g.word.r ≡ run_r o code c w.L w.r x
    t_is : g.t ≡ laid_out code c (t_sent o code c w) f.t x
    old_is : g.old ≡ laid_out code c (old_sent o code c w) f.old x

  module _ (x : ℕ) (h : x < m) (g : Full) (v : Going x g) where
    -- the check's variables that are not shared are those of no check before it
    none_before : (k : ℕ) → k < degree code (c x) → sh (code.rows (start x + k)) ≡ false → gather_run W code c (code.rows (start x + k)) x ≡ nothing
    none_before k q s = none_run (code.rows (start x + k)) x (λ y l b r e. omega (arith, ((once (code.rows (start x + k)) s).one x k y l h (omega arith) q r refl e).0))

    read : (k : ℕ) → k < degree code (c x) → g.word.L (code.rows (start x + k)) ≡ w.L (code.rows (start x + k))
    read k q = v.l_is (code.rows (start x + k)) ∙ go (sh (code.rows (start x + k))) refl
      where
        go : (b : Bool) → sh (code.rows (start x + k)) ≡ b
            → cond b (w.L (code.rows (start x + k))) (settle (gather_run W code c (code.rows (start x + k)) x) (w.L (code.rows (start x + k)))) ≡ w.L (code.rows (start x + k))
        go true s = refl
        go false s = ap (λ (a : Sum). settle a (w.L (code.rows (start x + k)))) (none_before k q s)

    t_same : (k : ℕ) → k < degree code (c x) → t_of code.rows (start x) g.word.L g.word.r k ≡ t_sent o code c w x k
    unfolding t_of
    t_same k q = λ i. sat_z (read k q i -ℤ v.r_is i (start x + k))

    value : (k : ℕ) → ℤ
    value k = sat_z (t_of code.rows (start x) g.word.L g.word.r k +ℤ message o (t_of code.rows (start x) g.word.L g.word.r) (degree code (c x)) k)

    value_is : (k : ℕ) → k < degree code (c x) → value k ≡ sat_z (sat_z (w.L (code.rows (start x + k)) -ℤ w.r (start x + k)) +ℤ W.new (start x + k))
    unfolding value t_of
    value_is k q =
        λ i. sat_z
        ((t_same k q ∙ ap (λ (z : ℤ). sat_z (w.L (code.rows (start x + k)) -ℤ z)) (before ord o w.L w.r x k h)) i
        +ℤ (message_same (t_of code.rows (start x) g.word.L g.word.r) (t_sent o code c w x) o (degree code (c x)) k t_same ∙ sym (new_at x k h q)) i)

    abbrev was : ℕ → ℕ → ℤ
    was j = wrote_unless sh (λ k. code.rows (start x + k)) value g.word.L j

    abbrev sum : ℕ → ℕ → Sum
    sum u j = gather_check W u (start x) j (gather_run W code c u x)

    written : (u j : ℕ) → j ≤ degree code (c x) → was j u ≡ cond (sh u) (w.L u) (settle (sum u j) (w.L u))
    unfolding wrote_unless put gather_check gather_edge
    written u zero q = v.l_is u
    written u (suc j) q = go (eqb (code.rows (start x + j)) u) refl (sh (code.rows (start x + j))) refl (written u j (omega arith))
      where
        one : Sum
        one = gather (sat_z (w.L u -ℤ w.r (start x + j))) (W.new (start x + j)) (w.r (start x + j)) (sum u j)

        go : (b : Bool) → eqb (code.rows (start x + j)) u ≡ b → (s : Bool) → sh (code.rows (start x + j)) ≡ s → was j u ≡ cond (sh u) (w.L u) (settle (sum u j) (w.L u))
            → cond s (was j) (λ y. cond (eqb y (code.rows (start x + j))) (value j) (was j y)) u ≡ cond (sh u) (w.L u) (settle (cond b one (sum u j)) (w.L u))
        go false e true s ih = ih
        go false e false s ih = ap (λ (b : Bool). cond b (value j) (was j u)) (eqb_sym u (code.rows (start x + j)) ∙ e) ∙ ih
        go true e true s ih =
            let y : sh u ≡ true = ap sh (sym (eqb-true (code.rows (start x + j)) u e)) ∙ s in
            ih ∙ ap (λ (b : Bool). cond b (w.L u) (settle (sum u j) (w.L u))) y ∙ sym (ap (λ (b : Bool). cond b (w.L u) (settle one (w.L u))) y)
        go true e false s ih =
            let y : code.rows (start x + j) ≡ u = eqb-true (code.rows (start x + j)) u e in
            let t : sh u ≡ false = ap sh (sym y) ∙ s in
            ap (λ (b : Bool). cond b (value j) (was j u)) (eqb_sym u (code.rows (start x + j)) ∙ e)
            ∙ value_is j (omega arith)
            ∙ ap (λ (z : ℕ). sat_z (sat_z (w.L z -ℤ w.r (start x + j)) +ℤ W.new (start x + j))) y
            ∙ ap (λ (a : Sum). sat_z (gather (sat_z (w.L u -ℤ w.r (start x + j))) (W.new (start x + j)) (w.r (start x + j)) a).total)
            (sym (check_none W u (start x) j (gather_run W code c u x) (λ k l r. omega (arith, ((once u t).one x j x k h h (omega arith) (omega arith) y r).1)) ∙ ap (λ (z : ℕ). gather_run W code c z x) (sym y) ∙ none_before j (omega arith) s))
            ∙ sym (ap (λ (b : Bool). cond b (w.L u) (settle one (w.L u))) t)

    going_again : Going (suc x) (part_check sh o code c x g)
    unfolding gather_run run_r new_r laid_out value
    going_again =
        record {
          l_is = λ u. written u (degree code (c x)) (omega arith);
          r_is =
              wrote_same (λ k. start x + k) _ _ g.word.r (degree code (c x)) (λ k q. message_same (t_of code.rows (start x) g.word.L g.word.r) (t_sent o code c w x) o (degree code (c x)) k t_same)
              ∙ ap (λ (r : ℕ → ℤ). wrote (λ k. start x + k) (message o (t_sent o code c w x) (degree code (c x))) r (degree code (c x))) v.r_is;
          t_is =
              wrote_same (λ k. place_of code c x + k) _ _ g.t (degree code (c x)) t_same
              ∙ ap (λ (t : ℕ → ℤ). wrote (λ k. place_of code c x + k) (t_sent o code c w x) t (degree code (c x))) v.t_is;
          old_is = λ i. wrote (λ k. place_of code c x + k) (λ k. v.r_is i (start x + k)) (v.old_is i) (degree code (c x));
        }

  start_is : (b : Bool) (y : ℤ) → y ≡ cond b y y
  start_is true y = refl
  start_is false y = refl

  going : (x : ℕ) → x ≤ m → Going x (checks_full sh o code c x f)
  unfolding checks_full gather_run run_r laid_out
  going zero h = record { l_is = λ u. start_is (sh u) (w.L u); r_is = refl; t_is = refl; old_is = refl }
  going (suc x) h = going_again x (omega arith) (checks_full sh o code c x f) (going x (omega arith))

  pub checks_run : checks_full sh o code c m f ≡ part_full o code c sh m f
  checks_run =
      let v = going m (omega arith) in
      λ i. record { word = record { L = λ u. v.l_is u i; r = v.r_is i }; t = v.t_is i; old = v.old_is i }

-- ---- where no variable has several edges, the run is its checks in turn
none_unless : (u : ℕ → ℕ) (x f : ℕ → ℤ) (n : ℕ) → wrote_unless (λ v. false) u x f n ≡ wrote u x f n
unfolding wrote_unless wrote
none_unless u x f zero = refl
none_unless u x f (suc n) = ap (λ (g : ℕ → ℤ). put g (u n) (x n)) (none_unless u x f n)

check_unless_lem : (o : ℤ) (v : ℕ → ℕ) (s d : ℕ) (w : Word) → check_unless (λ u. false) o v s d w ≡ check o v s d w
unfolding new_l
check_unless_lem o v s d w = λ i. record { L = none_unless (λ k. v (s + k)) (λ k. sat_z (t_of v s w.L w.r k +ℤ message o (t_of v s w.L w.r) d k)) w.L d i; r = new_r o v s d w.L w.r }

checks_word : (o : ℤ) (code : Code) (c : ℕ → ℕ) (x : ℕ) (f : Full) → (checks_full (λ v. false) o code c x f).word ≡ in_turn o code c x f.word
unfolding checks_full in_turn
checks_word o code c zero f = refl
checks_word o code c (suc x) f =
    check_unless_lem o code.rows (code.row_start (c x)) (degree code (c x)) (checks_full (λ v. false) o code c x f).word
    ∙ ap (check o code.rows (code.row_start (c x)) (degree code (c x))) (checks_word o code c x f)

pub in_turn_run : (o : ℤ) (code : Code) (c : ℕ → ℕ) (m E n : ℕ) → Order code c m E n → ((v : ℕ) → Once code c m v) → (w : Word) → in_turn o code c m w ≡ run o code c m w
unfolding run
in_turn_run o code c m E n ord once w =
    let f : Full = record { word = w; t = λ e. pos 0; old = λ e. pos 0 } in
    sym (checks_word o code c m f) ∙ ap (λ (g : Full). g.word) (checks_run o code c m E n ord (λ v. false) (λ v e. once v) f)
