-- What a variable gathers from the edges of a run, read off a column's rows of t, of messages and of old messages.
use Rattle.std.proofs.Common.{◌≡◌, Bool, ℤ, ◌+ℤ◌, ◌-ℤ◌, sym, ◌∙◌, ℕ, zero, suc, ◌+◌, ◌*◌, ◌-◌, ◌≤◌, ◌<◌, arith, eqb-true, ne_eqb}
use Rattle.std.proofs.Math.Path.{refl, ap}
use Rattle.std.proofs.Math.Bool.{true, false, cond}
use Rattle.std.proofs.Math.Dec.{eqb}
use Rattle.iteration.specs.Value.{sat_z}
use Rattle.iteration.specs.Iteration.{Code, degree, Run, Sum, nothing, gather, gather_edge, gather_check, gather_run}
use Rattle.iteration.specs.Full.{place_of}
use Rattle.fixed_layered.specs.Sent.{Sent}

-- variable u from d edges that begin at edge s, their t and old messages at pl
unfoldable pub gather_at : ℕ → ℕ → (ℕ → ℕ) → ℕ → ℕ → ℕ → (ℕ → ℤ) → ℕ → Sum → Sum
gather_at n E v u s pl f zero a = a
gather_at n E v u s pl f (suc d) a =
    cond (eqb (v (s + d)) u) (gather (f (n + E + (pl + d))) (f (n + (s + d))) (f (n + 2 * E + (pl + d))) (gather_at n E v u s pl f d a)) (gather_at n E v u s pl f d a)

-- and from the first m checks of the run
unfoldable pub gather_run_at : ℕ → ℕ → Code → (ℕ → ℕ) → ℕ → (ℕ → ℤ) → ℕ → Sum
gather_run_at n E code c u f zero = nothing
gather_run_at n E code c u f (suc m) = gather_at n E code.rows u (code.row_start (c m)) (place_of code c m) f (degree code (c m)) (gather_run_at n E code c u f m)

-- ---- it is what the definition gathers
module _ {n E : ℕ} {code : Code} {c : ℕ → ℕ} {m : ℕ} {w : Run} {f : ℕ → ℤ} (r : Sent n E code c m w f) (vs : w.v ≡ code.rows) where
  check_gathers : (u x d : ℕ) (a : Sum) → x < m → d ≤ degree code (c x) → gather_at n E code.rows u (code.row_start (c x)) (place_of code c x) f d a ≡ gather_check w u (code.row_start (c x)) d a
  unfolding gather_at gather_check gather_edge
  check_gathers u x zero a h q = refl
  check_gathers u x (suc d) a h q =
      go (eqb (code.rows (code.row_start (c x) + d)) u) refl (check_gathers u x d a h (omega arith))
      ∙ ap (λ (v : ℕ → ℕ). cond (eqb (v (code.row_start (c x) + d)) u) (gather (sat_z (w.L u -ℤ w.old (code.row_start (c x) + d))) (w.new (code.row_start (c x) + d)) (w.old (code.row_start (c x) + d)) (gather_check w u (code.row_start (c x)) d a)) (gather_check w u (code.row_start (c x)) d a)) (sym vs)
    where
      go : (b : Bool) → eqb (code.rows (code.row_start (c x) + d)) u ≡ b → gather_at n E code.rows u (code.row_start (c x)) (place_of code c x) f d a ≡ gather_check w u (code.row_start (c x)) d a
          → cond b (gather (f (n + E + (place_of code c x + d))) (f (n + (code.row_start (c x) + d))) (f (n + 2 * E + (place_of code c x + d))) (gather_at n E code.rows u (code.row_start (c x)) (place_of code c x) f d a)) (gather_at n E code.rows u (code.row_start (c x)) (place_of code c x) f d a)
          ≡ cond b (gather (sat_z (w.L u -ℤ w.old (code.row_start (c x) + d))) (w.new (code.row_start (c x) + d)) (w.old (code.row_start (c x) + d)) (gather_check w u (code.row_start (c x)) d a)) (gather_check w u (code.row_start (c x)) d a)
      go true e ih =
          let k : code.rows (code.row_start (c x) + d) ≡ u = eqb-true _ u e in
          λ i. gather ((r.t_is x d h (omega arith) ∙ ap (λ (y : ℕ). sat_z (w.L y -ℤ w.old (code.row_start (c x) + d))) k) i) (r.new_is x d h (omega arith) i) (r.old_is x d h (omega arith) i) (ih i)
      go false e ih = ih

  pub run_gathers : (u x : ℕ) → x ≤ m → gather_run_at n E code c u f x ≡ gather_run w code c u x
  unfolding gather_run_at gather_run
  run_gathers u zero h = refl
  run_gathers u (suc x) h =
      ap (gather_at n E code.rows u (code.row_start (c x)) (place_of code c x) f (degree code (c x))) (run_gathers u x (omega arith))
      ∙ check_gathers u x (degree code (c x)) (gather_run w code c u x) h (omega arith)

-- ---- only the rows behind the values count
at_same : (n E : ℕ) (v : ℕ → ℕ) (u s pl : ℕ) (f g : ℕ → ℤ) (d : ℕ) (a b : Sum) → ((u : ℕ) → n ≤ u → f u ≡ g u) → a ≡ b → gather_at n E v u s pl f d a ≡ gather_at n E v u s pl g d b
unfolding gather_at
at_same n E v u s pl f g zero a b h e = e
at_same n E v u s pl f g (suc d) a b h e =
    let ih = at_same n E v u s pl f g d a b h e in
    λ i. cond (eqb (v (s + d)) u) (gather (h (n + E + (pl + d)) (omega arith) i) (h (n + (s + d)) (omega arith) i) (h (n + 2 * E + (pl + d)) (omega arith) i) (ih i)) (ih i)

pub run_same : (n E : ℕ) (code : Code) (c : ℕ → ℕ) (u : ℕ) (f g : ℕ → ℤ) (m : ℕ) → ((u : ℕ) → n ≤ u → f u ≡ g u) → gather_run_at n E code c u f m ≡ gather_run_at n E code c u g m
unfolding gather_run_at
run_same n E code c u f g zero h = refl
run_same n E code c u f g (suc m) h = at_same n E code.rows u (code.row_start (c m)) (place_of code c m) f g (degree code (c m)) _ _ h (run_same n E code c u f g m h)

-- ---- a check that has no edge of u gathers nothing
at_none : (n E : ℕ) (v : ℕ → ℕ) (u s pl : ℕ) (f : ℕ → ℤ) (d : ℕ) (a : Sum) → ((k : ℕ) → k < d → v (s + k) ≡ u → ⊥) → gather_at n E v u s pl f d a ≡ a
unfolding gather_at
at_none n E v u s pl f zero a h = refl
at_none n E v u s pl f (suc d) a h =
    ap (λ (b : Bool). cond b (gather (f (n + E + (pl + d))) (f (n + (s + d))) (f (n + 2 * E + (pl + d))) (gather_at n E v u s pl f d a)) (gather_at n E v u s pl f d a)) (ne_eqb (v (s + d)) u (h d (omega arith)))
    ∙ at_none n E v u s pl f d a (λ k q. h k (omega arith))

-- a variable of no edge gathers nothing
pub run_none : (n E : ℕ) (code : Code) (c : ℕ → ℕ) (f : ℕ → ℤ) (u x : ℕ) → ((y k : ℕ) → y < x → k < degree code (c y) → code.rows (code.row_start (c y) + k) ≡ u → ⊥)
    → gather_run_at n E code c u f x ≡ nothing
unfolding gather_run_at
run_none n E code c f u zero h = refl
run_none n E code c f u (suc x) h =
    at_none n E code.rows u (code.row_start (c x)) (place_of code c x) f (degree code (c x)) (gather_run_at n E code c u f x) (λ k q. h x k (omega arith) q)
    ∙ run_none n E code c f u x (λ y k q. h y k (omega arith))

-- ---- a part of the edges, the others being none of u
module _ (n E : ℕ) (v : ℕ → ℕ) (u s pl : ℕ) (f : ℕ → ℤ) (a : Sum) where
  at_rest : (d e : ℕ) → ((k : ℕ) → d ≤ k → k < d + e → v (s + k) ≡ u → ⊥) → gather_at n E v u s pl f (d + e) a ≡ gather_at n E v u s pl f d a
  unfolding gather_at
  at_rest d zero h = let z : d + 0 ≡ d = omega arith in ap (λ (k : ℕ). gather_at n E v u s pl f k a) z
  at_rest d (suc e) h =
      let z : d + suc e ≡ suc (d + e) = omega arith in
      ap (λ (k : ℕ). gather_at n E v u s pl f k a) z
      ∙ ap (λ (b : Bool). cond b (gather (f (n + E + (pl + (d + e)))) (f (n + (s + (d + e)))) (f (n + 2 * E + (pl + (d + e)))) (gather_at n E v u s pl f (d + e) a)) (gather_at n E v u s pl f (d + e) a)) (ne_eqb (v (s + (d + e))) u (h (d + e) (omega arith) (omega arith)))
      ∙ at_rest d e (λ k q r. h k q (omega arith))

  at_split : (d e : ℕ) → gather_at n E v u s pl f (d + e) a ≡ gather_at n E v u (s + d) (pl + d) f e (gather_at n E v u s pl f d a)
  unfolding gather_at
  at_split d zero = let z : d + 0 ≡ d = omega arith in ap (λ (k : ℕ). gather_at n E v u s pl f k a) z
  at_split d (suc e) =
      let z : d + suc e ≡ suc (d + e) = omega arith in
      let x : s + (d + e) ≡ s + d + e = omega arith in
      let y : pl + (d + e) ≡ pl + d + e = omega arith in
      ap (λ (k : ℕ). gather_at n E v u s pl f k a) z
      ∙ (λ i. cond (eqb (v (x i)) u) (gather (f (n + E + y i)) (f (n + x i)) (f (n + 2 * E + y i)) (at_split d e i)) (at_split d e i))

  -- the edges from `from` up to `end`, of d
  pub at_part : (from end d : ℕ) → from ≤ end → end ≤ d → ((k : ℕ) → k < from → v (s + k) ≡ u → ⊥) → ((k : ℕ) → end ≤ k → k < d → v (s + k) ≡ u → ⊥)
      → gather_at n E v u s pl f d a ≡ gather_at n E v u (s + from) (pl + from) f (end - from) a
  at_part from end d h k none rest =
      let x : end + (d - end) ≡ d = omega arith in
      let y : from + (end - from) ≡ end = omega arith in
      ap (λ (j : ℕ). gather_at n E v u s pl f j a) (sym x)
      ∙ at_rest end (d - end) (λ k q r. rest k q (omega arith))
      ∙ ap (λ (j : ℕ). gather_at n E v u s pl f j a) (sym y)
      ∙ at_split from (end - from)
      ∙ ap (gather_at n E v u (s + from) (pl + from) f (end - from)) (at_none n E v u s pl f from a none)

-- ---- the same but for the total of one that has gathered nothing
pub record SameSum (a b : Sum) : Type 0 where
  pub seen : a.seen ≡ b.seen
  pub total : a.seen ≡ true → a.total ≡ b.total

pub same_sum : (a : Sum) → SameSum a a
same_sum a = record { seen = refl; total = λ e. refl }

pub same_sum_more : {a b c : Sum} → SameSum a b → SameSum b c → SameSum a c
same_sum_more x y = record { seen = x.seen ∙ y.seen; total = λ e. x.total e ∙ y.total (sym x.seen ∙ e) }

pub same_sum_gather : (t new old : ℤ) {a b : Sum} → SameSum a b → SameSum (gather t new old a) (gather t new old b)
same_sum_gather t new old {a} {b} x = record { seen = refl; total = λ e. go a.seen a.total x.seen x.total }
  where
    go : (s : Bool) (y : ℤ) → s ≡ b.seen → (s ≡ true → y ≡ b.total) → cond s (y +ℤ (new -ℤ old)) (t +ℤ new) ≡ cond b.seen (b.total +ℤ (new -ℤ old)) (t +ℤ new)
    go true y e f = ap (λ (w : ℤ). w +ℤ (new -ℤ old)) (f refl) ∙ ap (λ (s : Bool). cond s (b.total +ℤ (new -ℤ old)) (t +ℤ new)) e
    go false y e f = ap (λ (s : Bool). cond s (b.total +ℤ (new -ℤ old)) (t +ℤ new)) e

pub same_sum_at : (n E : ℕ) (v : ℕ → ℕ) (u s pl : ℕ) (f : ℕ → ℤ) (d : ℕ) {a b : Sum} → SameSum a b → SameSum (gather_at n E v u s pl f d a) (gather_at n E v u s pl f d b)
unfolding gather_at
same_sum_at n E v u s pl f zero x = x
same_sum_at n E v u s pl f (suc d) {a} {b} x = go (eqb (v (s + d)) u) (same_sum_at n E v u s pl f d x)
  where
    go : (t : Bool) → SameSum (gather_at n E v u s pl f d a) (gather_at n E v u s pl f d b)
        → SameSum (cond t (gather (f (n + E + (pl + d))) (f (n + (s + d))) (f (n + 2 * E + (pl + d))) (gather_at n E v u s pl f d a)) (gather_at n E v u s pl f d a))
        (cond t (gather (f (n + E + (pl + d))) (f (n + (s + d))) (f (n + 2 * E + (pl + d))) (gather_at n E v u s pl f d b)) (gather_at n E v u s pl f d b))
    go true y = same_sum_gather (f (n + E + (pl + d))) (f (n + (s + d))) (f (n + 2 * E + (pl + d))) y
    go false y = y
