-- A row written, and the word of its column; a check on a column is the check of its word; the column laws of the code.
use Rattle.std.specs.Prelude.{◌≡◌, Bool, true, false, cond, List, eqb, length, ℤ, ◌+ℤ◌, ◌-ℤ◌, ℕ, zero, suc, ◌+◌, ◌%◌, ◌≤◌, ◌<◌}
use Rattle.std.proofs.Common.{◌∙◌, arith, eqb-true, eq-eqb, ne_eqb}
use Rattle.std.proofs.Math.Path.{refl, sym, ap, subst}
use Rattle.std.proofs.lemmas.Bool.{eqb-false}
use Rattle.laws.specs.Put.{put_other}
use Rattle.laws.specs.Definitions.{put}
use Rattle.iteration.specs.Value.{sat_z}
use Rattle.iteration.specs.Check.{Word, check, message, wrote, t_of, new_l, new_r, within}
use Rattle.iteration.specs.Iteration.{unsatisfied, negatives, hard}
use Rattle.lane_math.specs.Laws.{unsatisfied_is}
use Rattle.iteration.specs.CheckLaws.{message_same, wrote_same, within_put, within_other, within_at}
use Rattle.lane16.specs.Lanes.{Decided}
use Rattle.lane16.specs.ColumnLaws.{Mapped}
use Rattle.lane16.specs.Column.{column}
use Rattle.lane16.specs.Memory.{CheckRows}
use Rattle.iteration.specs.Lists.{var}
use Rattle.simd.specs.Pass.{t_at, written, check_column, Signs}
use Rattle.simd.specs.Words.{word_of, word, CheckNode, SignParity}

-- ---- a row written, and the words
-- base + e in place of e
pub shifted_put : (base : ℕ) (f : ℕ → ℤ) (u : ℕ) (x : ℤ) → ◌≡◌ {A = ℕ → ℤ} (λ e. put f (base + u) x (base + e)) (put (λ e. f (base + e)) u x)
unfolding put
shifted_put base f u x = λ i e. cond (same e (eqb e u) refl i) x (f (base + e))
  where
    same : (e : ℕ) (b : Bool) → eqb e u ≡ b → eqb (base + e) (base + u) ≡ eqb e u
    same e true s = let k : e ≡ u = eqb-true e u s in eq-eqb (base + e) (base + u) (omega arith) ∙ sym s
    same e false s = ne_eqb (base + e) (base + u) (λ q. eqb-false e u s (omega arith)) ∙ sym s

module _ (n E : ℕ) (f : ℕ → ℤ) where
  pub value_put : (u : ℕ) (x : ℤ) → u < n → word_of n E (put f u x) ≡ record { L = put (word_of n E f).L u x; r = (word_of n E f).r }
  unfolding word_of
  value_put u x h =
      λ i. record {
        L = within_put n f u x h i;
        r = within_other E (λ e. put f u x (n + e)) (λ e. f (n + e)) (λ e q. put_other f u x (n + e) (λ k. omega arith)) i;
      }

  pub message_put : (e : ℕ) (x : ℤ) → e < E → word_of n E (put f (n + e) x) ≡ record { L = (word_of n E f).L; r = put (word_of n E f).r e x }
  unfolding word_of
  message_put e x h =
      λ i. record {
        L = within_other n (put f (n + e) x) f (λ w q. put_other f (n + e) x w (λ k. omega arith)) i;
        r = (ap (within E) (shifted_put n f e x) ∙ within_put E (λ e. f (n + e)) e x h) i;
      }

  pub behind_put : (u : ℕ) (x : ℤ) → n + E ≤ u → word_of n E (put f u x) ≡ word_of n E f
  unfolding word_of
  behind_put u x h =
      λ i. record {
        L = within_other n (put f u x) f (λ w q. put_other f u x w (λ k. omega arith)) i;
        r = within_other E (λ e. put f u x (n + e)) (λ e. f (n + e)) (λ e q. put_other f u x (n + e) (λ k. omega arith)) i;
      }

-- ---- a check on a column is the check of its word
module _ (n E : ℕ) (v : ℕ → ℕ) (s : ℕ) where
  abbrev pub Inside : ℕ → Type 0
  Inside d = ((k : ℕ) → k < d → v (s + k) < n) × (s + d ≤ E)

  fewer : (d : ℕ) → Inside (suc d) → Inside d
  fewer d h = (λ k q. h.0 k (omega arith), omega (arith, h.1))

  word_written : (m y f : ℕ → ℤ) (d : ℕ) → Inside d → word_of n E (written n v s m y f d) ≡ record { L = wrote (λ k. v (s + k)) y (word_of n E f).L d; r = wrote (λ k. s + k) m (word_of n E f).r d }
  unfolding written wrote
  word_written m y f zero h = refl
  word_written m y f (suc d) h =
      value_put n E (put (written n v s m y f d) (n + (s + d)) (m d)) (v (s + d)) (y d) (h.0 d (omega arith))
      ∙ ap (λ (w : Word). record { L = put w.L (v (s + d)) (y d); r = w.r })
      (message_put n E (written n v s m y f d) (s + d) (m d) (omega (arith, h.1))
      ∙ ap (λ (w : Word). record { L = w.L; r = put w.r (s + d) (m d) }) (word_written m y f d (fewer d h)))

  written_rest : (m y f : ℕ → ℤ) (d : ℕ) → Inside d → (u : ℕ) → n + E ≤ u → written n v s m y f d u ≡ f u
  unfolding written
  written_rest m y f zero h u q = refl
  written_rest m y f (suc d) h u q =
      put_other (put (written n v s m y f d) (n + (s + d)) (m d)) (v (s + d)) (y d) u (λ k. omega (arith, h.0 d (omega arith)))
      ∙ put_other (written n v s m y f d) (n + (s + d)) (m d) u (λ k. omega (arith, h.1))
      ∙ written_rest m y f d (fewer d h) u q

  -- t of the word is t of the column
  pub t_same : (f : ℕ → ℤ) (d : ℕ) → Inside d → (k : ℕ) → k < d → t_at v s n f k ≡ t_of v s (word_of n E f).L (word_of n E f).r k
  unfolding t_of word_of
  t_same f d h k q =
      λ i. sat_z (sym (within_at n f (v (s + k)) (h.0 k q)) i -ℤ sym (within_at E (λ e. f (n + e)) (s + k) (omega (arith, h.1))) i)

  pub message_is : (o : ℤ) (f : ℕ → ℤ) (d : ℕ) → Inside d → (e : ℕ) → message o (t_at v s n f) d e ≡ message o (t_of v s (word_of n E f).L (word_of n E f).r) d e
  message_is o f d h e = message_same (t_at v s n f) (t_of v s (word_of n E f).L (word_of n E f).r) o d e (t_same f d h)

  check_is : (o : ℤ) (f : ℕ → ℤ) (d : ℕ) → Inside d → word_of n E (check_column o v s d n f) ≡ check o v s d (word_of n E f)
  unfolding check_column new_l new_r
  check_is o f d h =
      word_written (message o (t_at v s n f) d) (λ e. sat_z (t_at v s n f e +ℤ message o (t_at v s n f) d e)) f d h
      ∙ (λ i. record {
        L = wrote_same (λ k. v (s + k)) _ _ (word_of n E f).L d (λ k q. λ j. sat_z (t_same f d h k q j +ℤ message_is o f d h k j)) i;
        r = wrote_same (λ k. s + k) _ _ (word_of n E f).r d (λ k q. message_is o f d h k) i;
      })

  check_rest : (o : ℤ) (f : ℕ → ℤ) (d : ℕ) → Inside d → (u : ℕ) → n + E ≤ u → check_column o v s d n f u ≡ f u
  unfolding check_column
  check_rest o f d h u q = written_rest (message o (t_at v s n f) d) (λ e. sat_z (t_at v s n f e +ℤ message o (t_at v s n f) d e)) f d h u q

negatives_same : (v : ℕ → ℕ) (s d : ℕ) (f g : ℕ → ℤ) → ((k : ℕ) → k < d → f (v (s + k)) ≡ g (v (s + k))) → negatives v s d f ≡ negatives v s d g
unfolding negatives
negatives_same v s zero f g h = refl
negatives_same v s (suc d) f g h = λ i. negatives_same v s d f g (λ k q. h k (omega arith)) i + hard (h d (omega arith) i)

-- ---- the laws of the code's columns
module _ {rows : List ℕ} {s d n lanes : ℕ} (r : CheckRows rows s d n lanes) where
  pub inside : ((k : ℕ) → k < d → var rows (s + k) < n) × (s + d ≤ length rows)
  inside = (λ k q. r.variables (s + k) (omega (arith, r.edges)), r.edges)

  pub check_node : {o : ℤ} {a a' : List ℤ} → Mapped (check_column o (var rows) s d n) lanes a a' → CheckNode rows s d n lanes o a a'
  check_node {o} {a} {a'} h =
      record {
        words = λ i q. ap (word_of n (length rows)) (h i q) ∙ check_is n (length rows) (var rows) s o (column lanes a i) d inside;
        rest = λ i q u p. ap (λ (f : ℕ → ℤ). f u) (h i q) ∙ check_rest n (length rows) (var rows) s o (column lanes a i) d inside u p;
      }

  -- a lane's sign is its word's
  pub sign_parity : (a : List ℤ) (i : ℕ) → unsatisfied (var rows) s d (column lanes a i) ≡ unsatisfied (var rows) s d (word n (length rows) lanes a i).L
  unfolding unsatisfied word_of
  sign_parity a i = ap (λ (m : ℕ). m % 2) (negatives_same (var rows) s d (column lanes a i) (word n (length rows) lanes a i).L (λ k q. value_is k q))
    where
      value_is : (k : ℕ) → k < d → column lanes a i (var rows (s + k)) ≡ (word n (length rows) lanes a i).L (var rows (s + k))
      value_is k q = sym (within_at n (column lanes a i) (var rows (s + k)) (inside.0 k q))

-- an offset as it was passed
pub node_to : {rows : List ℕ} {s d n lanes : ℕ} {o o' : ℤ} {a a' : List ℤ} → o ≡ o' → CheckNode rows s d n lanes o a a' → CheckNode rows s d n lanes o' a a'
node_to {rows} {s} {d} {n} {lanes} {o} {o'} {a} {a'} e h = subst (λ (z : ℤ). CheckNode rows s d n lanes z a a') e h

-- the hard decisions of the signs
pub sign_parities : {rows : List ℕ} {s d lanes at : ℕ} {a g : List ℤ} {b : List ℕ} → Signs (var rows) s lanes at a d g → Decided g b → SignParity rows s d lanes at a b
sign_parities {rows} {s} {d} {lanes} {at} {a} {g} {b} c h =
    record { is = λ k q. h.is k q ∙ ap (λ (y : Bool). cond y 1 0) (c.is k q) ∙ sym (unsatisfied_is (var rows) s d (column lanes a (at + k))) }
