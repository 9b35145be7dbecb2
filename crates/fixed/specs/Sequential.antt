-- THE COLUMN LAW of checks in turn, stated once for any lane count: of all checks it is the sequential iteration.
use Rattle.std.specs.Prelude.{◌≡◌, refl, List, ℕ, ◌+◌, ◌*◌, ◌≤◌, ◌<◌, get_or, ℤ}
use Rattle.std.proofs.Common.{sym, ◌∙◌, subst, arith, add-one}
use Rattle.iteration.specs.Check.{check}
use Rattle.iteration.specs.Iteration.{degree, in_turn, sequential}
use Rattle.lane16.specs.Column.{column}
use Rattle.iteration.specs.Lists.{var, rows_in, edges_in, code_in}
use Rattle.simd.specs.Words.{word, CheckNode}
use Rattle.iteration.specs.ListsLaws.{start_in, degree_in}
use Rattle.iteration.specs.Once.{stepped}

-- Every lane's word after m such checks in turn is that word alone after them; the rows of t and of old messages and all behind them
-- are as they were.
pub record InTurn (n p lanes : ℕ) (o : ℤ) (lists : List ℕ) (first q : ℕ) (a : List ℤ) (m : ℕ) (a' : List ℤ) : Type 0 where
  pub words : (i : ℕ) → i < lanes → word n (edges_in p lists) lanes a' i ≡ in_turn o (code_in p lists) (stepped first q) m (word n (edges_in p lists) lanes a i)
  pub rest : (i : ℕ) → i < lanes → (u : ℕ) → n + edges_in p lists ≤ u → column lanes a' i u ≡ column lanes a i u

-- The same of a sequential iteration.
pub record Iterated (n p lanes : ℕ) (o : ℤ) (lists : List ℕ) (a a' : List ℤ) : Type 0 where
  pub words : (i : ℕ) → i < lanes → word n (edges_in p lists) lanes a' i ≡ sequential o (code_in p lists) p (word n (edges_in p lists) lanes a i)
  pub rest : (i : ℕ) → i < lanes → (u : ℕ) → n + edges_in p lists ≤ u → column lanes a' i u ≡ column lanes a i u

pub turn_start : (n p lanes : ℕ) (o : ℤ) (lists : List ℕ) (first q : ℕ) (a : List ℤ) → InTurn n p lanes o lists first q a 0 a
unfolding in_turn
turn_start n p lanes o lists first q a = record { words = λ i h. refl; rest = λ i h u k. refl }

pub turn_again : {n p lanes : ℕ} {o : ℤ} {lists : List ℕ} {first q : ℕ} {a a' a'' : List ℤ} {x s d : ℕ} → stepped first q x < p → s ≡ get_or lists (stepped first q x) 0
    → s + d ≡ get_or lists (stepped first q x + 1) 0
    → InTurn n p lanes o lists first q a x a' → CheckNode (rows_in p lists) s d n lanes o a' a'' → InTurn n p lanes o lists first q a (x + 1) a''
unfolding in_turn
turn_again {n} {p} {lanes} {o} {lists} {first} {q} {a} {a'} {a''} {x} {s} {d} h e f v k =
    subst (λ (m : ℕ). InTurn n p lanes o lists first q a m a'') (sym (add-one x))
    (record {
      words = λ i b. k.words i b ∙ (λ j. check o (var (rows_in p lists)) (same_start j) (same_degree j) (v.words i b j));
      rest = λ i b u r. k.rest i b u r ∙ v.rest i b u r;
    })
  where
    same_start : s ≡ (code_in p lists).row_start (stepped first q x)
    same_start = e ∙ sym (start_in p lists (stepped first q x) (omega arith))

    same_degree : d ≡ degree (code_in p lists) (stepped first q x)
    same_degree = sym (degree_in p lists (stepped first q x) s d h e f)

pub turn_end : {n p lanes : ℕ} {o o' : ℤ} {lists : List ℕ} {first q : ℕ} {a a' : List ℤ} {x m : ℕ} → o ≡ o' → x ≡ m → InTurn n p lanes o lists first q a x a' → InTurn n p lanes o' lists first q a m a'
turn_end {n} {p} {lanes} {o} {o'} {lists} {first} {q} {a} {a'} {x} e f v =
    subst (λ (m : ℕ). InTurn n p lanes o' lists first q a m a') f (subst (λ (z : ℤ). InTurn n p lanes z lists first q a x a') e v)

-- all checks, from check 0 on
all_checks : stepped 0 1 ≡ (λ c. c)
all_checks = λ i x. (let e : 0 + x * 1 ≡ x = omega arith in e) i

pub iterated : {n p lanes : ℕ} {o o' : ℤ} {lists : List ℕ} {a a' : List ℤ} → o ≡ o' → InTurn n p lanes o lists 0 1 a p a' → Iterated n p lanes o' lists a a'
iterated {n} {p} {lanes} {o} {o'} {lists} {a} {a'} e v =
    record {
      words = λ i h. v.words i h ∙ (λ j. in_turn (e j) (code_in p lists) (all_checks j) p (word n (edges_in p lists) lanes a i));
      rest = v.rest;
    }
