-- THE COLUMN LAW of the layered iteration, stated once for any lane count: runs, layers, all.
--
-- In order: one run (`RunMade`), the first runs of a layer (`RunsMade`), the first layers (`LayersMade`); what the layers' runs count on (`InLayers`,
-- `RowPart`), and of the table (`Sharing`).
--
-- Not here: what a run is made of (Checks, Rows).
use Rattle.std.specs.Prelude.{◌≡◌, refl, Bool, true, false, List, ℕ, suc, ◌+◌, ◌*◌, ◌-◌, ◌/◌, ◌≤◌, ◌<◌, min, get_or, length, ℤ}
use Rattle.std.proofs.Common.{sym, ap, ◌∙◌, subst, arith, mul-le-mul_right, add-one}
use Rattle.std.proofs.Math.Nat.{add-mul-div_right, div-eq_of_lt}
use Rattle.iteration.specs.Iteration.{Code, degree, run, in_run, runs, run_count, layers}
use Rattle.lane16.specs.Column.{column}
use Rattle.simd.specs.Words.{word}
use Rattle.iteration.specs.Lists.{Lists, var, rows_in, edges_in, code_in}
use Rattle.iteration.specs.ListsLaws.{start_in, degree_in}
use Rattle.fixed_conflicts.specs.Table.{spans_length, Split, Shares, Flagged, span_at}
use Rattle.iteration.specs.Once.{stepped, Once}
use Rattle.fixed_layered.specs.RunMemory.{InRun}
use Rattle.fixed_layered.specs.Rows.{InRow, Grouped, part_in}
use Rattle.fixed_layered.specs.Layered.{Layered}

-- ---- one run. What the rows of t and of old messages hold is left to the program; all behind them is as it was.
pub record RunMade (n p lanes : ℕ) (o : ℤ) (lists : List ℕ) (first q m : ℕ) (a a' : List ℤ) : Type 0 where
  pub words : (i : ℕ) → i < lanes → word n (edges_in p lists) lanes a' i ≡ run o (code_in p lists) (stepped first q) m (word n (edges_in p lists) lanes a i)
  pub rest : (i : ℕ) → i < lanes → (u : ℕ) → n + 3 * edges_in p lists ≤ u → column lanes a' i u ≡ column lanes a i u

-- ---- the first j runs of layer l
pub record RunsMade (n p lanes : ℕ) (o : ℤ) (lists : List ℕ) (q s l : ℕ) (a : List ℤ) (j : ℕ) (a' : List ℤ) : Type 0 where
  pub words : (i : ℕ) → i < lanes → word n (edges_in p lists) lanes a' i ≡ runs o (code_in p lists) q s l j (word n (edges_in p lists) lanes a i)
  pub rest : (i : ℕ) → i < lanes → (u : ℕ) → n + 3 * edges_in p lists ≤ u → column lanes a' i u ≡ column lanes a i u

-- the runs that begin before `at`, where one more begins or the layer ends
pub record RunsBefore (n p lanes : ℕ) (o : ℤ) (lists : List ℕ) (q s l : ℕ) (a : List ℤ) (at : ℕ) (a' : List ℤ) : Type 0 where
  pub count : ℕ
  pub begins : at ≡ count * s
  pub near : at < 374 + s
  pub made : RunsMade n p lanes o lists q s l a count a'

pub runs_start : (n p lanes : ℕ) (o : ℤ) (lists : List ℕ) (q s l : ℕ) (a : List ℤ) → RunsBefore n p lanes o lists q s l a 0 a
unfolding runs
runs_start n p lanes o lists q s l a =
    record {
      count = 0;
      begins = omega arith;
      near = omega arith;
      made = record { words = λ i h. refl; rest = λ i h u k. refl };
    }

-- the checks of run j
pub same_checks : (q s l j at : ℕ) → at ≡ j * s → stepped (l + at * q) q ≡ in_run q s l j
same_checks q s l j at e =
    λ i x. (let z : at * q ≡ j * s * q = ap (λ (y : ℕ). y * q) e in let k : l + at * q + x * q ≡ l + (j * s + x) * q = omega arith in k) i

pub runs_again : {n p lanes : ℕ} {o : ℤ} {lists : List ℕ} {q s l : ℕ} {a a' a'' : List ℤ} {at m : ℕ} → at < 374 → m ≡ min s (374 - at) → RunsBefore n p lanes o lists q s l a at a'
    → RunMade n p lanes o lists (l + at * q) q m a' a'' → RunsBefore n p lanes o lists q s l a (at + s) a''
unfolding runs
runs_again {n} {p} {lanes} {o} {lists} {q} {s} {l} {a} {a'} {a''} {at} {m} low f v k =
    record {
      count = suc v.count;
      begins = omega (arith, v.begins);
      near = omega arith;
      made =
          record {
            words =
                λ i h. k.words i h ∙ (λ y. run o (code_in p lists) (same_checks q s l v.count at v.begins y) ((f ∙ ap (λ (z : ℕ). min s (374 - z)) v.begins) y) (v.made.words i h y));
            rest = λ i h u r. k.rest i h u r ∙ v.made.rest i h u r;
          };
    }

-- as many as 374 checks make
count_is : (s j : ℕ) → 0 < s → 374 ≤ j * s → j * s < 374 + s → j ≡ run_count s
count_is s j h a b =
    let e : 373 + s ≡ (373 + s - j * s) + j * s = omega arith in
    sym (ap (λ (z : ℕ). z / s) e ∙ add-mul-div_right (373 + s - j * s) j h ∙ (let y : 373 + s - j * s < s = omega arith in let z = div-eq_of_lt y in omega arith))

pub runs_end : {n p lanes : ℕ} {o : ℤ} {lists : List ℕ} {q s l : ℕ} {a a' : List ℤ} {at : ℕ} → 0 < s → 374 ≤ at → RunsBefore n p lanes o lists q s l a at a'
    → RunsMade n p lanes o lists q s l a (run_count s) a'
runs_end {n} {p} {lanes} {o} {lists} {q} {s} {l} {a} {a'} {at} h k v =
    subst (λ (y : ℕ). RunsMade n p lanes o lists q s l a y a') (count_is s v.count h (omega (arith, v.begins)) (omega (arith, v.begins, v.near))) v.made

-- ---- the first l layers
pub record LayersMade (n p lanes : ℕ) (o : ℤ) (lists : List ℕ) (q s : ℕ) (a : List ℤ) (l : ℕ) (a' : List ℤ) : Type 0 where
  pub words : (i : ℕ) → i < lanes → word n (edges_in p lists) lanes a' i ≡ layers o (code_in p lists) q s l (word n (edges_in p lists) lanes a i)
  pub rest : (i : ℕ) → i < lanes → (u : ℕ) → n + 3 * edges_in p lists ≤ u → column lanes a' i u ≡ column lanes a i u

pub layers_start : (n p lanes : ℕ) (o : ℤ) (lists : List ℕ) (q s : ℕ) (a : List ℤ) → LayersMade n p lanes o lists q s a 0 a
unfolding layers
layers_start n p lanes o lists q s a = record { words = λ i h. refl; rest = λ i h u k. refl }

pub layers_again : {n p lanes : ℕ} {o : ℤ} {lists : List ℕ} {q s : ℕ} {a a' a'' : List ℤ} {l : ℕ} → LayersMade n p lanes o lists q s a l a' → RunsMade n p lanes o lists q s l a' (run_count s) a''
    → LayersMade n p lanes o lists q s a (l + 1) a''
unfolding layers
layers_again {n} {p} {lanes} {o} {lists} {q} {s} {a} {a'} {a''} {l} v k =
    subst (λ (y : ℕ). LayersMade n p lanes o lists q s a y a'') (sym (add-one l))
    (record {
      words = λ i h. k.words i h ∙ ap (runs o (code_in p lists) q s l (run_count s)) (v.words i h);
      rest = λ i h u r. k.rest i h u r ∙ v.rest i h u r;
    })

-- ---- what the layers' runs may count on, of the code
pub record InLayers (n p q s : ℕ) (lists : List ℕ) : Type 0 where
  pub whole : p ≡ 374 * q
  pub few_edges : edges_in p lists ≤ 6000000
  pub few_checks : p ≤ 44880
  pub few_bits : n ≤ 44880
  pub step : 0 < s
  pub small_step : s ≤ 4294967295

-- the checks of a part of layer l
pub inside_part : {n p q s l : ℕ} {lists : List ℕ} (at m : ℕ) → at + m ≤ 374 → l < q → InLayers n p q s lists → (x : ℕ) → x < m → stepped (l + at * q) q x < p
inside_part {n} {p} {q} at m h low r x k = let z : (at + x + 1) * q ≤ 374 * q = mul-le-mul_right q (omega arith) in omega (arith, r.whole)

pub in_run_lem : {n p q s l : ℕ} {lists : List ℕ} (at m : ℕ) → at + m ≤ 374 → l < q → Lists n p lists → InLayers n p q s lists → InRun n p (l + at * q) q m lists
in_run_lem at m h low right r =
    record {
      lists_right = right;
      inside = inside_part at m h low r;
      step = omega arith;
      few_edges = r.few_edges;
      few_checks = r.few_checks;
      few_bits = r.few_bits;
    }

-- the whole layer is a run too
pub whole_layer : {n p q s l : ℕ} {lists : List ℕ} → l < q → Lists n p lists → InLayers n p q s lists → InRun n p l q 374 lists
whole_layer {n} {p} {q} {s} {l} {lists} low right r =
    let z : l + 0 * q ≡ l = omega arith in subst (λ (first : ℕ). InRun n p first q 374 lists) z (in_run_lem 0 374 (omega arith) low right r)

-- a variable that has one edge in the layer has one in a part of it
pub once_part : (q l : ℕ) {code : Code} {u : ℕ} (at m : ℕ) → at + m ≤ 374 → Once code (stepped l q) 374 u → Once code (stepped (l + at * q) q) m u
once_part q l {code} {u} at m h once =
    record {
      one =
          λ x i y j a b c d f g. let o = once.one (at + x) i (at + y) j (omega arith) (omega arith) (subst (λ (z : ℕ). i < degree code z) (there x) c) (subst (λ (z : ℕ). j < degree code z) (there y) d)
          (subst (λ (z : ℕ). code.rows (code.row_start z + i) ≡ u) (there x) f) (subst (λ (z : ℕ). code.rows (code.row_start z + j) ≡ u) (there y) g) in
          (omega (arith, o.0), o.1);
    }
  where
    there : (x : ℕ) → l + at * q + x * q ≡ l + (at + x) * q
    there x = omega arith

pub shares_part : {n q : ℕ} {code : Code} {l : ℕ} {table : List ℕ} {flags : List Bool} (at m : ℕ) → at + m ≤ 374 → Shares n q code l 374 l table flags → Shares n q code (l + at * q) m l table flags
shares_part {n} {q} {code} {l} {table} {flags} at m h v =
    record {
      once = λ u e. once_part q l at m h (v.once u e);
      low = v.low;
      fits = λ g e x a. subst (λ (z : ℕ). (span_at table l g ≤ degree code z) × (span_at table l g ≤ span_at table l (g + 1))) (sym (there x)) (v.fits g e (at + x) (omega arith));
      split = λ g e x k a b.
          subst (λ (z : ℕ). Split (span_at table l g) (span_at table l (g + 1)) (374 * g) k (code.rows (code.row_start z + k))) (sym (there x)) (v.split g e (at + x) k (omega arith) (subst (λ (z : ℕ). k < degree code z) (there x) b));
    }
  where
    there : (x : ℕ) → l + at * q + x * q ≡ l + (at + x) * q
    there x = omega arith

-- the edges of a flagged row
pub grouped : {n q : ℕ} {code : Code} {first m l : ℕ} {table : List ℕ} {flags : List Bool} {from upto : ℕ} (g : ℕ) → get_or flags g false ≡ true → 0 < m
    → Shares n q code first m l table flags → from ≡ span_at table l g
    → upto ≡ span_at table l (g + 1) → Grouped code (stepped first q) m (374 * g) from upto
grouped {n} {q} {code} {first} {m} {l} {table} {flags} {from} {upto} g e some v f h =
    subst (λ (x : ℕ). Grouped code (stepped first q) m (374 * g) x upto) (sym f)
    (subst (λ (x : ℕ). Grouped code (stepped first q) m (374 * g) (span_at table l g) x) (sym h)
    (record { split = λ x k a b. v.split g e x k a b; begins = λ x a. (v.fits g e x a).0; rises = (v.fits g e 0 some).1 }))

-- the row's edges in check x: from `from` up to `end` of its d
pub record RowPart (p first q base from upto x s d end : ℕ) (lists : List ℕ) : Type 0 where
  pub up : end ≤ upto
  pub most : end ≤ degree (code_in p lists) (stepped first q x)
  pub least : from ≤ end
  pub all : end < upto → end ≡ degree (code_in p lists) (stepped first q x)
  pub below : end ≤ d
  pub start_is : s ≡ (code_in p lists).row_start (stepped first q x)
  pub ends : s + from + (end - from) ≤ edges_in p lists
  pub in_row : InRow (var (rows_in p lists)) base (s + from) (end - from)

pub row_part : {n p first q m base from upto x s d end : ℕ} {lists : List ℕ} → InRun n p first q m lists
    → Grouped (code_in p lists) (stepped first q) m base from upto → x < m
    → s ≡ get_or lists (stepped first q x) 0 → s + d ≡ get_or lists (stepped first q x + 1) 0 → end ≡ min upto d → RowPart p first q base from upto x s d end lists
row_part {n} {p} {first} {q} {m} {base} {from} {upto} {x} {s} {d} {end} {lists} r g h e f ends =
    record {
      up = omega arith;
      most = omega (arith, D);
      least = omega (arith, D, g.rises, g.begins x h);
      all = λ k. omega (arith, D);
      below = omega arith;
      start_is = S;
      ends = omega (arith, r.lists_right.within (stepped first q x + 1) (omega (arith, r.inside x h)), D, g.rises, g.begins x h);
      in_row =
          subst (λ (y : ℕ). InRow (code_in p lists).rows base (y + from) (end - from)) (sym S)
          (part_in g n (edges_in p lists) h end (omega arith) (omega (arith, D)) (omega (arith, D, g.rises, g.begins x h)) (λ k. omega (arith, D)));
    }
  where
    S : s ≡ (code_in p lists).row_start (stepped first q x)
    S = e ∙ sym (start_in p lists (stepped first q x) (omega (arith, r.inside x h)))

    D : degree (code_in p lists) (stepped first q x) ≡ d
    D = degree_in p lists (stepped first q x) s d (r.inside x h) e f

-- ---- what the layers count on of the table: the flags that are set by it say which rows share
pub record Sharing (n p q rows : ℕ) (lists table : List ℕ) : Type 0 where
  pub long : length table ≡ spans_length
  pub few_rows : rows ≤ 119
  pub few_layers : q ≤ 120
  pub shares : (l : ℕ) → l < q → (flags : List Bool) (any : Bool) → Flagged table rows q l rows flags any → Shares n q (code_in p lists) l 374 l table flags

pub layers_end : {n p lanes : ℕ} {o o' : ℤ} {lists : List ℕ} {q s : ℕ} {a a' : List ℤ} {l : ℕ} → o ≡ o' → l ≡ q → LayersMade n p lanes o lists q s a l a' → LayersMade n p lanes o' lists q s a q a'
layers_end {n} {p} {lanes} {o} {o'} {lists} {q} {s} {a} {a'} {l} g e v =
    subst (λ (y : ℕ). LayersMade n p lanes o' lists q s a y a') e (subst (λ (z : ℤ). LayersMade n p lanes z lists q s a l a') g v)

-- all layers made are the iteration
pub layered_law : {n p q lanes s : ℕ} {o : ℤ} {lists : List ℕ} {a a' : List ℤ} → LayersMade n p lanes o lists q s a q a' → Layered n p q lanes o s lists a a'
layered_law v = record { words = v.words; rest = v.rest }
