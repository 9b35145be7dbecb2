-- Which variables can have several edges in a run, and where the edges of their rows stand in its checks.
use Rattle.std.specs.Prelude.{◌≡◌, refl, Bool, true, false, List, ℕ, zero, suc, ◌+◌, ◌*◌, ◌≤◌, ◌<◌, eqb, ltb, get_or, set, length, replicate, Option, Some, None}
use Rattle.std.proofs.Common.{◌∙◌, subst, arith, length-set, get_or-set_same, get_or-set_other}
use Rattle.laws.specs.Stores.{set_each}
use Rattle.iteration.specs.Iteration.{Code, degree}
use Rattle.iteration.specs.Once.{shared_in, Once}

-- The table: for each of 121 rows, the last the parity bits', a number for each of 120 layers.
abbrev pub spans_length : ℕ
spans_length = 14520

-- where row g's edges begin in the checks of layer l
abbrev pub span_at : List ℕ → ℕ → ℕ → ℕ
span_at table l g = get_or table (g * 120 + l) 0

-- edge k of a check is of variable v: of the row of 374 variables from base on if k is from a up to b, else of one before or behind them
pub record Split (a b base k v : ℕ) : Type 0 where
  pub before : k < a → v < base
  pub from : a ≤ k → base ≤ v
  pub upto : k < b → v < base + 374
  pub behind : b ≤ k → base + 374 ≤ v

-- What a run of layer l may count on: a variable whose row is not flagged has one edge in it; the edges of a flagged row stand together in each check.
pub record Shares (n q : ℕ) (code : Code) (first m l : ℕ) (table : List ℕ) (flags : List Bool) : Type 0 where
  pub once : (v : ℕ) → shared_in flags v ≡ false → Once code (λ x. first + x * q) m v
  pub low : (g : ℕ) → get_or flags g false ≡ true → 374 * g + 374 ≤ n
  pub fits : (g : ℕ) → get_or flags g false ≡ true → (x : ℕ) → x < m → (span_at table l g ≤ degree code (first + x * q)) × (span_at table l g ≤ span_at table l (g + 1))
  pub split : (g : ℕ) → get_or flags g false ≡ true → (x k : ℕ) → x < m → k < degree code (first + x * q)
      → Split (span_at table l g) (span_at table l (g + 1)) (374 * g) k (code.rows (code.row_start (first + x * q) + k))

-- ---- the flags of a layer, as they are set: the first k rows
pub record Flagged (table : List ℕ) (rows q l k : ℕ) (flags : List Bool) (any : Bool) : Type 0 where
  pub long : length flags ≡ 120
  pub of_row : (g : ℕ) → g < k → get_or flags g false ≡ ltb (span_at table l g + 1) (span_at table l (g + 1))
  pub of_parity : get_or flags rows false ≡ eqb q 1
  pub others : (g : ℕ) → k ≤ g → (g ≡ rows → ⊥) → get_or flags g false ≡ false
  pub none : any ≡ false → (g : ℕ) → get_or flags g false ≡ false
  pub some : any ≡ true → (g : ℕ) × (get_or flags g false ≡ true)

-- the flags that are given where there are any, and whether there are
abbrev pub flags_of : Option (List Bool) → List Bool
flags_of None = replicate 120 false
flags_of (Some flags) = flags

abbrev pub any_of : Option (List Bool) → Bool
any_of None = false
any_of (Some flags) = true

pub zeros : (m g : ℕ) → get_or (replicate m false) g false ≡ false
zeros zero g = refl
zeros (suc m) zero = refl
zeros (suc m) (suc g) = zeros m g

pub flagged_start : (table : List ℕ) (rows q l : ℕ) (flags : List Bool) (any : Bool) → length flags ≡ 120 → rows < 120 → ((g : ℕ) → get_or flags g false ≡ false) → any ≡ eqb q 1
    → Flagged table rows q l 0 (set flags rows any) any
flagged_start table rows q l flags any long few zeros e =
    record {
      long = simp length-set long;
      of_row = λ g h. absurd (omega (arith, h));
      of_parity = get_or-set_same flags rows any false (omega arith) ∙ e;
      others = λ g h k. get_or-set_other flags rows g any false k ∙ zeros g;
      none = λ f. set_each false (λ _ b. b ≡ false) flags rows any (omega arith) f (λ g _. zeros g);
      some = λ f. (rows, get_or-set_same flags rows any false (omega arith) ∙ f);
    }

pub flagged_end : {table : List ℕ} {rows q l k : ℕ} {flags : List Bool} {any : Bool} → k ≡ rows → Flagged table rows q l k flags any → Flagged table rows q l rows flags any
flagged_end {table} {rows} {q} {l} {k} {flags} {any} e v = subst (λ (j : ℕ). Flagged table rows q l j flags any) e v
