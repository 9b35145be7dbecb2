-- One iteration of ONE word, in both schedules; its hard decisions and unsatisfied checks.
use Rattle.std.specs.Prelude.{ℕ, zero, suc, ◌+◌, ◌*◌, ◌-◌, ◌/◌, ◌%◌, min, Bool, true, false, cond, eqb, ℤ, pos, ◌+ℤ◌, ◌-ℤ◌}
use Rattle.laws.specs.Definitions.{negative}
use Rattle.iteration.specs.Value.{sat_z}
use Rattle.iteration.specs.Check.{Word, check, new_r}

-- The code as the iteration sees it: edge e's variable, and check c's edges, which are row_start c up to row_start (c + 1).
pub record Code : Type 0 where
  pub rows : ℕ → ℕ
  pub row_start : ℕ → ℕ

abbrev pub degree : Code → ℕ → ℕ
degree code c = code.row_start (suc c) - code.row_start c

-- The checks c 0, .., c (m − 1), each reading what the ones before it wrote.
unfoldable pub in_turn : ℤ → Code → (ℕ → ℕ) → ℕ → Word → Word
in_turn offset code c zero w = w
in_turn offset code c (suc m) w = check offset code.rows (code.row_start (c m)) (degree code (c m)) (in_turn offset code c m w)

-- Sequential: the checks 0 to p − 1.
abbrev pub sequential : ℤ → Code → ℕ → Word → Word
sequential offset code p w = in_turn offset code (λ c. c) p w

-- ---- Layered. A run, which here is one of checks (the Rust's step): the checks c 0, .., c (m − 1), all reading the run's starting L. Their messages:
unfoldable pub run_r : ℤ → Code → (ℕ → ℕ) → (ℕ → ℤ) → (ℕ → ℤ) → ℕ → ℕ → ℤ
run_r offset code c L r zero = r
run_r offset code c L r (suc m) = new_r offset code.rows (code.row_start (c m)) (degree code (c m)) L (run_r offset code c L r m)

-- What a variable has gathered from its edges so far: nothing; or t₁ + r₁ of its first, r₁ the new message, and (new − old) of each later one.
pub record Sum : Type 0 where
  pub seen : Bool
  pub total : ℤ

abbrev pub nothing : Sum
nothing = record { seen = false; total = pos 0 }

abbrev pub gather : ℤ → ℤ → ℤ → Sum → Sum
gather t new old a = record { seen = true; total = cond a.seen (a.total +ℤ (new -ℤ old)) (t +ℤ new) }

-- Clamped once. A variable with no edge in the run keeps its value.
abbrev pub settle : Sum → ℤ → ℤ
settle a L = cond a.seen (sat_z a.total) L

-- A run's values: edge e's variable, L and the messages at the run's start, the messages at its end.
pub record Run : Type 0 where
  pub v : ℕ → ℕ
  pub L : ℕ → ℤ
  pub old : ℕ → ℤ
  pub new : ℕ → ℤ

-- what variable u gathers from edge e, from d edges that begin at s, and from the first m checks of the run
unfoldable pub gather_edge : Run → ℕ → ℕ → Sum → Sum
gather_edge w u e a = cond (eqb (w.v e) u) (gather (sat_z (w.L u -ℤ w.old e)) (w.new e) (w.old e) a) a

unfoldable pub gather_check : Run → ℕ → ℕ → ℕ → Sum → Sum
gather_check w u s zero a = a
gather_check w u s (suc d) a = gather_edge w u (s + d) (gather_check w u s d a)

unfoldable pub gather_run : Run → Code → (ℕ → ℕ) → ℕ → ℕ → Sum
gather_run w code c u zero = nothing
gather_run w code c u (suc m) = gather_check w u (code.row_start (c m)) (degree code (c m)) (gather_run w code c u m)

abbrev pub run_of : ℤ → Code → (ℕ → ℕ) → ℕ → Word → Run
run_of offset code c m w = record { v = code.rows; L = w.L; old = w.r; new = run_r offset code c w.L w.r m }

unfoldable pub run : ℤ → Code → (ℕ → ℕ) → ℕ → Word → Word
run offset code c m w =
    record {
      L = λ u. settle (gather_run (run_of offset code c m w) code c u m) (w.L u);
      r = run_r offset code c w.L w.r m;
    }

-- Run j with step s of layer l: the checks l + iq, i from js on, s of them or what is left of 374.
abbrev pub in_run : ℕ → ℕ → ℕ → ℕ → ℕ → ℕ
in_run q s l j i = l + (j * s + i) * q

abbrev pub run_size : ℕ → ℕ → ℕ
run_size s j = min s (374 - j * s)

-- The first j runs of a layer:
unfoldable pub runs : ℤ → Code → ℕ → ℕ → ℕ → ℕ → Word → Word
runs offset code q s l zero w = w
runs offset code q s l (suc j) w = run offset code (in_run q s l j) (run_size s j) (runs offset code q s l j w)

-- as many runs as 374 checks make, the last shorter; 374 or more means the whole layer
abbrev pub run_count : ℕ → ℕ
run_count s = (373 + s) / s

-- Layers 0 to q − 1: the first l of them.
unfoldable pub layers : ℤ → Code → ℕ → ℕ → ℕ → Word → Word
layers offset code q s zero w = w
layers offset code q s (suc l) w = runs offset code q s l (run_count s) (layers offset code q s l w)

abbrev pub layered : ℤ → Code → ℕ → ℕ → Word → Word
layered offset code q s w = layers offset code q s q w

-- ---- By the schedule: sequential, or layered with its step. q = P / 374.
unfoldable pub iteration_of : Bool → ℕ → ℤ → Code → ℕ → Word → Word
iteration_of false step offset code p x = sequential offset code p x
iteration_of true step offset code p x = layered offset code (p / 374) step x

-- ---- Hard decisions: 1 where L < 0.
abbrev pub hard : ℤ → ℕ
hard z = cond (negative z) 1 0

-- How many of d edges from s have a negative L; the check is unsatisfied (1) where that is odd. A repeated variable counts as often as it occurs.
unfoldable pub negatives : (ℕ → ℕ) → ℕ → ℕ → (ℕ → ℤ) → ℕ
negatives v s zero L = 0
negatives v s (suc d) L = negatives v s d L + hard (L (v (s + d)))

unfoldable pub unsatisfied : (ℕ → ℕ) → ℕ → ℕ → (ℕ → ℤ) → ℕ
unsatisfied v s d L = negatives v s d L % 2

-- How many of the first p checks are unsatisfied.
unfoldable pub unsatisfied_count : Code → ℕ → (ℕ → ℤ) → ℕ
unsatisfied_count code zero L = 0
unsatisfied_count code (suc p) L = unsatisfied_count code p L + unsatisfied code.rows (code.row_start p) (degree code p) L
