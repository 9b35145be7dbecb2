-- A check, and its passes over the memory.
use Rattle.std.specs.Prelude.{ℕ, List, ℤ, ◌+◌, ◌*◌, ◌≤◌, length}
use Rattle.lane16.specs.declared.Pass.{Pass}
use Rattle.lane16.specs.declared.Ready.{Ready}
use Rattle.iteration.specs.Lists.{var}
use Rattle.simd.specs.declared.check.Check.{Check}
use Rattle.simd.specs.Pass.{Scan, Replied, RepliedTwo, check_column}

-- the memory has the n + 3E rows that a call on the check may count on
abbrev pub Fits : Check → List ℤ → Type 0
Fits check a = (check.n + 3 * length check.rows.now) * check.lanes ≤ length a

-- the first pass after k edges, of the sixteen lanes from at
abbrev pub Scanning : Check → ℕ → List ℤ → ℕ → List ℤ → Pass → Type 0
Scanning check at a k t st = Scan (var check.rows.now) check.s check.n check.lanes at a k t st.min1 st.min2 st.sign

-- the second pass after k edges, of the w lanes from at, and of two times sixteen
abbrev pub Answering : ℕ → Check → ℕ → List ℤ → Ready → List ℤ → ℕ → List ℤ → Type 0
Answering w check at t ready a k a' = Replied w (var check.rows.now) check.s check.n check.lanes at t ready.least ready.m1 ready.m2 a k a'

abbrev pub AnsweringTwo : Check → ℕ → List ℤ → Ready → List ℤ → Ready → List ℤ → ℕ → List ℤ → Type 0
AnsweringTwo check at t one u two a k a' =
    RepliedTwo (var check.rows.now) check.s check.n check.lanes at t one.least one.m1 one.m2 u two.least two.m1 two.m2 a k a'

-- the check on a column
abbrev pub checking : Check → ℤ → (ℕ → ℤ) → ℕ → ℤ
checking check o = check_column o (var check.rows.now) check.s check.d check.n
