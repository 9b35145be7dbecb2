-- What a call on the memory may count on: one slice of n + 3E rows, E edges, each of a variable below n.
use Rattle.std.specs.Prelude.{◌≡◌, List, ℕ, ◌+◌, ◌*◌, ◌≤◌, ◌<◌, get_or, length, ℤ}
use Rattle.std.proofs.Common.{arith, mul-le-mul_right}
use Rattle.iteration.specs.Lists.{var, rows_in, edges_in, Lists}
use Rattle.lane16.specs.ColumnLaws.{row_ends}

-- A check of d edges from edge s, at most 128. A code has 747 edges or more; from 16 on, the rows of the old messages alone are more
-- than the 15 bytes that a load of 16 reaches behind a row of values, messages or t.
pub record CheckRows (rows : List ℕ) (s d n lanes : ℕ) : Type 0 where
  pub edges : s + d ≤ length rows
  pub degree : d ≤ 128
  pub variables : (e : ℕ) → e < length rows → var rows e < n
  pub many : 16 ≤ length rows
  pub some_lanes : 0 < lanes

-- the same on a memory that is long enough
pub record CheckMemory (rows : List ℕ) (s d n lanes : ℕ) (a : List ℤ) : Type 0 where
  pub edges : s + d ≤ length rows
  pub degree : d ≤ 128
  pub variables : (e : ℕ) → e < length rows → var rows e < n
  pub long : (n + 3 * length rows) * lanes ≤ length a
  pub many : 16 ≤ length rows
  pub some_lanes : 0 < lanes

-- the same of a slice as long
pub check_memory_to : {rows : List ℕ} {s d n lanes : ℕ} {a b : List ℤ} → length b ≡ length a → CheckMemory rows s d n lanes a → CheckMemory rows s d n lanes b
check_memory_to e r =
    record {
      edges = r.edges;
      degree = r.degree;
      variables = r.variables;
      long = omega (arith, r.long, e);
      many = r.many;
      some_lanes = r.some_lanes;
    }

module _ {rows : List ℕ} {s d n lanes : ℕ} (r : CheckRows rows s d n lanes) where
  pub value_row : (k : ℕ) → k < d → var rows (s + k) < n
  value_row k q = r.variables (s + k) (omega (arith, r.edges))

-- of a memory of m bytes, n + 3E rows with stride lanes
module _ {rows : List ℕ} {s d n lanes m : ℕ} (r : CheckRows rows s d n lanes) (long : (n + 3 * length rows) * lanes ≤ m) where
  -- sixteen bytes from a lane of any row of values, messages or t are inside
  pub load_room : (u at : ℕ) → u < n + 2 * length rows → at < lanes → u * lanes + at + 16 ≤ m
  load_room u at h q =
      let e : 16 * lanes ≤ length rows * lanes = mul-le-mul_right lanes r.many in
      omega (arith, row_ends u (n + 2 * length rows) lanes h, long, r.some_lanes)

  -- and so is every row
  pub row_room : (u : ℕ) → u < n + 3 * length rows → u * lanes + lanes ≤ m
  row_room u h = omega (arith, row_ends u (n + 3 * length rows) lanes h, long)

  -- a row's number is no more than the bytes
  pub row_fits : (u : ℕ) → u ≤ n + 3 * length rows → u ≤ m
  row_fits u h =
      let q : 1 * (n + 3 * length rows) ≤ lanes * (n + 3 * length rows) = mul-le-mul_right (n + 3 * length rows) r.some_lanes in
      omega (arith, long)

-- ---- The memory: n + 3E rows with stride lanes.
pub record Memory (n p lanes : ℕ) (lists : List ℕ) (a : List ℤ) : Type 0 where
  pub lists_right : Lists n p lists
  pub long : (n + 3 * edges_in p lists) * lanes ≤ length a
  pub some_lanes : 0 < lanes

module _ {n p lanes : ℕ} {lists : List ℕ} {a : List ℤ} where
  pub memory_to : {b : List ℤ} → length b ≡ length a → Memory n p lanes lists a → Memory n p lanes lists b
  memory_to e m = record { lists_right = m.lists_right; long = omega (arith, m.long, e); some_lanes = m.some_lanes }

  -- d edges from s, of one check
  pub check_memory : (c s d : ℕ) → Memory n p lanes lists a → c < p → s ≡ get_or lists c 0 → s + d ≡ get_or lists (c + 1) 0 → CheckMemory (rows_in p lists) s d n lanes a
  check_memory c s d m h e f =
      record {
        edges = omega (arith, m.lists_right.within (c + 1) (omega arith));
        degree = omega (arith, m.lists_right.short c h);
        variables = m.lists_right.variables;
        long = m.long;
        many = m.lists_right.many;
        some_lanes = m.some_lanes;
      }

pub check_rows : {n p lanes : ℕ} {lists : List ℕ} (c s d : ℕ) → Lists n p lists → 0 < lanes → c < p → s ≡ get_or lists c 0 → s + d ≡ get_or lists (c + 1) 0 → CheckRows (rows_in p lists) s d n lanes
check_rows c s d l some h e f =
    record {
      edges = omega (arith, l.within (c + 1) (omega arith));
      degree = omega (arith, l.short c h);
      variables = l.variables;
      many = l.many;
      some_lanes = some;
    }

-- ---- how many lanes a chunk stores: 16, 8, 4 or 1
pub record Width (w : ℕ) : Type 0 where
  pub some : 0 < w
  pub few : w ≤ 16
  pub one_of : (w ≡ 16 → ⊥) → (w ≡ 8 → ⊥) → (w ≡ 4 → ⊥) → w ≡ 1
