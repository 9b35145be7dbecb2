-- A run of checks: what its calls may count on, of the code and of the memory.
use Rattle.std.specs.Prelude.{◌≡◌, refl, List, ℕ, ◌+◌, ◌*◌, ◌≤◌, ◌<◌, get_or, length, ℤ}
use Rattle.std.proofs.Common.{ap, arith, add-one, mul-le-mul_left}
use Rattle.iteration.specs.ListsLaws.{degree_in, order}
use Rattle.iteration.specs.Lists.{Lists, edges_in, code_in}
use Rattle.iteration.specs.Full.{place_of}
use Rattle.iteration.specs.Once.{stepped}
use Rattle.fixed_code.specs.declared.CodeLists.{CodeLists}
use Rattle.fixed_layered.specs.Order.{place_ends}
use Rattle.lane16.specs.Memory.{CheckMemory}

-- the run's checks are checks; E is small enough for sums of 32 bits
pub record InRun (n p first q m : ℕ) (lists : List ℕ) : Type 0 where
  pub lists_right : Lists n p lists
  pub inside : (x : ℕ) → x < m → stepped first q x < p
  pub step : 0 < q
  pub few_edges : edges_in p lists ≤ 6000000
  pub few_checks : p ≤ 44880
  pub few_bits : n ≤ 44880

-- the memory has the code's n + 3E rows
abbrev pub Fits : CodeLists → ℕ → List ℤ → Type 0
Fits code lanes a = (code.n + 3 * edges_in code.p code.lists.now) * lanes ≤ length a

-- and every lane has 374 sums
abbrev pub Room : CodeLists → ℕ → List ℤ → List ℤ → Type 0
Room code lanes a sums = Fits code lanes a × (374 * lanes ≤ length sums)

-- the place of the check behind
pub place_next : (p : ℕ) (lists : List ℕ) (first q x pl s d : ℕ) → stepped first q x < p → s ≡ get_or lists (stepped first q x) 0 → s + d ≡ get_or lists (stepped first q x + 1) 0
    → pl ≡ place_of (code_in p lists) (stepped first q) x → pl + d ≡ place_of (code_in p lists) (stepped first q) (x + 1)
unfolding place_of
place_next p lists first q x pl s d h e f g = omega (arith, ap (place_of (code_in p lists) (stepped first q)) (add-one x), degree_in p lists (stepped first q x) s d h e f)

pub place_first : (p : ℕ) (lists : List ℕ) (first q : ℕ) → 0 ≡ place_of (code_in p lists) (stepped first q) 0
unfolding place_of
place_first p lists first q = refl

-- a check's edges are inside, from its place on
pub place_room : {n p first q m : ℕ} {lists : List ℕ} (x pl s d : ℕ) → InRun n p first q m lists → x < m → s ≡ get_or lists (stepped first q x) 0
    → s + d ≡ get_or lists (stepped first q x + 1) 0 → pl ≡ place_of (code_in p lists) (stepped first q) x → pl + d ≤ edges_in p lists
place_room {n} {p} {first} {q} {m} {lists} x pl s d r h e f g =
    omega (arith, place_ends (order r.lists_right first q m r.step r.inside) x h, degree_in p lists (stepped first q x) s d (r.inside x h) e f)

-- a run has few checks
pub few_turns : {n p first q m : ℕ} {lists : List ℕ} (x : ℕ) → InRun n p first q m lists → x < m → x < 44880
few_turns {n} {p} {first} {q} x r h = let z : x * 1 ≤ x * q = mul-le-mul_left x r.step in omega (arith, r.inside x h, r.few_checks)

-- one edge of a check
pub edge_room : {rows : List ℕ} {s d n lanes : ℕ} {a : List ℤ} (k : ℕ) → k < d → CheckMemory rows s d n lanes a → CheckMemory rows (s + k) 1 n lanes a
edge_room k h r =
    record {
      edges = omega (arith, r.edges);
      degree = omega arith;
      variables = r.variables;
      long = r.long;
      many = r.many;
      some_lanes = r.some_lanes;
    }
