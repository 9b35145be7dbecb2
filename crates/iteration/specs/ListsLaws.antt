-- What the code that lists say has of check c; its checks q apart stand in order.
use Rattle.std.specs.Prelude.{◌≡◌, refl, List, ℕ, zero, suc, ◌+◌, ◌*◌, ◌-◌, ◌≤◌, ◌<◌, get_or, length, take, drop}
use Rattle.std.proofs.Common.{sym, ap, arith, mul-le-mul_right, add-one, get_or-take}
use Rattle.laws.specs.Lists.{lent_from}
use Rattle.iteration.specs.Iteration.{degree}
use Rattle.iteration.specs.Lists.{Lists, rows_in, edges_in, code_in}
use Rattle.iteration.specs.Once.{stepped, Order}

-- the part that the program lends
pub rows_part : (p : ℕ) (lists : List ℕ) → take (length lists - (p + 1)) (drop (p + 1) lists) ≡ rows_in p lists
rows_part p lists = lent_from (p + 1) lists

-- what the code says of check c
pub start_in : (p : ℕ) (lists : List ℕ) (c : ℕ) → c ≤ p → (code_in p lists).row_start c ≡ get_or lists c 0
start_in p lists c h = get_or-take (p + 1) lists c 0 (omega arith)

pub degree_in : (p : ℕ) (lists : List ℕ) (c s d : ℕ) → c < p → s ≡ get_or lists c 0 → s + d ≡ get_or lists (c + 1) 0 → degree (code_in p lists) c ≡ d
degree_in p lists c s d h e f =
    let x = start_in p lists (c + 1) (omega arith) in
    let y = start_in p lists c (omega arith) in
    let z : (code_in p lists).row_start (suc c) ≡ (code_in p lists).row_start (c + 1) = ap (code_in p lists).row_start (sym (add-one c)) in
    omega arith

-- where check c's edges begin and end, of lists
module _ {n p : ℕ} {lists : List ℕ} (l : Lists n p lists) where
  pub ends_at : (c : ℕ) → c < p → (code_in p lists).row_start c + degree (code_in p lists) c ≡ get_or lists (c + 1) 0
  ends_at c h =
      omega (arith, start_in p lists c (omega arith), degree_in p lists c (get_or lists c 0) (get_or lists (c + 1) 0 - get_or lists c 0) h refl (omega (arith, l.ascend c h)), l.ascend c h)

  rises : (c d : ℕ) → c + d ≤ p → get_or lists c 0 ≤ get_or lists (c + d) 0
  rises c zero h = let e : c + 0 ≡ c = omega arith in omega (arith, ap (λ (z : ℕ). get_or lists z 0) e)
  rises c (suc d) h =
      let e : c + d + 1 ≡ c + suc d = omega arith in
      omega (arith, rises c d (omega arith), l.ascend (c + d) (omega arith), ap (λ (z : ℕ). get_or lists z 0) e)

  rise : (c d : ℕ) → c ≤ d → d ≤ p → get_or lists c 0 ≤ get_or lists d 0
  rise c d h k =
      let e : c + (d - c) ≡ d = omega arith in
      omega (arith, rises c (d - c) (omega arith), ap (λ (z : ℕ). get_or lists z 0) e)

  pub order : (first q m : ℕ) → 0 < q → ((x : ℕ) → x < m → stepped first q x < p) → Order (code_in p lists) (stepped first q) m (edges_in p lists) n
  order first q m pos inside =
      record {
        next =
            λ j x h k. let b = inside x k in
            let z : (j + 1) * q ≤ x * q = mul-le-mul_right q (omega arith) in
            let y : stepped first q j + 1 ≤ stepped first q x = omega arith in
            omega (arith, ends_at (stepped first q j) (omega arith), start_in p lists (stepped first q x) (omega arith), rise (stepped first q j + 1) (stepped first q x) y (omega arith));
        last = λ x k. omega (arith, ends_at (stepped first q x) (inside x k), l.within (stepped first q x + 1) (omega (arith, inside x k)));
        below =
            λ x k h q'. l.variables ((code_in p lists).row_start (stepped first q x) + k)
            (omega (arith, ends_at (stepped first q x) (inside x h), l.within (stepped first q x + 1) (omega (arith, inside x h))));
      }
