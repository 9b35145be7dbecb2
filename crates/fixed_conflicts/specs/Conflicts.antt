-- What is worked out of an accepted code's addresses, and what it says of the code's lists.
--
-- In order: the table of an accepted code (`Spanned`); where rows begin; an information bit of a row that is not flagged; a parity bit, unless q = 1;
-- the edges of a row in a check's list; what a layer's runs count on (`shares`).
--
-- Not here: how the table is made (Marks); how often a bit stands in a layer's lists (Count).
use Rattle.std.proofs.Common.{◌≡◌, Bool, true, false, ℕ, zero, suc, ◌+◌, ◌*◌, ◌-◌, ◌/◌, ◌%◌, ◌≤◌, ◌<◌, take, drop, ◌∙◌, true≢false, mul-div_cancel, mod-eq_of_lt, mul-le-mul_right, add-one, get_or-take, get_or-drop, List, [], ◌∷◌, ◌++◌, arith, ltb-false, eq-eqb, eqb-true}
use Rattle.std.proofs.Math.Path.{refl, sym, ap, subst}
use Rattle.std.proofs.Math.Nat.{add-mul-mod_self_right}
use Rattle.std.proofs.Math.Decide.{ℕ_discrete, dec_lt}
use Rattle.std.proofs.Math.ListN.{length, get_or, length-append, get_or-append}
use Rattle.std.proofs.Math.Seq.{get_or-append-add}
use Rattle.iteration.specs.Iteration.{degree}
use Rattle.iteration.specs.Once.{shared_in, Once}
use Rattle.ldpc_shape.specs.Shape.{k_of, p_of, q_of, rows_of, total, count_mod}
use Rattle.ldpc_shape.specs.Accepted.{Accepted, p_is, p_pos, q_pos, n_is}
use Rattle.ldpc_edges.specs.Code.{only, meets, of_rows, stairs, check, edge_lists}
use Rattle.ldpc_edges.proofs.Degree.{met_by}
use Rattle.iteration.specs.ListsLaws.{start_in, degree_in}
use Rattle.iteration.specs.Lists.{Lists, edges_in, code_in}
use Rattle.iteration.specs.CodeLaws.{lists_in, laid_in}
use Rattle.fixed_conflicts.specs.Table.{spans_length, Split, Shares, Flagged, span_at}
use Rattle.fixed_conflicts.specs.Edges.{row_of, parity_without, parity_once, stairs_below, stairs_from, check_length}
use Rattle.fixed_conflicts.specs.Count.{occurs, occurs_one, occurs_two, sum_up, sum_one, sum_two, layer_occurs, rows_own}
use Rattle.fixed_conflicts.specs.Spans.{span_of, span_next, span_within, span_all, groups_below, groups_from}

-- where each row's edges begin in the checks of each layer; behind the last row the parity bits, two or one
pub record Spanned (n : ℕ) (lens addrs table : List ℕ) : Type 0 where
  pub long : length table ≡ spans_length
  pub rows : (g l : ℕ) → g ≤ length lens → l < q_of n lens → span_at table l g ≡ span_of (q_of n lens) l lens addrs g
  pub parity : (l : ℕ) → l < q_of n lens → span_at table l (length lens + 1) ≡ span_of (q_of n lens) l lens addrs (length lens) + 2

-- ---- where rows begin
pub total_next : (lens : List ℕ) (g : ℕ) → g < length lens → total (take (suc g) lens) ≡ total (take g lens) + get_or lens g 0
unfolding total
total_next [] g h = absurd (omega (arith, h))
total_next (l ∷ lens) zero h = omega arith
total_next (l ∷ lens) (suc g) h = let z = total_next lens g (omega arith) in omega arith

pub total_within : (lens : List ℕ) (g : ℕ) → total (take g lens) ≤ total lens
unfolding total
total_within [] zero = omega arith
total_within [] (suc g) = omega arith
total_within (l ∷ lens) zero = omega arith
total_within (l ∷ lens) (suc g) = let z = total_within lens g in omega arith

apart : (q l x y : ℕ) → 0 < q → l + x * q ≡ l + y * q → x ≡ y
apart q l x y pos e = let z : x * q ≡ y * q = omega arith in sym (mul-div_cancel x pos) ∙ ap (λ (k : ℕ). k / q) z ∙ mul-div_cancel y pos

-- two checks of a layer do not stand side by side
beside : (q l x y : ℕ) → 2 ≤ q → l + x * q + 1 ≡ l + y * q → ⊥
beside q l x y h e = go (dec_lt x y)
  where
    go : Dec (x < y) → ⊥
    go (yes k) = let z : (x + 1) * q ≤ y * q = mul-le-mul_right q (omega arith) in omega arith
    go (no k) = let z : y * q ≤ x * q = mul-le-mul_right q (omega arith) in omega arith

module _ (n : ℕ) (lens addrs : List ℕ) (A : Accepted n lens addrs) (lists : List ℕ) (is : lists ≡ edge_lists n lens addrs) where
  -- the code's edges are the checks' lists
  degree_is : (c : ℕ) → c < p_of n lens → degree (code_in (p_of n lens) lists) c ≡ length (check n lens addrs c)
  degree_is c h = degree_in (p_of n lens) lists c (get_or lists c 0) (length (check n lens addrs c)) h refl (sym ((laid_in n lens addrs A lists is).next c h))

  edge_is : (c k : ℕ) → c < p_of n lens → k < length (check n lens addrs c) → (code_in (p_of n lens) lists).rows ((code_in (p_of n lens) lists).row_start c + k) ≡ get_or (check n lens addrs c) k 0
  edge_is c k h q =
      let d : get_or lists (c + 1) 0 - get_or lists c 0 ≡ length (check n lens addrs c) = omega (arith, (laid_in n lens addrs A lists is).next c h) in
      ap (λ (z : ℕ). get_or (drop (p_of n lens + 1) lists) (z + k) 0) (start_in (p_of n lens) lists c (omega arith))
      ∙ ap (λ (z : ℕ). get_or (drop z lists) (get_or lists c 0 + k) 0) (add-one (p_of n lens))
      ∙ sym (get_or-drop (get_or lists c 0) (drop (suc (p_of n lens)) lists) k 0)
      ∙ sym (get_or-take (get_or lists (c + 1) 0 - get_or lists c 0) (drop (get_or lists c 0) (drop (suc (p_of n lens)) lists)) k 0 (omega arith))
      ∙ ap (λ (l : List ℕ). get_or l k 0) ((laid_in n lens addrs A lists is).part c h)

  hit_of : (u c k : ℕ) → c < p_of n lens → k < degree (code_in (p_of n lens) lists) c → (code_in (p_of n lens) lists).rows ((code_in (p_of n lens) lists).row_start c + k) ≡ u
      → (k < length (check n lens addrs c)) × (get_or (check n lens addrs c) k 0 ≡ u)
  hit_of u c k h q e = let j : k < length (check n lens addrs c) = omega (arith, degree_is c h) in (j, sym (edge_is c k h j) ∙ e)

  module _ {table : List ℕ} (w : Spanned n lens addrs table) where
    -- ---- an information bit of a row that is not flagged
    module _ (l : ℕ) (h : l < q_of n lens) {flags : List Bool} {any : Bool} (fl : Flagged table (length lens) (q_of n lens) l (length lens) flags any) where
      check_in : (x : ℕ) → x < 374 → l + x * q_of n lens < p_of n lens
      check_in x k =
          let z : (x + 1) * q_of n lens ≤ 374 * q_of n lens = mul-le-mul_right (q_of n lens) (omega arith) in
          omega (arith, p_is n lens addrs A)

      few_of : (v : ℕ) → v < k_of lens → shared_in flags v ≡ false → count_mod (q_of n lens) l (row_of lens addrs (v / 374)) ≤ 1
      unfolding k_of
      few_of v k e =
          let g = v / 374 in
          let i : g < length lens = omega arith in
          let z : span_at table l (g + 1) ≡ span_at table l (suc g) = ap (span_at table l) (add-one g) in
          omega (
            arith,
            ltb-false (span_at table l g + 1) (span_at table l (g + 1)) (sym (fl.of_row g i) ∙ e),
            w.rows g l (omega arith) h,
            w.rows (suc g) l (omega arith) h,
            span_next (q_of n lens) l lens addrs g i,
          )

      -- of a check's list it stands among the information bits
      only_hit : (v c k : ℕ) → v < k_of lens → k < length (check n lens addrs c) → get_or (check n lens addrs c) k 0 ≡ v
          → (k < length (only c (meets n lens addrs))) × (get_or (only c (meets n lens addrs)) k 0 ≡ v)
      unfolding check
      only_hit v c k b q e = go (dec_lt k (length (only c (meets n lens addrs))))
        where
          go : Dec (k < length (only c (meets n lens addrs))) → (k < length (only c (meets n lens addrs))) × (get_or (only c (meets n lens addrs)) k 0 ≡ v)
          go (yes r) = (r, sym (get_or-append (only c (meets n lens addrs)) (stairs (k_of lens) c) 0 k r) ∙ e)
          go (no r) =
              let j = length (only c (meets n lens addrs)) in
              let z : j + (k - j) ≡ k = omega arith in
              absurd (stairs_below (k_of lens) c v b (k - j) (omega (arith, length-append (only c (meets n lens addrs)) (stairs (k_of lens) c)))
              (sym (get_or-append-add (only c (meets n lens addrs)) (stairs (k_of lens) c) (k - j) 0) ∙ ap (λ (y : ℕ). get_or (only c (meets n lens addrs) ++ stairs (k_of lens) c) y 0) z ∙ e))

      layer_one : (v : ℕ) → count_mod (q_of n lens) l (row_of lens addrs (v / 374)) ≤ 1 → sum_up (λ x. occurs v (only (l + x * q_of n lens) (meets n lens addrs))) 374 ≤ 1
      unfolding meets
      layer_one v few =
          subst (λ (z : ℕ). sum_up (λ x. occurs v (only (l + x * q_of n lens) (of_rows z (q_of n lens) 0 (rows_of lens addrs)))) 374 ≤ 1) (sym (p_is n lens addrs A))
          (omega (
            arith,
            layer_occurs (q_of n lens) l h v 374 (of_rows (374 * q_of n lens) (q_of n lens) 0 (rows_of lens addrs)),
            rows_own (q_of n lens) l h v 0 lens addrs (λ g t a b e. let z : v / 374 ≡ g = omega arith in subst (λ (y : ℕ). count_mod (q_of n lens) l (row_of lens addrs y) ≤ 1) z few) (omega arith),
          ))

      bit_once : (v : ℕ) → v < k_of lens → shared_in flags v ≡ false → Once (code_in (p_of n lens) lists) (λ x. l + x * q_of n lens) 374 v
      bit_once v b e =
          record {
            one = λ x k y j x' y' q r f g. let s = hit_of v (l + x * q_of n lens) k (check_in x x') q f in let t = hit_of v (l + y * q_of n lens) j (check_in y y') r g in
                same x k y j x' y' (only_hit v (l + x * q_of n lens) k b s.0 s.1) (only_hit v (l + y * q_of n lens) j b t.0 t.1);
          }
        where
          sum : sum_up (λ x. occurs v (only (l + x * q_of n lens) (meets n lens addrs))) 374 ≤ 1
          sum = layer_one v (few_of v b e)

          same : (x k y j : ℕ) → x < 374 → y < 374
              → (k < length (only (l + x * q_of n lens) (meets n lens addrs))) × (get_or (only (l + x * q_of n lens) (meets n lens addrs)) k 0 ≡ v)
              → (j < length (only (l + y * q_of n lens) (meets n lens addrs))) × (get_or (only (l + y * q_of n lens) (meets n lens addrs)) j 0 ≡ v)
              → (x ≡ y) × (k ≡ j)
          same x k y j x' y' s t = order (dec_lt x y) (dec_lt y x)
            where
              one_x : 1 ≤ occurs v (only (l + x * q_of n lens) (meets n lens addrs))
              one_x = occurs_one v (only (l + x * q_of n lens) (meets n lens addrs)) k s.0 s.1

              one_y : 1 ≤ occurs v (only (l + y * q_of n lens) (meets n lens addrs))
              one_y = occurs_one v (only (l + y * q_of n lens) (meets n lens addrs)) j t.0 t.1

              within : x ≡ y → Dec (k < j) → Dec (j < k) → k ≡ j
              within e (yes d) f =
                  absurd (omega (
                    arith,
                    occurs_two v (only (l + x * q_of n lens) (meets n lens addrs)) k j d (subst (λ (z : ℕ). j < length (only (l + z * q_of n lens) (meets n lens addrs))) (sym e) t.0) s.1 (subst (λ (z : ℕ). get_or (only (l + z * q_of n lens) (meets n lens addrs)) j 0 ≡ v) (sym e) t.1),
                    sum_one (λ x. occurs v (only (l + x * q_of n lens) (meets n lens addrs))) 374 x x',
                    sum,
                  ))
              within e (no d) (yes f) =
                  absurd (omega (
                    arith,
                    occurs_two v (only (l + x * q_of n lens) (meets n lens addrs)) j k f s.0 (subst (λ (z : ℕ). get_or (only (l + z * q_of n lens) (meets n lens addrs)) j 0 ≡ v) (sym e) t.1) s.1,
                    sum_one (λ x. occurs v (only (l + x * q_of n lens) (meets n lens addrs))) 374 x x',
                    sum,
                  ))
              within e (no d) (no f) = omega arith

              order : Dec (x < y) → Dec (y < x) → (x ≡ y) × (k ≡ j)
              order (yes d) f = absurd (omega (arith, sum_two (λ x. occurs v (only (l + x * q_of n lens) (meets n lens addrs))) 374 x y d y', one_x, one_y, sum))
              order (no d) (yes f) = absurd (omega (arith, sum_two (λ x. occurs v (only (l + x * q_of n lens) (meets n lens addrs))) 374 y x f x', one_x, one_y, sum))
              order (no d) (no f) = let e : x ≡ y = omega arith in (e, within e (dec_lt k j) (dec_lt j k))

      -- ---- a parity bit, unless q = 1
      layers_of : (v : ℕ) → k_of lens ≤ v → v < n → shared_in flags v ≡ false → 2 ≤ q_of n lens
      unfolding k_of
      layers_of v b i e = go (ℕ_discrete (q_of n lens) 1)
        where
          go : Dec (q_of n lens ≡ 1) → 2 ≤ q_of n lens
          go (no m) = omega (arith, q_pos n lens addrs A)
          go (yes m) =
              let z : v / 374 ≡ length lens = omega (arith, n_is n lens addrs A, p_is n lens addrs A, m) in
              absurd (true≢false (sym (ap (λ (y : ℕ). get_or flags y false) z ∙ fl.of_parity ∙ eq-eqb (q_of n lens) 1 m) ∙ e))

      parity_at : (y c k : ℕ) → c < p_of n lens → (k < length (check n lens addrs c)) × (get_or (check n lens addrs c) k 0 ≡ k_of lens + y) → (y ≡ c → ⊥) → y + 1 ≡ c
      parity_at y c k b s d = go (ℕ_discrete (y + 1) c)
        where
          go : Dec (y + 1 ≡ c) → y + 1 ≡ c
          go (yes e) = e
          go (no e) = absurd (parity_without n lens addrs c y (p_pos n lens addrs A) d e k s.0 s.1)

      parity_once_in : (v : ℕ) → k_of lens ≤ v → v < n → shared_in flags v ≡ false → Once (code_in (p_of n lens) lists) (λ x. l + x * q_of n lens) 374 v
      parity_once_in v b i e =
          record {
            one = λ x k z j x' z' q r f g.
                let s = subst (λ (u : ℕ). (k < length (check n lens addrs (l + x * q_of n lens))) × (get_or (check n lens addrs (l + x * q_of n lens)) k 0 ≡ u)) (sym v_is) (hit_of v (l + x * q_of n lens) k (check_in x x') q f) in
                let t = subst (λ (u : ℕ). (j < length (check n lens addrs (l + z * q_of n lens))) × (get_or (check n lens addrs (l + z * q_of n lens)) j 0 ≡ u)) (sym v_is) (hit_of v (l + z * q_of n lens) j (check_in z z') r g) in
                both x k z j x' z' s t (ℕ_discrete y (l + x * q_of n lens)) (ℕ_discrete y (l + z * q_of n lens));
          }
        where
          y : ℕ
          y = v - k_of lens

          v_is : k_of lens + y ≡ v
          v_is = omega arith

          two : 2 ≤ q_of n lens
          two = layers_of v b i e

          done : (x k z j : ℕ) → x < 374 → z < 374 → (k < length (check n lens addrs (l + x * q_of n lens))) × (get_or (check n lens addrs (l + x * q_of n lens)) k 0 ≡ k_of lens + y)
              → (j < length (check n lens addrs (l + z * q_of n lens))) × (get_or (check n lens addrs (l + z * q_of n lens)) j 0 ≡ k_of lens + y)
              → l + x * q_of n lens ≡ l + z * q_of n lens → (x ≡ z) × (k ≡ j)
          done x k z j x' z' s t e =
              let r = apart (q_of n lens) l x z (q_pos n lens addrs A) e in (
                r,
                parity_once n lens addrs (l + x * q_of n lens) y (p_pos n lens addrs A) k j s.0 (subst (λ (c : ℕ). j < length (check n lens addrs c)) (sym e) t.0) s.1 (subst (λ (c : ℕ). get_or (check n lens addrs c) j 0 ≡ k_of lens + y) (sym e) t.1),
              )

          both : (x k z j : ℕ) → x < 374 → z < 374 → (k < length (check n lens addrs (l + x * q_of n lens))) × (get_or (check n lens addrs (l + x * q_of n lens)) k 0 ≡ k_of lens + y)
              → (j < length (check n lens addrs (l + z * q_of n lens))) × (get_or (check n lens addrs (l + z * q_of n lens)) j 0 ≡ k_of lens + y) → Dec (y ≡ l + x * q_of n lens)
              → Dec (y ≡ l + z * q_of n lens)
              → (x ≡ z) × (k ≡ j)
          both x k z j x' z' s t (yes c) (yes d) = done x k z j x' z' s t (sym c ∙ d)
          both x k z j x' z' s t (yes c) (no d) = absurd (beside (q_of n lens) l x z two (ap (λ (u : ℕ). u + 1) (sym c) ∙ parity_at y (l + z * q_of n lens) j (check_in z z') t d))
          both x k z j x' z' s t (no c) (yes d) = absurd (beside (q_of n lens) l z x two (ap (λ (u : ℕ). u + 1) (sym d) ∙ parity_at y (l + x * q_of n lens) k (check_in x x') s c))
          both x k z j x' z' s t (no c) (no d) = done x k z j x' z' s t (sym (parity_at y (l + x * q_of n lens) k (check_in x x') s c) ∙ parity_at y (l + z * q_of n lens) j (check_in z z') t d)

      -- ---- the edges of a row in a check's list
      module _ (x k : ℕ) (x' : x < 374) where
        abbrev c : ℕ
        c = l + x * q_of n lens

        c_mod : c % q_of n lens ≡ l
        c_mod = add-mul-mod_self_right l x (q_of n lens) ∙ mod-eq_of_lt h

        c_in : c < 374 * q_of n lens
        c_in = subst (λ (z : ℕ). c < z) (p_is n lens addrs A) (check_in x x')

        abbrev bits : List ℕ
        bits = only c (meets n lens addrs)

        bits_is : bits ≡ only c (of_rows (374 * q_of n lens) (q_of n lens) 0 (rows_of lens addrs))
        unfolding meets
        bits_is = ap (λ (P : ℕ). only c (of_rows P (q_of n lens) 0 (rows_of lens addrs))) (p_is n lens addrs A)

        span_is : (g : ℕ) → g ≤ length lens → span_at table l g ≡ span_of (q_of n lens) (c % q_of n lens) lens addrs g
        span_is g i = w.rows g l i h ∙ ap (λ (z : ℕ). span_of (q_of n lens) z lens addrs g) (sym c_mod)

        count : length bits ≡ span_at table l (length lens)
        count = met_by n lens addrs A c (check_in x x') ∙ sym (span_is (length lens) (omega arith) ∙ span_all (q_of n lens) (c % q_of n lens) lens addrs A.adds)

        span_below : (g : ℕ) → g ≤ length lens → span_at table l g ≤ length bits
        span_below g i = omega (arith, span_is g i, span_within (q_of n lens) (c % q_of n lens) lens addrs g, met_by n lens addrs A c (check_in x x'))

        row_below : (g : ℕ) → g ≤ length lens → k < span_at table l g → get_or (check n lens addrs c) k 0 < 374 * g
        unfolding check
        row_below g i r =
            let j : k < length bits = omega (arith, span_below g i) in
            omega (
              arith,
              get_or-append bits (stairs (k_of lens) c) 0 k j,
              ap (λ (z : List ℕ). get_or z k 0) bits_is,
              groups_below (q_of n lens) c (q_pos n lens addrs A) c_in 0 lens addrs g k (omega (arith, span_is g i)) (omega (arith, ap length bits_is)),
            )

        row_from : (g : ℕ) → g ≤ length lens → k < length (check n lens addrs c) → span_at table l g ≤ k → 374 * g ≤ get_or (check n lens addrs c) k 0
        unfolding check k_of
        row_from g i q r = go (dec_lt k (length bits))
          where
            go : Dec (k < length bits) → 374 * g ≤ get_or (bits ++ stairs (374 * length lens) c) k 0
            go (yes j) =
                omega (
                  arith,
                  get_or-append bits (stairs (374 * length lens) c) 0 k j,
                  ap (λ (z : List ℕ). get_or z k 0) bits_is,
                  groups_from (q_of n lens) c (q_pos n lens addrs A) c_in 0 lens addrs g k i (omega (arith, span_is g i)) (omega (arith, ap length bits_is)),
                )
            go (no j) =
                let b = length bits in
                let z : b + (k - b) ≡ k = omega arith in
                omega (
                  arith,
                  get_or-append-add bits (stairs (374 * length lens) c) (k - b) 0,
                  ap (λ (y : ℕ). get_or (bits ++ stairs (374 * length lens) c) y 0) z,
                  stairs_from (374 * length lens) c (k - b) (omega (arith, length-append bits (stairs (374 * length lens) c))),
                )

        -- of a flagged row
        fits_of : (g : ℕ) → get_or flags g false ≡ true → (span_at table l g ≤ length (check n lens addrs c)) × (span_at table l g ≤ span_at table l (g + 1))
        unfolding check
        fits_of g e = go (dec_lt g (length lens)) (ℕ_discrete g (length lens))
          where
            go : Dec (g < length lens) → Dec (g ≡ length lens) → (span_at table l g ≤ length (bits ++ stairs (k_of lens) c)) × (span_at table l g ≤ span_at table l (g + 1))
            go (yes i) d =
                let y = ap (span_of (q_of n lens) l lens addrs) (add-one g) in (
                  omega (arith, span_below g (omega arith), length-append bits (stairs (k_of lens) c)),
                  omega (arith, w.rows g l (omega arith) h, w.rows (g + 1) l (omega arith) h, span_next (q_of n lens) l lens addrs g i),
                )
            go (no i) (yes d) =
                let y = ap (λ (j : ℕ). span_at table l (j + 1)) d in
                let z = ap (span_at table l) d in (
                  omega (arith, span_below g (omega arith), length-append bits (stairs (k_of lens) c)),
                  omega (arith, w.parity l h, w.rows (length lens) l (omega arith) h),
                )
            go (no i) (no d) = absurd (true≢false (sym e ∙ fl.others g (omega arith) d))

        split_of : (g v : ℕ) → get_or flags g false ≡ true → k < length (check n lens addrs c) → get_or (check n lens addrs c) k 0 ≡ v → v < n
            → Split (span_at table l g) (span_at table l (g + 1)) (374 * g) k v
        unfolding k_of
        split_of g v e q f b = go (dec_lt g (length lens)) (ℕ_discrete g (length lens))
          where
            go : Dec (g < length lens) → Dec (g ≡ length lens) → Split (span_at table l g) (span_at table l (g + 1)) (374 * g) k v
            go (yes i) d =
                record {
                  before = λ r. omega (arith, row_below g (omega arith) r);
                  from = λ r. omega (arith, row_from g (omega arith) q r);
                  upto = λ r. omega (arith, row_below (g + 1) (omega arith) r);
                  behind = λ r. omega (arith, row_from (g + 1) (omega arith) q r);
                }
            go (no i) (yes d) =
                let one : q_of n lens ≡ 1 = eqb-true (q_of n lens) 1 (sym fl.of_parity ∙ ap (λ (y : ℕ). get_or flags y false) (sym d) ∙ e) in
                let z = ap (λ (y : ℕ). span_at table l (y + 1)) d in
                record {
                  before = λ r. omega (arith, row_below g (omega arith) r);
                  from = λ r. omega (arith, row_from g (omega arith) q r);
                  upto = λ r. omega (arith, n_is n lens addrs A, p_is n lens addrs A);
                  behind = λ r. absurd (omega (arith, w.parity l h, w.rows (length lens) l (omega arith) h, count, check_length n lens addrs c, q, span_is (length lens) (omega arith)));
                }
            go (no i) (no d) = absurd (true≢false (sym e ∙ fl.others g (omega arith) d))

      -- ---- so a layer's runs may count on it
      pub shares : Shares n (q_of n lens) (code_in (p_of n lens) lists) l 374 l table flags
      unfolding k_of
      shares =
          record {
            once = λ v e. go v e (dec_lt v (k_of lens)) (dec_lt v n);
            low = λ g e. below g e (dec_lt g (length lens)) (ℕ_discrete g (length lens));
            fits = λ g e x a. let f = fits_of x 0 a g e in (omega (arith, f.0, degree_is (l + x * q_of n lens) (check_in x a)), f.1);
            split = λ g e x k a b.
                let v = (code_in (p_of n lens) lists).rows ((code_in (p_of n lens) lists).row_start (l + x * q_of n lens) + k) in
                let s = hit_of v (l + x * q_of n lens) k (check_in x a) b refl in
                split_of x k a g v e s.0 s.1 (listed.variables _ (in_lists (l + x * q_of n lens) k (check_in x a) b));
          }
        where
          listed : Lists n (p_of n lens) lists
          listed = lists_in n lens addrs A lists is

          in_lists : (c k : ℕ) → c < p_of n lens → k < degree (code_in (p_of n lens) lists) c → (code_in (p_of n lens) lists).row_start c + k < edges_in (p_of n lens) lists
          in_lists c k a b =
              omega (arith, start_in (p_of n lens) lists c (omega arith), degree_in (p_of n lens) lists c (get_or lists c 0) (get_or lists (c + 1) 0 - get_or lists c 0) a refl (omega (arith, listed.ascend c a)), listed.ascend c a, listed.within (c + 1) (omega arith))

          go : (v : ℕ) → shared_in flags v ≡ false → Dec (v < k_of lens) → Dec (v < n) → Once (code_in (p_of n lens) lists) (λ x. l + x * q_of n lens) 374 v
          go v e (yes b) d = bit_once v b e
          go v e (no b) (yes d) = parity_once_in v (omega arith) d e
          go v e (no b) (no d) =
              record { one = λ x k y j x' y' q r f g. absurd (omega (arith, listed.variables ((code_in (p_of n lens) lists).row_start (l + x * q_of n lens) + k) (in_lists (l + x * q_of n lens) k (check_in x x') q), f, d)) }

          below : (g : ℕ) → get_or flags g false ≡ true → Dec (g < length lens) → Dec (g ≡ length lens) → 374 * g + 374 ≤ n
          below g e (yes i) d = omega (arith, n_is n lens addrs A)
          below g e (no i) (yes d) =
              omega (arith, n_is n lens addrs A, p_is n lens addrs A, eqb-true (q_of n lens) 1 (sym fl.of_parity ∙ ap (λ (y : ℕ). get_or flags y false) (sym d) ∙ e))
          below g e (no i) (no d) = absurd (true≢false (sym e ∙ fl.others g (omega arith) d))
