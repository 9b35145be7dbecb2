-- How often a bit stands in the lists of a layer's checks: not more often than its row has addresses equal to the layer modulo q.
--
-- In order: how often a number stands in a list (`occurs`); sums over the first checks; the checks of a layer (`layer_occurs`); of one bit, of a row's
-- bits, of all rows (`rows_own`).
use Rattle.std.proofs.Common.{◌≡◌, Bool, eqb, length, take, drop, get_or, sym, ◌∙◌, mod-eq_of_lt, mul-le-mul_right, div-add-mod', eqb-true, eq-eqb, ne_eqb, List, [], ◌∷◌, ◌++◌, ℕ, zero, suc, ◌+◌, ◌*◌, ◌-◌, ◌/◌, ◌%◌, ◌≤◌, ◌<◌, arith}
use Rattle.std.proofs.Math.Path.{refl, ap, ap₂, subst}
use Rattle.std.proofs.Math.Bool.{true, false, cond}
use Rattle.std.proofs.Math.Nat.{add-mul-mod_self_right}
use Rattle.std.proofs.Math.Decide.{ℕ_discrete, dec_lt}
use Rattle.std.proofs.lemmas.Bool.{eqb-false}
use Rattle.laws.specs.Choice.{same}
use Rattle.ldpc_shape.specs.Shape.{rows_of, total, count_mod}
use Rattle.ldpc_edges.specs.Code.{Edge, edge, met, of_bits, of_rows, only}
use Rattle.fixed_conflicts.specs.Edges.{row_of, row_next}

-- how often u stands in a list
unfoldable pub occurs : ℕ → List ℕ → ℕ
occurs u [] = 0
occurs u (x ∷ xs) = same x u + occurs u xs

same_is : (x u : ℕ) → x ≡ u → same x u ≡ 1
same_is x u e = ap {B = ℕ} (λ b. cond b 1 0) (eq-eqb x u e)

same_not : (x u : ℕ) → (x ≡ u → ⊥) → same x u ≡ 0
same_not x u e = ap {B = ℕ} (λ b. cond b 1 0) (ne_eqb x u e)

pub occurs_one : (u : ℕ) (xs : List ℕ) (k : ℕ) → k < length xs → get_or xs k 0 ≡ u → 1 ≤ occurs u xs
unfolding occurs
occurs_one u [] k h e = absurd (omega (arith, h))
occurs_one u (x ∷ xs) zero h e = omega (arith, same_is x u e)
occurs_one u (x ∷ xs) (suc k) h e = omega (arith, occurs_one u xs k (omega arith) e)

pub occurs_two : (u : ℕ) (xs : List ℕ) (k l : ℕ) → k < l → l < length xs → get_or xs k 0 ≡ u → get_or xs l 0 ≡ u → 2 ≤ occurs u xs
unfolding occurs
occurs_two u [] k l h q e f = absurd (omega (arith, q))
occurs_two u (x ∷ xs) zero zero h q e f = absurd (omega (arith, h))
occurs_two u (x ∷ xs) zero (suc l) h q e f = omega (arith, same_is x u e, occurs_one u xs l (omega arith) f)
occurs_two u (x ∷ xs) (suc k) zero h q e f = absurd (omega (arith, h))
occurs_two u (x ∷ xs) (suc k) (suc l) h q e f = omega (arith, occurs_two u xs k l (omega arith) (omega arith) e f)

-- ---- sums over the first m checks
unfoldable pub sum_up : (ℕ → ℕ) → ℕ → ℕ
sum_up f zero = 0
sum_up f (suc m) = sum_up f m + f m

pub sum_one : (f : ℕ → ℕ) (m x : ℕ) → x < m → f x ≤ sum_up f m
unfolding sum_up
sum_one f zero x h = absurd (omega (arith, h))
sum_one f (suc m) x h = go (ℕ_discrete x m) (sum_one f m x)
  where
    go : Dec (x ≡ m) → (x < m → f x ≤ sum_up f m) → f x ≤ sum_up f m + f m
    go (yes e) ih = omega (arith, ap f e)
    go (no e) ih = omega (arith, ih (omega arith))

pub sum_two : (f : ℕ → ℕ) (m x y : ℕ) → x < y → y < m → f x + f y ≤ sum_up f m
unfolding sum_up
sum_two f zero x y h q = absurd (omega (arith, q))
sum_two f (suc m) x y h q = go (ℕ_discrete y m) (sum_two f m x y h)
  where
    go : Dec (y ≡ m) → (y < m → f x + f y ≤ sum_up f m) → f x + f y ≤ sum_up f m + f m
    go (yes e) ih = omega (arith, ap f e, sum_one f m x (omega arith))
    go (no e) ih = omega (arith, ih (omega arith))

sum_same : (f g : ℕ → ℕ) (m : ℕ) → ((x : ℕ) → x < m → f x ≡ g x) → sum_up f m ≡ sum_up g m
unfolding sum_up
sum_same f g zero h = refl
sum_same f g (suc m) h = ap₂ (λ (a b : ℕ). a + b) (sum_same f g m (λ x q. h x (omega arith))) (h m (omega arith))

sum_plus : (f g h : ℕ → ℕ) (m : ℕ) → ((x : ℕ) → x < m → h x ≡ f x + g x) → sum_up h m ≡ sum_up f m + sum_up g m
unfolding sum_up
sum_plus f g h zero e = refl
sum_plus f g h (suc m) e = let a = sum_plus f g h m (λ x q. e x (omega arith)) in let b = e m (omega arith) in omega arith

sum_zero : (f : ℕ → ℕ) (m : ℕ) → ((x : ℕ) → x < m → f x ≡ 0) → sum_up f m ≡ 0
unfolding sum_up
sum_zero f zero h = refl
sum_zero f (suc m) h = let a = sum_zero f m (λ x q. h x (omega arith)) in let b = h m (omega arith) in omega arith

-- ---- the checks of layer l are l + x q
module _ (q l : ℕ) (h : l < q) where
  residue : (x : ℕ) → (l + x * q) % q ≡ l
  residue x = add-mul-mod_self_right l x q ∙ mod-eq_of_lt h

  apart : (x y : ℕ) → x < y → l + x * q ≡ l + y * q → ⊥
  apart x y k e = let z : (x + 1) * q ≤ y * q = mul-le-mul_right q (omega arith) in omega arith

  hits_one : (p m : ℕ) → sum_up (λ x. same p (l + x * q)) m ≤ 1
  unfolding sum_up
  hits_one p zero = omega arith
  hits_one p (suc m) = go (ℕ_discrete p (l + m * q)) (hits_one p m)
    where
      go : Dec (p ≡ l + m * q) → sum_up (λ x. same p (l + x * q)) m ≤ 1 → sum_up (λ x. same p (l + x * q)) m + same p (l + m * q) ≤ 1
      go (yes e) ih =
          let z = sum_zero (λ x. same p (l + x * q)) m (λ x k. same_not p (l + x * q) (λ f. apart x m k (sym f ∙ e))) in
          omega (arith, same_is p (l + m * q) e)
      go (no e) ih = omega (arith, same_not p (l + m * q) e)

  hits_le : (p m : ℕ) → sum_up (λ x. same p (l + x * q)) m ≤ same (p % q) l
  hits_le p m = go (ℕ_discrete (p % q) l)
    where
      go : Dec (p % q ≡ l) → sum_up (λ x. same p (l + x * q)) m ≤ same (p % q) l
      go (yes e) = omega (arith, hits_one p m, same_is (p % q) l e)
      go (no e) =
          let z = sum_zero (λ x. same p (l + x * q)) m (λ x k. same_not p (l + x * q) (λ f. e (ap (λ (y : ℕ). y % q) f ∙ residue x))) in
          omega arith

  -- the edges of bit u in the layer
  unfoldable pub in_layer : ℕ → List Edge → ℕ
  in_layer u [] = 0
  in_layer u (edge p b ∷ es) = cond (eqb b u) (same (p % q) l) 0 + in_layer u es

  pub layer_occurs : (u m : ℕ) (es : List Edge) → sum_up (λ x. occurs u (only (l + x * q) es)) m ≤ in_layer u es
  unfolding in_layer only occurs
  layer_occurs u m [] = let z = sum_zero (λ x. 0) m (λ x k. refl) in omega arith
  layer_occurs u m (edge p b ∷ es) = go (eqb b u) refl (layer_occurs u m es)
    where
      more : (x : ℕ) → occurs u (cond (eqb p (l + x * q)) (b ∷ only (l + x * q) es) (only (l + x * q) es)) ≡ occurs u (only (l + x * q) es) + cond (eqb p (l + x * q)) (same b u) 0
      more x = pick (eqb p (l + x * q))
        where
          pick : (t : Bool) → occurs u (cond t (b ∷ only (l + x * q) es) (only (l + x * q) es)) ≡ occurs u (only (l + x * q) es) + cond t (same b u) 0
          pick true = omega arith
          pick false = omega arith

      go : (t : Bool) → eqb b u ≡ t → sum_up (λ x. occurs u (only (l + x * q) es)) m ≤ in_layer u es
          → sum_up (λ x. occurs u (cond (eqb p (l + x * q)) (b ∷ only (l + x * q) es) (only (l + x * q) es))) m ≤ cond t (same (p % q) l) 0 + in_layer u es
      go true e ih =
          let z =
          sum_plus (λ x. occurs u (only (l + x * q) es)) (λ x. same p (l + x * q)) (λ x. occurs u (cond (eqb p (l + x * q)) (b ∷ only (l + x * q) es) (only (l + x * q) es))) m
          (λ x k. more x ∙ ap (λ (y : ℕ). occurs u (only (l + x * q) es) + cond (eqb p (l + x * q)) y 0) (same_is b u (eqb-true b u e)))
          in
          omega (arith, hits_le p m)
      go false e ih =
          let z =
          sum_same (λ x. occurs u (cond (eqb p (l + x * q)) (b ∷ only (l + x * q) es) (only (l + x * q) es))) (λ x. occurs u (only (l + x * q) es)) m
          (λ x k. more x ∙ ap (λ (y : ℕ). occurs u (only (l + x * q) es) + cond (eqb p (l + x * q)) y 0) (same_not b u (eqb-false b u e)) ∙ nothing (eqb p (l + x * q)) (occurs u (only (l + x * q) es)))
          in
          omega arith
        where
          nothing : (t : Bool) (y : ℕ) → y + cond t 0 0 ≡ y
          nothing true y = omega arith
          nothing false y = omega arith

  layer_append : (u : ℕ) (xs ys : List Edge) → in_layer u (xs ++ ys) ≡ in_layer u xs + in_layer u ys
  unfolding in_layer
  layer_append u [] ys = omega arith
  layer_append u (edge p b ∷ xs) ys = let z = layer_append u xs ys in omega arith

  -- ---- of one bit, of a row's bits, of all rows
  met_other : (P u m j : ℕ) (row : List ℕ) → (m ≡ u → ⊥) → in_layer u (met P q m j row) ≡ 0
  unfolding met in_layer
  met_other P u m j [] h = refl
  met_other P u m j (a ∷ row) h =
      let z : cond (eqb m u) (same ((a + j * q) % P % q) l) 0 ≡ 0 = ap (λ (b : Bool). cond b (same ((a + j * q) % P % q) l) 0) (ne_eqb m u h) in
      omega (arith, met_other P u m j row h)

  met_mod : (a j : ℕ) → (a + j * q) % (374 * q) % q ≡ a % q
  met_mod a j =
      let P = 374 * q in
      let e : (a + j * q) / P * P + (a + j * q) % P ≡ a + j * q = div-add-mod' (a + j * q) P in
      let f : (a + j * q) % P + (374 * ((a + j * q) / P)) * q ≡ a + j * q = omega arith in
      sym (add-mul-mod_self_right ((a + j * q) % P) (374 * ((a + j * q) / P)) q) ∙ ap (λ (y : ℕ). y % q) f ∙ add-mul-mod_self_right a j q

  met_own : (u m j : ℕ) (row : List ℕ) → m ≡ u → in_layer u (met (374 * q) q m j row) ≡ count_mod q l row
  unfolding met in_layer count_mod
  met_own u m j [] h = refl
  met_own u m j (a ∷ row) h =
      let z : cond (eqb m u) (same ((a + j * q) % (374 * q) % q) l) 0 ≡ same (a % q) l
      = ap (λ (b : Bool). cond b (same ((a + j * q) % (374 * q) % q) l) 0) (eq-eqb m u h) ∙ ap (λ (y : ℕ). same y l) (met_mod a j) in
      ap₂ (λ (x y : ℕ). x + y) z (met_own u m j row h) ∙ pick (eqb (a % q) l)
    where
      pick : (t : Bool) → cond t 1 0 + count_mod q l row ≡ cond t (suc (count_mod q l row)) (count_mod q l row)
      pick true = omega arith
      pick false = omega arith

  bits_after : (u d m j : ℕ) (row : List ℕ) → u < m → in_layer u (of_bits (374 * q) q d m j row) ≡ 0
  unfolding of_bits in_layer
  bits_after u zero m j row k = refl
  bits_after u (suc d) m j row k =
      layer_append u (met (374 * q) q m j row) (of_bits (374 * q) q d (suc m) (suc j) row)
      ∙ ap₂ (λ (x y : ℕ). x + y) (met_other (374 * q) u m j row (λ e. omega arith)) (bits_after u d (suc m) (suc j) row (omega arith))

  bits_before : (u d m j : ℕ) (row : List ℕ) → m + d ≤ u → in_layer u (of_bits (374 * q) q d m j row) ≡ 0
  unfolding of_bits in_layer
  bits_before u zero m j row k = refl
  bits_before u (suc d) m j row k =
      layer_append u (met (374 * q) q m j row) (of_bits (374 * q) q d (suc m) (suc j) row)
      ∙ ap₂ (λ (x y : ℕ). x + y) (met_other (374 * q) u m j row (λ e. omega arith)) (bits_before u d (suc m) (suc j) row (omega arith))

  bits_own : (u d m j : ℕ) (row : List ℕ) → in_layer u (of_bits (374 * q) q d m j row) ≤ count_mod q l row
  unfolding of_bits in_layer
  bits_own u zero m j row = omega arith
  bits_own u (suc d) m j row = go (ℕ_discrete m u) (bits_own u d (suc m) (suc j) row)
    where
      z : in_layer u (met (374 * q) q m j row ++ of_bits (374 * q) q d (suc m) (suc j) row) ≡ in_layer u (met (374 * q) q m j row) + in_layer u (of_bits (374 * q) q d (suc m) (suc j) row)
      z = layer_append u (met (374 * q) q m j row) (of_bits (374 * q) q d (suc m) (suc j) row)

      go : Dec (m ≡ u) → in_layer u (of_bits (374 * q) q d (suc m) (suc j) row) ≤ count_mod q l row → in_layer u (met (374 * q) q m j row ++ of_bits (374 * q) q d (suc m) (suc j) row) ≤ count_mod q l row
      go (yes e) ih = omega (arith, z, met_own u m j row e, bits_after u d (suc m) (suc j) row (omega arith))
      go (no e) ih = omega (arith, z, met_other (374 * q) u m j row e, ih)

  rows_after : (u m : ℕ) (rows : List (List ℕ)) → u < m → in_layer u (of_rows (374 * q) q m rows) ≡ 0
  unfolding of_rows in_layer
  rows_after u m [] k = refl
  rows_after u m (row ∷ rows) k =
      layer_append u (of_bits (374 * q) q 374 m 0 row) (of_rows (374 * q) q (m + 374) rows)
      ∙ ap₂ (λ (x y : ℕ). x + y) (bits_after u 374 m 0 row k) (rows_after u (m + 374) rows (omega arith))

  pub rows_own : (u m : ℕ) (lens addrs : List ℕ) → ((g t : ℕ) → g < length lens → t < 374 → m + (374 * g + t) ≡ u → count_mod q l (row_of lens addrs g) ≤ 1) → m ≤ u
      → in_layer u (of_rows (374 * q) q m (rows_of lens addrs)) ≤ 1
  unfolding of_rows rows_of in_layer total
  rows_own u m [] addrs k b = omega arith
  rows_own u m (n ∷ lens) addrs k b =
      go (dec_lt u (m + 374))
      (λ (c : m + 374 ≤ u). rows_own u (m + 374) lens (drop n addrs)
      (λ g t a d f. subst (λ (r : List ℕ). count_mod q l r ≤ 1) (row_next n lens addrs g) (k (suc g) t (omega arith) d (omega arith))) c)
    where
      z : in_layer u (of_bits (374 * q) q 374 m 0 (take n addrs) ++ of_rows (374 * q) q (m + 374) (rows_of lens (drop n addrs)))
          ≡ in_layer u (of_bits (374 * q) q 374 m 0 (take n addrs)) + in_layer u (of_rows (374 * q) q (m + 374) (rows_of lens (drop n addrs)))
      z = layer_append u (of_bits (374 * q) q 374 m 0 (take n addrs)) (of_rows (374 * q) q (m + 374) (rows_of lens (drop n addrs)))

      go : Dec (u < m + 374) → (m + 374 ≤ u → in_layer u (of_rows (374 * q) q (m + 374) (rows_of lens (drop n addrs))) ≤ 1)
          → in_layer u (of_bits (374 * q) q 374 m 0 (take n addrs) ++ of_rows (374 * q) q (m + 374) (rows_of lens (drop n addrs))) ≤ 1
      go (yes e) ih =
          omega (arith, z, bits_own u 374 m 0 (take n addrs), k 0 (u - m) (omega arith) (omega arith) (omega arith), rows_after u (m + 374) (rows_of lens (drop n addrs)) e)
      go (no e) ih = omega (arith, z, bits_before u 374 m 0 (take n addrs) (omega arith), ih (omega arith))
