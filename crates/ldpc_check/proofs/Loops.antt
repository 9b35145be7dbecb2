-- What each turn of the loops does.
use Rattle.std.proofs.Common.{◌≡◌, refl, sym, ap, ap₂, ◌∙◌, cond, List, [], ◌∷◌, ◌++◌, append_assoc, append-nil, ℕ, zero, suc, ◌+◌, ◌-◌, ◌*◌, ◌%◌, ◌≤◌, ◌<◌, arith, mod-lt, add-one, eq-eqb, ne_eqb, lt-ltb, le-ltb, eqb, ltb, length, take, drop, get_or, set, length-append, length-take, length-drop, take-append-drop, drop-cons, drop-drop, drop-set-lt, take-suc, take-suc-set, take_at, drop_at, length-take-le, drop_of_length-le, subst}
use Rattle.std.proofs.lemmas.List.{take-take}
use Rattle.std.proofs.Math.Seq.{set_split}
use Rattle.laws.specs.Lists.{lent_from, back_from}
use Rattle.ldpc_shape.specs.declared.Table.{Table}
use Rattle.ldpc_shape.specs.Shape.{p_of, rows_of, count_mod}
use Rattle.ldpc_shape.proofs.Accepted.{table_accepted, table_bounded, table_k, table_p, table_q}
use Rattle.ldpc_shape.specs.Counts.{CountsBelow}
use Rattle.ldpc_edges.specs.Code.{of_bits, of_rows, meets, only, stairs, check}
use Rattle.ldpc_edges.proofs.Inside.{only_append}
use Rattle.ldpc_edges.specs.Insert.{insert, place}
use Rattle.ldpc_rows.specs.declared.Row.{Row}
use Rattle.ldpc_rows.specs.declared.Rows.{Rows}
use Rattle.ldpc_rows.specs.Rows.{seen, left}
use Rattle.ldpc_rows.proofs.Edges.{left_edges, edges_start, edges_first, edges_none}
use Rattle.ldpc_check.specs.Found.{found, all_of}
use Rattle.ldpc_edges.proofs.Insert.{insert_length, row_cons}
use Rattle.ldpc_edges.proofs.Degree.{bits_none, bits_count, count_split, degree}

-- ---- one bit more among the n ascending ones
module _ (m n : ℕ) (out₀ : List ℕ) where
  -- what the loop has at place i, with v in hand
  abbrev pub Inserting : List ℕ → ℕ → ℕ → Type 0
  Inserting out v i = insert m (take n out₀) ≡ take i out ++ insert v (take (n - i) (drop i out))

  insert_next : (out : List ℕ) (v i : ℕ) → i < n → n < length out
      → insert v (take (n - i) (drop i out))
      ≡ cond (ltb v (get_or out i 0)) (v ∷ insert (get_or out i 0) (take (n - suc i) (drop (suc i) out))) (get_or out i 0 ∷ insert v (take (n - suc i) (drop (suc i) out)))
  unfolding insert
  insert_next out v i h g =
      let e : n - i ≡ suc (n - suc i) = omega arith in
      ap₂ (λ (y : ℕ) (z : List ℕ). insert v (take y z)) e (drop-cons out i 0 (omega arith))

  pub insert_swap : (out out' : List ℕ) (v v' i : ℕ) → i < n → n < length out → v < get_or out i 0 → out' ≡ set out i v → v' ≡ get_or out i 0
      → Inserting out v i → Inserting out' v' (i + 1)
  insert_swap out out' v v' i h g t e f inv =
      inv
      ∙ ap (λ (z : List ℕ). take i out ++ z)
      (insert_next out v i h g
      ∙ ap (λ b. cond b (v ∷ insert (get_or out i 0) (take (n - suc i) (drop (suc i) out))) (get_or out i 0 ∷ insert v (take (n - suc i) (drop (suc i) out)))) (lt-ltb v (get_or out i 0) t))
      ∙ sym (append_assoc (take i out) (v ∷ []) _)
      ∙ ap₂ (λ (y z : List ℕ). y ++ insert (get_or out i 0) (take (n - suc i) z)) (sym (take-suc-set out i v (omega arith))) (sym (drop-set-lt (suc i) out i v (omega arith)))
      ∙ ap₂ (λ (y : List ℕ) (z : ℕ). take (suc i) y ++ insert z (take (n - suc i) (drop (suc i) y))) (sym e) (sym f)
      ∙ ap (λ (z : ℕ). take z out' ++ insert v' (take (n - z) (drop z out'))) (sym (add-one i))

  pub insert_keep : (out out' : List ℕ) (v v' i : ℕ) → i < n → n < length out → get_or out i 0 ≤ v → out' ≡ out → v' ≡ v → Inserting out v i → Inserting out' v' (i + 1)
  insert_keep out out' v v' i h g t e f inv =
      inv
      ∙ ap (λ (z : List ℕ). take i out ++ z)
      (insert_next out v i h g
      ∙ ap (λ b. cond b (v ∷ insert (get_or out i 0) (take (n - suc i) (drop (suc i) out))) (get_or out i 0 ∷ insert v (take (n - suc i) (drop (suc i) out)))) (le-ltb v (get_or out i 0) t))
      ∙ sym (append_assoc (take i out) (get_or out i 0 ∷ []) _)
      ∙ ap (λ (z : List ℕ). z ++ insert v (take (n - suc i) (drop (suc i) out))) (sym (take-suc out i 0 (omega arith)))
      ∙ ap₂ (λ (y : List ℕ) (z : ℕ). take (suc i) y ++ insert z (take (n - suc i) (drop (suc i) y))) (sym e) (sym f)
      ∙ ap (λ (z : ℕ). take z out' ++ insert v' (take (n - z) (drop z out'))) (sym (add-one i))

  pub insert_end : (out : List ℕ) (v i : ℕ) → i ≡ n → length out ≡ n + 1 → Inserting out v i → set out n v ≡ insert m (take n out₀)
  unfolding insert
  insert_end out v i e g inv =
      let z : n - n ≡ 0 = omega arith in
      set_split out n v (omega arith) ∙ ap (λ (y : List ℕ). take n out ++ v ∷ y) (drop_of_length-le out {i = suc n} (omega arith))
      ∙ sym (inv ∙ ap (λ (y : ℕ). take y out ++ insert v (take (n - y) (drop y out))) e ∙ ap (λ (y : ℕ). take n out ++ insert v (take y (drop n out))) z)

-- ---- the addresses of a row, from the last: those of `rest` are left
pub record Gathered (q c first : ℕ) (row rest out₀ out : List ℕ) (n : ℕ) : Type 0 where
  pub done : List ℕ
  pub parts : row ≡ rest ++ done
  pub size : n ≡ length (found q c first done)
  pub list : out ≡ found q c first done ++ drop n out₀

module _ (q c first : ℕ) (row : List ℕ) (pos : 0 < q) (inside : c < 374 * q) where
  found_le : (rest done : List ℕ) → row ≡ rest ++ done → length (found q c first done) ≤ length (found q c first row)
  unfolding found
  found_le rest done e =
      omega (
        arith,
        bits_count q c pos inside first done,
        bits_count q c pos inside first row,
        ap (count_mod q (c % q)) e,
        count_split q (c % q) (length rest) (rest ++ done),
        ap (count_mod q (c % q)) (drop_at rest done (length rest) refl),
      )

  found_next : (a : ℕ) (done : List ℕ)
      → found q c first (a ∷ done) ≡ cond (eqb (a % q) (c % q)) (insert (first + place q c a) (found q c first done)) (found q c first done)
  unfolding found
  found_next a done = row_cons q c a pos inside first done

  -- a is the next address
  module _ (rest rest' out out₀ : List ℕ) (n a r l : ℕ) (I : Gathered q c first row rest out₀ out n) (step : rest ≡ rest' ++ (a ∷ []))
      (fit : length (found q c first row) ≤ length out₀) (er : r ≡ a % q) (el : l ≡ c % q) where
    row_parts : row ≡ rest' ++ (a ∷ I.done)
    row_parts = I.parts ∙ ap (λ (z : List ℕ). z ++ I.done) step ∙ append_assoc rest' (a ∷ []) I.done

    row_size : length out ≡ length out₀
    row_size = ap length I.list ∙ length-append (found q c first I.done) (drop n out₀) ∙ omega (arith, length-drop n out₀, I.size, found_le rest I.done I.parts)

    found_hit : r ≡ l → found q c first (a ∷ I.done) ≡ insert (first + place q c a) (found q c first I.done)
    found_hit f =
        found_next a I.done ∙ ap (λ t. cond t (insert (first + place q c a) (found q c first I.done)) (found q c first I.done)) (eq-eqb _ _ (sym er ∙ f ∙ el))

    found_miss : (r ≡ l → ⊥) → found q c first (a ∷ I.done) ≡ found q c first I.done
    found_miss f =
        found_next a I.done ∙ ap (λ t. cond t (insert (first + place q c a) (found q c first I.done)) (found q c first I.done)) (ne_eqb _ _ (λ e. f (er ∙ e ∙ sym el)))

    pub row_room : r ≡ l → n < length out
    row_room f =
        omega (arith, row_size, I.size, found_le rest' (a ∷ I.done) row_parts, ap length (found_hit f), insert_length (first + place q c a) (found q c first I.done))

    -- front: the first n + 1 places, with the bit put among them
    pub row_hit : r ≡ l → (m : ℕ) (front : List ℕ) → m ≡ first + place q c a → front ≡ insert m (take (length (take (n + 1) out) - 1) (take (n + 1) out))
        → Gathered q c first row rest' out₀ (front ++ drop (n + 1) out) (n + 1)
    row_hit f m front em e =
        let k : length (take (n + 1) out) - 1 ≡ n = let h = row_room f in omega (arith, length-take-le (n + 1) out (omega arith)) in
        let t : take (length (take (n + 1) out) - 1) (take (n + 1) out) ≡ take n out = ap (λ (z : ℕ). take z (take (n + 1) out)) k ∙ take-take n (n + 1) out (omega arith) in
        record {
          done = a ∷ I.done;
          parts = row_parts;
          size = omega (arith, I.size, ap length (found_hit f), insert_length (first + place q c a) (found q c first I.done));
          list = ap₂ (λ (y z : List ℕ). y ++ z)
              (e ∙ ap₂ insert em (t ∙ ap (take n) I.list ∙ take_at (found q c first I.done) (drop n out₀) n (sym I.size)) ∙ sym (found_hit f))
              (sym (drop-drop 1 n out) ∙ ap (drop 1) (ap (drop n) I.list ∙ drop_at (found q c first I.done) (drop n out₀) n (sym I.size)) ∙ drop-drop 1 n out₀);
        }

    pub row_miss : (r ≡ l → ⊥) → Gathered q c first row rest' out₀ out n
    row_miss f = record {
      done = a ∷ I.done;
      parts = row_parts;
      size = I.size ∙ ap length (sym (found_miss f));
      list = I.list ∙ ap (λ (y : List ℕ). y ++ drop n out₀) (sym (found_miss f));
    }

  pub row_start_lem : (rest out : List ℕ) → rest ≡ row → Gathered q c first row rest out out 0
  unfolding found
  row_start_lem rest out e =
      let z : only c (of_bits (374 * q) q 374 first 0 []) ≡ [] = bits_none (374 * q) q c 374 first 0 in
      record { done = []; parts = sym e ∙ sym (append-nil rest); size = ap length (sym z); list = ap (λ (y : List ℕ). y ++ out) (sym z) }

  pub row_end : (rest out out₀ : List ℕ) (n : ℕ) → rest ≡ [] → Gathered q c first row rest out₀ out n
      → (n ≡ length (found q c first row)) × (out ≡ found q c first row ++ drop n out₀)
  row_end rest out out₀ n e I =
      let f : found q c first I.done ≡ found q c first row = ap (found q c first) (sym (I.parts ∙ ap (λ (z : List ℕ). z ++ I.done) e)) in
      (I.size ∙ ap length f, I.list ∙ ap (λ (z : List ℕ). z ++ drop n out₀) f)

-- ---- all rows: check c's bits of those that are left
unfoldable pub rest_of : ℕ → ℕ → Rows → List ℕ
rest_of q c s = only c (left_edges (374 * q) q s)

module _ (q c : ℕ) (s : Rows) where
  pub rest_start : (n : Rows) (lens addrs : List ℕ) → s ≡ n → n.first ≡ 0 → n.lens.now ≡ lens → n.addrs.now ≡ addrs → all_of q c lens addrs ≡ rest_of q c s
  unfolding all_of rest_of
  rest_start n lens addrs i e f g = ap (only c) (sym (edges_start (374 * q) q s n lens addrs i e f g))

  pub rest_end : left s ≡ [] → rest_of q c s ≡ []
  unfolding rest_of only
  rest_end e = ap (only c) (edges_none (374 * q) q s e)

  pub rest_next : (t : Rows) (r : Row) → left s ≡ seen r ∷ left t → rest_of q c s ≡ found q c r.first r.addrs.now ++ rest_of q c t
  unfolding rest_of found
  rest_next t r e = ap (only c) (edges_first (374 * q) q s t r e) ∙ only_append c (of_bits (374 * q) q 374 r.first 0 r.addrs.now) _

-- a list put in front of the part from n on
module _ (out list ys : List ℕ) (n d : ℕ) (ed : d ≡ length list) (ey : ys ≡ list ++ drop d (take (length out - n) (drop n out))) (fit : n + d ≤ length out) where
  back : take n out ++ (ys ++ drop (length out - n) (drop n out)) ≡ (take n out ++ list) ++ drop (n + d) out
  back =
      back_from n out ys
      ∙ ap (λ (z : List ℕ). take n out ++ z) (ey ∙ ap (λ (z : List ℕ). list ++ drop d z) (lent_from n out) ∙ ap (λ (z : List ℕ). list ++ z) (drop-drop d n out))
      ∙ sym (append_assoc (take n out) list (drop (n + d) out))

  front_length : length (take n out ++ list) ≡ n + d
  front_length = length-append (take n out) list ∙ omega (arith, length-take-le n out (omega arith))

  lent_length : length (take n out ++ (ys ++ drop (length out - n) (drop n out))) ≡ length out
  lent_length = ap length back ∙ length-append (take n out ++ list) (drop (n + d) out) ∙ omega (arith, front_length, length-drop (n + d) out)

  lent_front : take (n + d) (take n out ++ (ys ++ drop (length out - n) (drop n out))) ≡ take n out ++ list
  lent_front = ap (take (n + d)) back ∙ take_at (take n out ++ list) (drop (n + d) out) (n + d) front_length

  lent_rest : drop (n + d) (take n out ++ (ys ++ drop (length out - n) (drop n out))) ≡ drop (n + d) out
  lent_rest = ap (drop (n + d)) back ∙ drop_at (take n out ++ list) (drop (n + d) out) (n + d) front_length

module _ (out out₀ : List ℕ) (n : ℕ) (all list rest : List ℕ) (size : length out ≡ length out₀) (below : n ≤ length out)
    (e : all ≡ take n out ++ (list ++ rest)) (fit : length all ≤ length out₀) where
  pub list_fits : length list ≤ length (take (length out - n) (drop n out))
  list_fits =
      omega
      (arith, ap length e, length-append (take n out) (list ++ rest), length-append list rest, length-take-le n out below, length-take (length out - n) (drop n out), length-drop n out)

  -- ys: what the part holds after the call, d the call's answer
  module _ (ys : List ℕ) (d : ℕ) (ed : d ≡ length list) (ey : ys ≡ list ++ drop d (take (length out - n) (drop n out))) (kept : drop n out ≡ drop n out₀) where
    reach : n + d ≤ length out
    reach = omega (arith, list_fits, length-take (length out - n) (drop n out), length-drop n out)

    rows_size : length (take n out ++ (ys ++ drop (length out - n) (drop n out))) ≡ length out₀
    rows_size = lent_length out list ys n d ed ey reach ∙ size

    rows_below : n + d ≤ length (take n out ++ (ys ++ drop (length out - n) (drop n out)))
    rows_below = omega (arith, reach, lent_length out list ys n d ed ey reach)

    rows_all : all ≡ take (n + d) (take n out ++ (ys ++ drop (length out - n) (drop n out))) ++ rest
    rows_all = e ∙ sym (append_assoc (take n out) list rest) ∙ ap (λ (z : List ℕ). z ++ rest) (sym (lent_front out list ys n d ed ey reach))

    rows_kept : drop (n + d) (take n out ++ (ys ++ drop (length out - n) (drop n out))) ≡ drop (n + d) out₀
    rows_kept = lent_rest out list ys n d ed ey reach ∙ sym (drop-drop d n out) ∙ ap (drop d) kept ∙ drop-drop d n out₀

    pub rows_on : (let out' = take n out ++ (ys ++ drop (length out - n) (drop n out)) in
        (length out' ≡ length out₀) × (n + d ≤ length out') × (all ≡ take (n + d) out' ++ rest) × (drop (n + d) out' ≡ drop (n + d) out₀))
    rows_on = (rows_size, rows_below, rows_all, rows_kept)

pub rows_done : (out out₀ all rest : List ℕ) (n : ℕ) → n ≤ length out → all ≡ take n out ++ rest → rest ≡ [] → drop n out ≡ drop n out₀
    → (n ≡ length all) × (out ≡ all ++ drop n out₀)
rows_done out out₀ all rest n h e f k =
    let g : all ≡ take n out = e ∙ ap (λ (z : List ℕ). take n out ++ z) f ∙ append-nil (take n out) in
    (sym (ap length g ∙ length-take-le n out h), sym (take-append-drop n out) ∙ ap₂ (λ (y z : List ℕ). y ++ z) (sym g) k)

-- ---- the parity bits
pub stair_one : (out : List ℕ) (k c v : ℕ) → v ≡ k + c → c ≡ 0 → length (stairs k c) ≤ length out
    → (0 < length out) × (1 ≡ length (stairs k c)) × (set out 0 v ≡ stairs k c ++ drop 1 out)
unfolding stairs
stair_one [] k zero v e z h = absurd (omega arith)
stair_one (x ∷ out) k zero v e z h = let f : v ≡ k = omega arith in (omega arith, refl, ap (λ (y : ℕ). y ∷ out) f)
stair_one out k (suc c) v e z h = absurd (omega arith)

pub stair_two : (out : List ℕ) (k c v : ℕ) → v ≡ k + c → (c ≡ 0 → ⊥) → length (stairs k c) ≤ length out
    → (1 < length out) × (2 ≡ length (stairs k c)) × (set (set out 0 (v - 1)) 1 v ≡ stairs k c ++ drop 2 out)
unfolding stairs
stair_two out k zero v e z h = absurd (z refl)
stair_two [] k (suc c) v e z h = absurd (omega arith)
stair_two (x ∷ []) k (suc c) v e z h = absurd (omega arith)
stair_two (x ∷ y ∷ out) k (suc c) v e z h =
    let f : v - 1 ≡ k + c = omega arith in
    (omega arith, refl, ap₂ (λ (a b : ℕ). a ∷ b ∷ out) f e)

-- ---- a table
module _ (T : Table) where
  p_same : 374 * T.sizes.q ≡ p_of T.sizes.n T.lens.now
  p_same = sym (table_bounded T).p_is ∙ table_p T

  all_is : (c : ℕ) → all_of T.sizes.q c T.lens.now T.addrs.now ≡ only c (meets T.sizes.n T.lens.now T.addrs.now)
  unfolding all_of meets
  all_is c = ap₂ (λ (y z : ℕ). only c (of_rows y z 0 (rows_of T.lens.now T.addrs.now))) p_same (table_q T)

  check_is : (c : ℕ) → check T.sizes.n T.lens.now T.addrs.now c ≡ all_of T.sizes.q c T.lens.now T.addrs.now ++ stairs T.sizes.k c
  unfolding check
  check_is c = ap₂ (λ (y : List ℕ) (z : ℕ). y ++ stairs z c) (sym (all_is c)) (sym (table_k T))

  -- how many bits, from the counts r
  pub degree_is : (r : List ℕ) → CountsBelow r T.sizes.q T.addrs.now → (c : ℕ) → c < T.sizes.p
      → length (check T.sizes.n T.lens.now T.addrs.now c) ≡ get_or r (c % T.sizes.q) 0 + cond (eqb c 0) 1 2
  degree_is r C c h =
      degree T.sizes.n T.lens.now T.addrs.now (table_accepted T) c (subst (λ (z : ℕ). c < z) (table_p T) h)
      ∙ ap (λ (z : ℕ). z + cond (eqb c 0) 1 2)
      (ap (λ (z : ℕ). count_mod z (c % z) T.addrs.now) (sym (table_q T)) ∙ sym (C (c % T.sizes.q) (mod-lt c (table_bounded T).q_pos)))

  check_length : (c : ℕ) → length (check T.sizes.n T.lens.now T.addrs.now c) ≡ length (all_of T.sizes.q c T.lens.now T.addrs.now) + length (stairs T.sizes.k c)
  check_length c = ap length (check_is c) ∙ length-append (all_of T.sizes.q c T.lens.now T.addrs.now) (stairs T.sizes.k c)

  pub info_room : (c : ℕ) (x : List ℕ) → length (check T.sizes.n T.lens.now T.addrs.now c) ≤ length x → length (all_of T.sizes.q c T.lens.now T.addrs.now) ≤ length x
  info_room c x h = omega (arith, check_length c)

  pub stairs_room : (c d : ℕ) (x y : List ℕ) → d ≡ length (all_of T.sizes.q c T.lens.now T.addrs.now) → length y ≡ length x
      → length (check T.sizes.n T.lens.now T.addrs.now c) ≤ length x → d + length (stairs T.sizes.k c) ≤ length y
  stairs_room c d x y e f h = omega (arith, check_length c)

  -- y: the bits of the addresses in front, zs: the part from d on with the parity bits in front, r of them
  pub check_done : (c d r : ℕ) (x y zs : List ℕ) → d ≡ length (all_of T.sizes.q c T.lens.now T.addrs.now)
      → y ≡ all_of T.sizes.q c T.lens.now T.addrs.now ++ drop d x → r ≡ length (stairs T.sizes.k c)
      → zs ≡ stairs T.sizes.k c ++ drop r (take (length y - d) (drop d y)) → d + r ≤ length y
      → (d + r ≡ length (check T.sizes.n T.lens.now T.addrs.now c))
      × (take d y ++ (zs ++ drop (length y - d) (drop d y)) ≡ check T.sizes.n T.lens.now T.addrs.now c ++ drop (d + r) x)
  check_done c d r x y zs ed ey er ez fit = (
    ap₂ (λ (u v : ℕ). u + v) ed er ∙ sym (check_length c),
    back y (stairs T.sizes.k c) zs d r er ez fit
        ∙ ap₂ (λ (u v : List ℕ). (u ++ stairs T.sizes.k c) ++ v) (ap (take d) ey ∙ take_at all (drop d x) d (sym ed)) tail
        ∙ ap (λ (u : List ℕ). u ++ drop (d + r) x) (sym (check_is c)),
  )
    where
      all : List ℕ
      all = all_of T.sizes.q c T.lens.now T.addrs.now

      tail : drop (d + r) y ≡ drop (d + r) x
      tail = sym (drop-drop r d y) ∙ ap (drop r) (ap (drop d) ey ∙ drop_at all (drop d x) d (sym ed)) ∙ drop-drop r d x
