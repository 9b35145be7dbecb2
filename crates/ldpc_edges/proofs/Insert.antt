-- One address more in a row: each check that it meets gets one bit more, in its place among the ascending ones.
--
-- In order: a bit put among ascending ones; ascending lists; a check's bits of a row ascend; one address more (`row_cons`).
use Rattle.std.specs.Prelude.{◌≡◌, Bool, true, false, cond, eqb, ltb, length, get_or}
use Rattle.std.proofs.Math.Path.{refl, sym, ap₂}
use Rattle.std.proofs.Common.{ap, ◌∙◌, subst, arith, div-lt_iff_lt-mul, eqb-true, le-ltb, ltb-false, List, [], ◌∷◌, ◌++◌, append_assoc, append-nil, ℕ, zero, suc, ◌+◌, ◌-◌, ◌*◌, ◌/◌, ◌%◌, ◌≤◌, ◌<◌}
use Rattle.std.proofs.Math.Nat.{mod-lt, div-add-mod', add-mul-mod_self_right, add-mul-div_right}
use Rattle.std.proofs.Math.Decide.{ℕ_discrete}
use Rattle.std.proofs.lemmas.Bool.{eqb-false}
use Rattle.std.proofs.Math.Arith.{mod-mul, digits_div, digits_mod}
use Rattle.ldpc_edges.specs.Code.{met, of_bits, only, ones}
use Rattle.ldpc_edges.proofs.Inside.{only_append, only_hit, only_miss}
use Rattle.ldpc_edges.specs.Insert.{insert, Rising, place}

pub insert_length : (v : ℕ) (bs : List ℕ) → length (insert v bs) ≡ suc (length bs)
unfolding insert
insert_length v [] = refl
insert_length v (b ∷ bs) = go (ltb v b) (insert_length b bs) (insert_length v bs)
  where
    go : (t : Bool) → length (insert b bs) ≡ suc (length bs) → length (insert v bs) ≡ suc (length bs)
        → length (cond t (v ∷ insert b bs) (b ∷ insert v bs)) ≡ suc (suc (length bs))
    go true x y = ap suc x
    go false x y = ap suc y

pub insert_ones : (w : List ℕ) (v : ℕ) (bs : List ℕ) → ones w (insert v bs) ≡ get_or w v 0 % 2 + ones w bs
unfolding insert ones
insert_ones w v [] = refl
insert_ones w v (b ∷ bs) = go (ltb v b) (insert_ones w b bs) (insert_ones w v bs)
  where
    go : (t : Bool) → ones w (insert b bs) ≡ get_or w b 0 % 2 + ones w bs → ones w (insert v bs) ≡ get_or w v 0 % 2 + ones w bs
        → ones w (cond t (v ∷ insert b bs) (b ∷ insert v bs)) ≡ get_or w v 0 % 2 + (get_or w b 0 % 2 + ones w bs)
    go true x y = ap (λ (z : ℕ). get_or w v 0 % 2 + z) x
    go false x y = let e : get_or w b 0 % 2 + ones w (insert v bs) ≡ get_or w v 0 % 2 + (get_or w b 0 % 2 + ones w bs) = omega arith in e

rising_from : (u v : ℕ) (bs : List ℕ) → u ≤ v → Rising v bs → Rising u bs
rising_from u v [] h R = tt
rising_from u v (b ∷ bs) h R = (omega (arith, R.0), R.1)

insert_first : (v : ℕ) (bs : List ℕ) → Rising v bs → insert v bs ≡ v ∷ bs
unfolding insert
insert_first v [] R = refl
insert_first v (b ∷ bs) R = go (ltb v b) refl (insert_first b bs R.1) (insert_first v bs (rising_from v b bs R.0 R.1))
  where
    go : (t : Bool) → ltb v b ≡ t → insert b bs ≡ b ∷ bs → insert v bs ≡ v ∷ bs → cond t (v ∷ insert b bs) (b ∷ insert v bs) ≡ v ∷ b ∷ bs
    go true e x y = ap (λ (z : List ℕ). v ∷ z) x
    go false e x y =
        let f : v ≡ b = omega (arith, ltb-false v b e, R.0) in
        ap (λ (z : List ℕ). b ∷ z) y ∙ ap₂ (λ (x y : ℕ). x ∷ y ∷ bs) (sym f) f

-- every one is below v
abbrev Below : ℕ → List ℕ → Type 0
Below v [] = Unit {0}
Below v (b ∷ bs) = (b < v) × Below v bs

insert_past : (v : ℕ) (xs ys : List ℕ) → Below v xs → insert v (xs ++ ys) ≡ xs ++ insert v ys
unfolding insert
insert_past v [] ys B = refl
insert_past v (x ∷ xs) ys B =
    ap (λ t. cond t (v ∷ insert x (xs ++ ys)) (x ∷ insert v (xs ++ ys))) (le-ltb v x (omega (arith, B.0))) ∙ ap (λ (z : List ℕ). x ∷ z) (insert_past v xs ys B.1)

-- ---- a check's bits of a row ascend
met_below : (P q c v m j : ℕ) (row : List ℕ) → m < v → Below v (only c (met P q m j row))
unfolding only met
met_below P q c v m j [] h = tt
met_below P q c v m j (a ∷ row) h = go (eqb ((a + j * q) % P) c) (met_below P q c v m j row h)
  where
    go : (t : Bool) → Below v (only c (met P q m j row)) → Below v (cond t (m ∷ only c (met P q m j row)) (only c (met P q m j row)))
    go true B = (h, B)
    go false B = B

met_rising : (P q c m j : ℕ) (row rest : List ℕ) → Rising m rest → Rising m (only c (met P q m j row) ++ rest)
unfolding only met
met_rising P q c m j [] rest R = R
met_rising P q c m j (a ∷ row) rest R = go (eqb ((a + j * q) % P) c) (met_rising P q c m j row rest R)
  where
    go : (t : Bool) → Rising m (only c (met P q m j row) ++ rest) → Rising m (cond t (m ∷ only c (met P q m j row)) (only c (met P q m j row)) ++ rest)
    go true R = (omega arith, R)
    go false R = R

pub bits_rising : (P q c d m j : ℕ) (row rest : List ℕ) → Rising (m + d) rest → Rising m (only c (of_bits P q d m j row) ++ rest)
unfolding of_bits only
bits_rising P q c zero m j row rest R = rising_from m (m + 0) rest (omega arith) R
bits_rising P q c (suc d) m j row rest R =
    let e : m + suc d ≡ suc m + d = omega arith in
    let ih = bits_rising P q c d (suc m) (suc j) row rest (subst (λ (z : ℕ). Rising z rest) e R) in
    subst (Rising m) (sym (ap (λ (z : List ℕ). z ++ rest) (only_append c (met P q m j row) (of_bits P q d (suc m) (suc j) row)) ∙ append_assoc (only c (met P q m j row)) _ rest))
    (met_rising P q c m j row _ (rising_from m (suc m) (only c (of_bits P q d (suc m) (suc j) row) ++ rest) (omega arith) ih))

module _ (q c a : ℕ) (pos : 0 < q) (inside : c < 374 * q) where
  upper : c / q < 374
  upper = (div-lt_iff_lt-mul pos).1 inside

  target : (j : ℕ) → (a + j * q) % (374 * q) ≡ ((a / q + j) % 374) * q + a % q
  target j = mod-mul (a + j * q) (omega arith) pos ∙ ap₂ (λ (x y : ℕ). (x % 374) * q + y) (add-mul-div_right a j pos) (add-mul-mod_self_right a j q)

  met_mod : (j : ℕ) → (a + j * q) % (374 * q) ≡ c → a % q ≡ c % q
  met_mod j e = sym (digits_mod ((a / q + j) % 374) (mod-lt a pos)) ∙ ap (λ (z : ℕ). z % q) (sym (target j) ∙ e)

  met_div : (j : ℕ) → (a + j * q) % (374 * q) ≡ c → (a / q + j) % 374 ≡ c / q
  met_div j e = sym (digits_div ((a / q + j) % 374) (mod-lt a pos)) ∙ ap (λ (z : ℕ). z / q) (sym (target j) ∙ e)

  met_place : (j : ℕ) → j < 374 → (a + j * q) % (374 * q) ≡ c → j ≡ place q c a
  unfolding place
  met_place j h e = omega (arith, met_div j e, upper)

  place_met : a % q ≡ c % q → (a + place q c a * q) % (374 * q) ≡ c
  unfolding place
  place_met e =
      let f : (a / q + place q c a) % 374 ≡ c / q = omega (arith, upper) in
      target (place q c a) ∙ ap₂ (λ (x y : ℕ). x * q + y) f e ∙ div-add-mod' c q

  place_lt : place q c a < 374
  unfolding place
  place_lt = mod-lt (c / q + 374 - a / q % 374) (omega arith)

  met_miss : (m j : ℕ) (row : List ℕ) → ((a + j * q) % (374 * q) ≡ c → ⊥) → only c (met (374 * q) q m j (a ∷ row)) ≡ only c (met (374 * q) q m j row)
  unfolding met
  met_miss m j row h = only_miss _ m c (met (374 * q) q m j row) h

  met_hit : (m j : ℕ) (row : List ℕ) → (a + j * q) % (374 * q) ≡ c → only c (met (374 * q) q m j (a ∷ row)) ≡ m ∷ only c (met (374 * q) q m j row)
  unfolding met
  met_hit m j row h = only_hit _ m c (met (374 * q) q m j row) h

  next : (row : List ℕ) (d m j : ℕ)
      → only c (of_bits (374 * q) q (suc d) m j row) ≡ only c (met (374 * q) q m j row) ++ only c (of_bits (374 * q) q d (suc m) (suc j) row)
  unfolding of_bits
  next row d m j = only_append c (met (374 * q) q m j row) (of_bits (374 * q) q d (suc m) (suc j) row)

  -- past its place, or anywhere for another residue, the address joins no bit to c
  none : (row : List ℕ) (d m j : ℕ) → ((i : ℕ) → j ≤ i → i < j + d → (a + i * q) % (374 * q) ≡ c → ⊥)
      → only c (of_bits (374 * q) q d m j (a ∷ row)) ≡ only c (of_bits (374 * q) q d m j row)
  unfolding of_bits only
  none row zero m j h = refl
  none row (suc d) m j h =
      next (a ∷ row) d m j
      ∙ ap₂ (λ (x y : List ℕ). x ++ y) (met_miss m j row (h j (omega arith) (omega arith))) (none row d (suc m) (suc j) (λ i l u. h i (omega arith) (omega arith)))
      ∙ sym (next row d m j)

  once : (row : List ℕ) → a % q ≡ c % q → (d m j : ℕ) → j + d ≡ 374 → j ≤ place q c a
      → only c (of_bits (374 * q) q d m j (a ∷ row)) ≡ insert (m + (place q c a - j)) (only c (of_bits (374 * q) q d m j row))
  once row e zero m j h l = absurd (omega (arith, place_lt))
  once row e (suc d) m j h l = go (ℕ_discrete j (place q c a)) (λ (i : suc j ≤ place q c a). once row e d (suc m) (suc j) (omega arith) i)
    where
      later : j ≡ place q c a → (i : ℕ) → suc j ≤ i → i < suc j + d → (a + i * q) % (374 * q) ≡ c → ⊥
      later f i u v g = let w = met_place i (omega arith) g in omega arith

      go : Dec (j ≡ place q c a)
          → (suc j ≤ place q c a → only c (of_bits (374 * q) q d (suc m) (suc j) (a ∷ row)) ≡ insert (suc m + (place q c a - suc j)) (only c (of_bits (374 * q) q d (suc m) (suc j) row)))
          → only c (of_bits (374 * q) q (suc d) m j (a ∷ row)) ≡ insert (m + (place q c a - j)) (only c (of_bits (374 * q) q (suc d) m j row))
      go (yes f) ih =
          let z : m ≡ m + (place q c a - j) = omega arith in
          next (a ∷ row) d m j
          ∙ ap₂ (λ (x y : List ℕ). x ++ y) (met_hit m j row (ap (λ (z : ℕ). (a + z * q) % (374 * q)) f ∙ place_met e)) (none row d (suc m) (suc j) (later f))
          ∙ ap (λ (y : List ℕ). m ∷ y) (sym (next row d m j))
          ∙ sym (insert_first m (only c (of_bits (374 * q) q (suc d) m j row)) (all m j))
          ∙ ap (λ (y : ℕ). insert y (only c (of_bits (374 * q) q (suc d) m j row))) z
        where
          all : (m j : ℕ) → Rising m (only c (of_bits (374 * q) q (suc d) m j row))
          all m j = subst (Rising m) (append-nil (only c (of_bits (374 * q) q (suc d) m j row))) (bits_rising (374 * q) q c (suc d) m j row [] tt)
      go (no f) ih =
          let k : suc j ≤ place q c a = omega arith in
          let z : suc m + (place q c a - suc j) ≡ m + (place q c a - j) = omega arith in
          next (a ∷ row) d m j
          ∙ ap₂ (λ (x y : List ℕ). x ++ y) (met_miss m j row (λ g. f (met_place j (omega arith) g)))
          (ih k ∙ ap (λ (y : ℕ). insert y (only c (of_bits (374 * q) q d (suc m) (suc j) row))) z)
          ∙ sym (insert_past (m + (place q c a - j)) (only c (met (374 * q) q m j row)) _ (met_below (374 * q) q c _ m j row (omega arith)))
          ∙ ap (insert (m + (place q c a - j))) (sym (next row d m j))

  -- an address equal to c modulo q joins one bit of its row to check c; any other, none
  pub row_cons : (m : ℕ) (row : List ℕ) → only c (of_bits (374 * q) q 374 m 0 (a ∷ row))
      ≡ cond (eqb (a % q) (c % q)) (insert (m + place q c a) (only c (of_bits (374 * q) q 374 m 0 row))) (only c (of_bits (374 * q) q 374 m 0 row))
  row_cons m row = go (eqb (a % q) (c % q)) refl
    where
      go : (t : Bool) → eqb (a % q) (c % q) ≡ t → only c (of_bits (374 * q) q 374 m 0 (a ∷ row))
          ≡ cond t (insert (m + place q c a) (only c (of_bits (374 * q) q 374 m 0 row))) (only c (of_bits (374 * q) q 374 m 0 row))
      go true e =
          let z : m + (place q c a - 0) ≡ m + place q c a = omega arith in
          once row (eqb-true _ _ e) 374 m 0 refl (omega arith) ∙ ap (λ (y : ℕ). insert y (only c (of_bits (374 * q) q 374 m 0 row))) z
      go false e = none row 374 m 0 (λ i l u g. eqb-false _ _ e (met_mod i g))
