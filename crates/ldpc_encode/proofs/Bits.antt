-- Sums modulo 2: a row turned, the addresses of a row, all rows; the bits of the checks of one residue.
use Rattle.std.proofs.Common.{◌≡◌, refl, sym, ap, ap₂, ◌∙◌, subst, cond, List, ◌++◌, ℕ, zero, suc, ◌+◌, ◌-◌, ◌/◌, ◌%◌, ◌≤◌, ◌<◌, arith, add-one, eq-eqb, ne_eqb, bit_xor, eqb, length, take, drop, get_or, length-take, length-drop, length-append, drop_of_length-le, drop-cons, get_or-take, get_or-drop, get_or-append-add, length-take-le}
use Rattle.std.proofs.Math.Decide.{dec_lt}
use Rattle.std.proofs.Math.ListN.{get_or-append}
use Rattle.laws.specs.Modulo.{xor_parity}
use Rattle.laws.specs.Lists.{lent_from, back_from}
use Rattle.ldpc_encode.specs.Sums.{xors, turned_bit, row_bit, AddedToSums, stair_bit}
use Rattle.ldpc_encode.proofs.Bytes.{xors_length, xors_at}

-- ---- the parity bits of a check
pub stair_first : (p : List ℕ) (c : ℕ) → c ≡ 0 → get_or p c 0 % 2 ≡ stair_bit p c % 2
unfolding stair_bit
stair_first p zero e = omega arith
stair_first p (suc c) e = absurd (omega arith)

pub stair_later : (p : List ℕ) (c : ℕ) → (c ≡ 0 → ⊥) → bit_xor (get_or p (c - 1) 0) (get_or p c 0) % 2 ≡ stair_bit p c % 2
unfolding stair_bit
stair_later p zero e = absurd (e refl)
stair_later p (suc c) e =
    let z : suc c - 1 ≡ c = omega arith in
    ap (λ (y : ℕ). bit_xor (get_or p y 0) (get_or p (suc c) 0) % 2) z ∙ xor_parity (get_or p c 0) (get_or p (suc c) 0) ∙ low (get_or p c 0) (get_or p (suc c) 0)
  where
    low : (x y : ℕ) → (x + y) % 2 ≡ (x % 2 + y % 2) % 2
    low x y = omega arith

-- ---- a row turned: the part from s on takes the row's first 374 - s bits, the part below s the rest
module _ (x w : List ℕ) (s : ℕ) (lx : length x ≡ 374) (lw : length w ≡ 374) (hs : s < 374) where
  -- the slice after the first call, and after the second
  pub high : List ℕ
  high = take s x ++ xors (drop s x) (take (374 - s) w)

  high_length : length high ≡ 374
  unfolding high
  high_length =
      length-append (take s x) _ ∙ omega (arith, xors_length (drop s x) (take (374 - s) w), length-take s x, length-drop s x)

  high_low : (i : ℕ) → i < s → get_or high i 0 ≡ get_or x i 0
  unfolding high
  high_low i h = get_or-append (take s x) _ 0 i (omega (arith, length-take-le s x (omega arith))) ∙ get_or-take s x i 0 h

  high_high : (i : ℕ) → i < 374 - s → get_or high (s + i) 0 ≡ bit_xor (get_or x (s + i) 0) (get_or w i 0)
  unfolding high
  high_high i h =
      ap (λ (z : ℕ). get_or (take s x ++ xors (drop s x) (take (374 - s) w)) (z + i) 0) (sym (length-take-le s x (omega arith)))
      ∙ get_or-append-add (take s x) _ i 0
      ∙ xors_at (drop s x) (take (374 - s) w) i (omega (arith, length-drop s x)) (omega (arith, length-take-le (374 - s) w (omega arith)))
      ∙ ap₂ bit_xor (get_or-drop s x i 0) (get_or-take (374 - s) w i 0 h)

  pub both : List ℕ
  both = xors (take s high) (drop (374 - s) w) ++ drop s high

  low_length : length (xors (take s high) (drop (374 - s) w)) ≡ s
  low_length = xors_length (take s high) (drop (374 - s) w) ∙ length-take-le s high (omega (arith, high_length))

  both_low : (i : ℕ) → i < s → get_or both i 0 ≡ bit_xor (get_or x i 0) (get_or w (374 - s + i) 0)
  unfolding both
  both_low i h =
      get_or-append (xors (take s high) (drop (374 - s) w)) (drop s high) 0 i (omega (arith, low_length))
      ∙ xors_at (take s high) (drop (374 - s) w) i (omega (arith, length-take-le s high (omega (arith, high_length)))) (omega (arith, length-drop (374 - s) w))
      ∙ ap₂ bit_xor (get_or-take s high i 0 h ∙ high_low i h) (get_or-drop (374 - s) w i 0)

  both_high : (i : ℕ) → i < 374 - s → get_or both (s + i) 0 ≡ bit_xor (get_or x (s + i) 0) (get_or w i 0)
  unfolding both
  both_high i h =
      ap (λ (z : ℕ). get_or (xors (take s high) (drop (374 - s) w) ++ drop s high) (z + i) 0) (sym low_length)
      ∙ get_or-append-add (xors (take s high) (drop (374 - s) w)) (drop s high) i 0 ∙ get_or-drop s high i 0 ∙ high_high i h

  both_length : length both ≡ 374
  unfolding both
  both_length = length-append (xors (take s high) (drop (374 - s) w)) (drop s high) ∙ omega (arith, low_length, length-drop s high, high_length)

  pub turned : AddedToSums x both (turned_bit w s)
  unfolding turned_bit
  turned = record { long = both_length; sum = λ i h. go i h (dec_lt i s) }
    where
      odd : (a b : ℕ) → bit_xor a b % 2 ≡ (a + b % 2) % 2
      odd a b = omega (arith, xor_parity a b)

      go : (i : ℕ) → i < 374 → Dec (i < s) → get_or both i 0 % 2 ≡ (get_or x i 0 + get_or w ((i + 374 - s) % 374) 0 % 2) % 2
      go i h (yes g) =
          let e : 374 - s + i ≡ (i + 374 - s) % 374 = omega arith in
          ap (λ (z : ℕ). z % 2) (both_low i g) ∙ odd (get_or x i 0) _ ∙ ap (λ (z : ℕ). (get_or x i 0 + get_or w z 0 % 2) % 2) e
      go i h (no g) =
          let e : s + (i - s) ≡ i = omega arith in
          let f : i - s ≡ (i + 374 - s) % 374 = omega arith in
          ap (λ (z : ℕ). get_or both z 0 % 2) (sym e) ∙ ap (λ (z : ℕ). z % 2) (both_high (i - s) (omega arith)) ∙ odd (get_or x (s + (i - s)) 0) _
          ∙ ap₂ (λ (y z : ℕ). (get_or x y 0 + get_or w z 0 % 2) % 2) e f

  -- in the code's terms: u is what the first call leaves, v what the second does
  module _ (u : List ℕ) (e : u ≡ xors (take (374 - s) (drop s x)) (take (374 - s) w)) where
    middle : List ℕ
    middle = take s x ++ (u ++ drop (374 - s) (drop s x))

    high_is : middle ≡ high
    unfolding high middle
    high_is =
        ap (λ (n : ℕ). take s x ++ (u ++ drop (n - s) (drop s x))) (sym lx)
        ∙ back_from s x u ∙ ap (λ (z : List ℕ). take s x ++ z) (e ∙ ap (λ (n : ℕ). xors (take (n - s) (drop s x)) (take (374 - s) w)) (sym lx) ∙ ap (λ (y : List ℕ). xors y (take (374 - s) w)) (lent_from s x))

    pub turned_done : (v : List ℕ)
        → v ≡ xors (take s (take s x ++ (u ++ drop (374 - s) (drop s x)))) (take (length w - (374 - s)) (drop (374 - s) w))
        → AddedToSums x (v ++ drop s (take s x ++ (u ++ drop (374 - s) (drop s x)))) (turned_bit w s)
    unfolding both middle
    turned_done v f =
        subst (λ (y : List ℕ). AddedToSums x y (turned_bit w s))
        (sym (ap₂ (λ (y z : List ℕ). y ++ z) (f ∙ ap₂ (λ (y z : List ℕ). xors (take s y) z) high_is (lent_from (374 - s) w)) (ap (drop s) high_is))) turned

-- ---- what is left to add: the sums x and f come to the sums x₀ and g
abbrev pub Left : List ℕ → (ℕ → ℕ) → List ℕ → (ℕ → ℕ) → Type 0
Left x f x₀ g = (j : ℕ) → j < 374 → (get_or x j 0 + f j) % 2 ≡ (get_or x₀ j 0 + g j) % 2

add_one_more : (x y t r z : ℕ) → y % 2 ≡ (x + t) % 2 → (x + (t + r)) % 2 ≡ z → (y + r) % 2 ≡ z
add_one_more x y t r z e f = omega arith

pub left_add : (x y x₀ : List ℕ) (t f h g : ℕ → ℕ) → AddedToSums x y t → ((j : ℕ) → j < 374 → f j ≡ t j + h j) → Left x f x₀ g → Left y h x₀ g
left_add x y x₀ t f h g a e l j i =
    add_one_more (get_or x j 0) (get_or y j 0) (t j) (h j) _ (a.sum j i) (ap (λ (z : ℕ). (get_or x j 0 + z) % 2) (sym (e j i)) ∙ l j i)

pub left_same : (x y x₀ : List ℕ) (f h g : ℕ → ℕ) → y ≡ x → ((j : ℕ) → j < 374 → f j ≡ h j) → Left x f x₀ g → Left y h x₀ g
left_same x y x₀ f h g s e l j i = ap₂ (λ (u : List ℕ) (z : ℕ). (get_or u j 0 + z) % 2) s (sym (e j i)) ∙ l j i

pub left_none : (x x₀ : List ℕ) (f g : ℕ → ℕ) → length x ≡ 374 → ((j : ℕ) → j < 374 → f j ≡ 0) → Left x f x₀ g → AddedToSums x₀ x g
left_none x x₀ f g l e L = record { long = l; sum = λ j i. none (get_or x j 0) (f j) _ (e j i) (L j i) }
  where
    none : (x f z : ℕ) → f ≡ 0 → (x + f) % 2 ≡ z → x % 2 ≡ z
    none x f z e g = omega arith

-- ---- the addresses of a row
module _ (q l : ℕ) (w row : List ℕ) (i : ℕ) where
  row_next : i < length row → (j : ℕ) → row_bit q l w (drop i row) j
      ≡ cond (eqb (get_or row i 0 % q) l) (turned_bit w (get_or row i 0 / q % 374) j + row_bit q l w (drop (i + 1) row) j) (row_bit q l w (drop (i + 1) row) j)
  unfolding row_bit
  row_next h j =
      ap (λ (z : List ℕ). row_bit q l w z j) (drop-cons row i 0 h)
      ∙ ap (λ (z : ℕ). cond (eqb (get_or row i 0 % q) l) (turned_bit w (get_or row i 0 / q % 374) j + row_bit q l w (drop z row) j) (row_bit q l w (drop z row) j)) (sym (add-one i))

  pub row_hit : (x y x₀ : List ℕ) (r s : ℕ) → i < length row → r ≡ get_or row i 0 % q → r ≡ l → s ≡ get_or row i 0 / q % 374 → AddedToSums x y (turned_bit w s)
      → Left x (row_bit q l w (drop i row)) x₀ (row_bit q l w row) → Left y (row_bit q l w (drop (i + 1) row)) x₀ (row_bit q l w row)
  row_hit x y x₀ r s h e f g a =
      left_add x y x₀ (turned_bit w s) (row_bit q l w (drop i row)) (row_bit q l w (drop (i + 1) row)) (row_bit q l w row) a
      (λ j k. row_next h j
      ∙ ap (λ t. cond t (turned_bit w (get_or row i 0 / q % 374) j + row_bit q l w (drop (i + 1) row) j) (row_bit q l w (drop (i + 1) row) j)) (eq-eqb _ _ (sym e ∙ f))
      ∙ ap (λ (z : ℕ). turned_bit w z j + row_bit q l w (drop (i + 1) row) j) (sym g))

  pub row_miss : (x y x₀ : List ℕ) (r : ℕ) → i < length row → r ≡ get_or row i 0 % q → (r ≡ l → ⊥) → y ≡ x
      → Left x (row_bit q l w (drop i row)) x₀ (row_bit q l w row) → Left y (row_bit q l w (drop (i + 1) row)) x₀ (row_bit q l w row)
  row_miss x y x₀ r h e f s =
      left_same x y x₀ (row_bit q l w (drop i row)) (row_bit q l w (drop (i + 1) row)) (row_bit q l w row) s
      (λ j k. row_next h j
      ∙ ap (λ t. cond t (turned_bit w (get_or row i 0 / q % 374) j + row_bit q l w (drop (i + 1) row) j) (row_bit q l w (drop (i + 1) row) j)) (ne_eqb _ _ (λ z. f (e ∙ z))))

  pub row_end : (x x₀ : List ℕ) → length x ≡ 374 → length row ≤ i → Left x (row_bit q l w (drop i row)) x₀ (row_bit q l w row) → AddedToSums x₀ x (row_bit q l w row)
  unfolding row_bit
  row_end x x₀ k h =
      left_none x x₀ (row_bit q l w (drop i row)) (row_bit q l w row) k
      (λ j g. ap (λ (z : List ℕ). row_bit q l w z j) (drop_of_length-le row {i = i} h))
