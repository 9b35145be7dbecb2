-- A check's list and its parity bits: each is in two checks, once.
use Rattle.std.proofs.Common.{◌≡◌, refl, Bool, true, false, cond, eqb, take, drop, get_or, ap, ◌∙◌, arith, eqb-true, get_or-append-add, drop-drop, List, [], ◌∷◌, ◌++◌, ℕ, zero, suc, ◌+◌, ◌-◌, ◌≤◌, ◌<◌}
use Rattle.std.proofs.Math.Path.{sym}
use Rattle.std.proofs.Math.Decide.{dec_lt}
use Rattle.std.proofs.Math.ListN.{length, length-append, get_or-append}
use Rattle.ldpc_shape.specs.Shape.{k_of, p_of, total}
use Rattle.ldpc_edges.specs.Code.{Edge, edge, meets, only, stairs, check}
use Rattle.ldpc_edges.specs.Inside.{Inside}
use Rattle.ldpc_edges.proofs.Inside.{meets_inside}

-- the list has no u
abbrev pub Without : ℕ → List ℕ → Type 0
Without u xs = (k : ℕ) → k < length xs → get_or xs k 0 ≡ u → ⊥

without_append : (u : ℕ) (xs ys : List ℕ) → Without u xs → Without u ys → Without u (xs ++ ys)
without_append u xs ys h g k q e = go (dec_lt k (length xs))
  where
    go : Dec (k < length xs) → ⊥
    go (yes l) = h k l (sym (get_or-append xs ys 0 k l) ∙ e)
    go (no l) =
        let z : length xs + (k - length xs) ≡ k = omega arith in
        g (k - length xs) (omega (arith, length-append xs ys)) (sym (get_or-append-add xs ys (k - length xs) 0) ∙ ap (λ (j : ℕ). get_or (xs ++ ys) j 0) z ∙ e)

-- no edge of check c and bit u
abbrev pub Free : ℕ → ℕ → List Edge → Type 0
Free c u [] = Unit {0}
Free c u (edge p m ∷ es) = (p ≡ c → m ≡ u → ⊥) × Free c u es

only_without : (c u : ℕ) (es : List Edge) → Free c u es → Without u (only c es)
unfolding only
only_without c u [] h k q e = omega (arith, q)
only_without c u (edge p m ∷ es) h k q e = go (eqb p c) refl k q e (only_without c u es h.1)
  where
    go : (b : Bool) → eqb p c ≡ b → (k : ℕ) → k < length (cond b (m ∷ only c es) (only c es)) → get_or (cond b (m ∷ only c es) (only c es)) k 0 ≡ u → Without u (only c es) → ⊥
    go true s zero q e ih = h.0 (eqb-true p c s) e
    go true s (suc k) q e ih = ih k (omega arith) e
    go false s k q e ih = ih k q e

-- row g: its addresses begin where those of the rows before it end
abbrev pub row_of : List ℕ → List ℕ → ℕ → List ℕ
row_of lens addrs g = take (get_or lens g 0) (drop (total (take g lens)) addrs)

pub row_next : (l : ℕ) (lens addrs : List ℕ) (g : ℕ) → row_of (l ∷ lens) addrs (suc g) ≡ row_of lens (drop l addrs) g
unfolding total
row_next l lens addrs g = ap (take (get_or lens g 0)) (sym (drop-drop (total (take g lens)) l addrs))

-- ---- parity bits
pub stairs_below : (k c u : ℕ) → u < k → Without u (stairs k c)
unfolding stairs
stairs_below k zero u h zero q e = omega arith
stairs_below k zero u h (suc i) q e = omega arith
stairs_below k (suc c) u h zero q e = omega arith
stairs_below k (suc c) u h (suc zero) q e = omega arith
stairs_below k (suc c) u h (suc (suc i)) q e = omega arith

pub stairs_from : (k c i : ℕ) → i < length (stairs k c) → k ≤ get_or (stairs k c) i 0
unfolding stairs
stairs_from k zero zero q = omega arith
stairs_from k zero (suc i) q = absurd (omega (arith, q))
stairs_from k (suc c) zero q = omega arith
stairs_from k (suc c) (suc zero) q = omega arith
stairs_from k (suc c) (suc (suc i)) q = absurd (omega (arith, q))

stairs_few : (k c : ℕ) → length (stairs k c) ≤ 2
unfolding stairs
stairs_few k zero = omega arith
stairs_few k (suc c) = omega arith

stairs_off : (k c y : ℕ) → (y ≡ c → ⊥) → (y + 1 ≡ c → ⊥) → Without (k + y) (stairs k c)
unfolding stairs
stairs_off k zero y h g zero q e = h (omega arith)
stairs_off k zero y h g (suc i) q e = omega arith
stairs_off k (suc c) y h g zero q e = g (omega arith)
stairs_off k (suc c) y h g (suc zero) q e = h (omega arith)
stairs_off k (suc c) y h g (suc (suc i)) q e = omega arith

-- the two are not equal
twice : (k c i j : ℕ) → i < length (stairs k c) → j < length (stairs k c) → get_or (stairs k c) i 0 ≡ get_or (stairs k c) j 0 → i ≡ j
unfolding stairs
twice k zero i j a b e = omega arith
twice k (suc c) zero zero a b e = refl
twice k (suc c) zero (suc zero) a b e = absurd (omega arith)
twice k (suc c) (suc zero) zero a b e = absurd (omega arith)
twice k (suc c) (suc zero) (suc zero) a b e = refl
twice k (suc c) (suc (suc i)) j a b e = absurd (omega arith)
twice k (suc c) zero (suc (suc j)) a b e = absurd (omega arith)
twice k (suc c) (suc zero) (suc (suc j)) a b e = absurd (omega arith)

inside_free : (P k c u : ℕ) (es : List Edge) → k ≤ u → Inside P k es → Free c u es
inside_free P k c u [] h I = tt
inside_free P k c u (edge p m ∷ es) h I = (λ e f. omega (arith, I.1), inside_free P k c u es h I.2)

-- ---- a check's list
module _ (n : ℕ) (lens addrs : List ℕ) where
  pub check_length : (c : ℕ) → length (check n lens addrs c) ≤ length (only c (meets n lens addrs)) + 2
  unfolding check
  check_length c = omega (arith, length-append (only c (meets n lens addrs)) (stairs (k_of lens) c), stairs_few (k_of lens) c)

  pub parity_without : (c y : ℕ) → 0 < p_of n lens → (y ≡ c → ⊥) → (y + 1 ≡ c → ⊥) → Without (k_of lens + y) (check n lens addrs c)
  unfolding check
  parity_without c y h a b =
      without_append (k_of lens + y) (only c (meets n lens addrs)) (stairs (k_of lens) c)
      (only_without c (k_of lens + y) (meets n lens addrs) (inside_free (p_of n lens) (k_of lens) c (k_of lens + y) (meets n lens addrs) (omega arith) (meets_inside n lens addrs h)))
      (stairs_off (k_of lens) c y a b)

  -- a parity bit stands once in a check's list
  pub parity_once : (c y : ℕ) → 0 < p_of n lens → (k l : ℕ) → k < length (check n lens addrs c) → l < length (check n lens addrs c)
      → get_or (check n lens addrs c) k 0 ≡ k_of lens + y → get_or (check n lens addrs c) l 0 ≡ k_of lens + y → k ≡ l
  unfolding check
  parity_once c y h k l a b e f =
      let i = place k a e in
      let j = place l b f in
      omega (arith, twice (k_of lens) c (k - length before) (l - length before) i.1.0 j.1.0 (i.1.1 ∙ sym j.1.1), i.0, j.0)
    where
      before : List ℕ
      before = only c (meets n lens addrs)

      free : Without (k_of lens + y) before
      free = only_without c (k_of lens + y) (meets n lens addrs) (inside_free (p_of n lens) (k_of lens) c (k_of lens + y) (meets n lens addrs) (omega arith) (meets_inside n lens addrs h))

      place : (k : ℕ) → k < length (before ++ stairs (k_of lens) c) → get_or (before ++ stairs (k_of lens) c) k 0 ≡ k_of lens + y
          → (length before ≤ k) × ((k - length before < length (stairs (k_of lens) c)) × (get_or (stairs (k_of lens) c) (k - length before) 0 ≡ k_of lens + y))
      place k a e = go (dec_lt k (length before))
        where
          go : Dec (k < length before) → (length before ≤ k) × ((k - length before < length (stairs (k_of lens) c)) × (get_or (stairs (k_of lens) c) (k - length before) 0 ≡ k_of lens + y))
          go (yes q) = absurd (free k q (sym (get_or-append before (stairs (k_of lens) c) 0 k q) ∙ e))
          go (no q) =
              let z : length before + (k - length before) ≡ k = omega arith in (
                omega arith,
                (
                  omega (arith, length-append before (stairs (k_of lens) c)),
                  sym (get_or-append-add before (stairs (k_of lens) c) (k - length before) 0) ∙ ap (λ (j : ℕ). get_or (before ++ stairs (k_of lens) c) j 0) z ∙ e,
                ),
              )
