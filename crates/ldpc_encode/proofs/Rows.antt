-- The rows' information bits at the checks l + jq.
use Rattle.std.proofs.Common.{◌≡◌, sym, ap, ap₂, ◌∙◌, subst, Bool, true, false, cond, List, [], ◌∷◌, ◌++◌, ℕ, ◌+◌, ◌-◌, ◌*◌, ◌/◌, ◌%◌, ◌<◌, arith, mod-lt, mod-eq_of_lt, eqb, length, take, drop, get_or, get_or-take, get_or-drop}
use Rattle.std.proofs.Math.Nat.{add-mul-div_right, add-mul-mod_self_right, div-eq_of_lt}
use Rattle.std.proofs.Math.Arith.{digits_lt}
use Rattle.ldpc_edges.specs.Code.{Edge, of_bits, only, ones}
use Rattle.ldpc_edges.proofs.Inside.{only_append}
use Rattle.ldpc_edges.specs.Insert.{insert, place}
use Rattle.ldpc_edges.proofs.Insert.{insert_ones, row_cons}
use Rattle.ldpc_edges.proofs.Degree.{bits_none}
use Rattle.ldpc_rows.specs.declared.Row.{Row}
use Rattle.ldpc_rows.specs.declared.Rows.{Rows}
use Rattle.ldpc_rows.specs.Rows.{seen, left}
use Rattle.ldpc_rows.proofs.Edges.{left_edges, edges_start, edges_first, edges_none}
use Rattle.ldpc_encode.specs.Sums.{turned_bit, row_bit, info_bit, AddedToSums}
use Rattle.ldpc_encode.proofs.Bits.{Left, left_add, left_none}

pub ones_append : (w xs ys : List ℕ) → ones w (xs ++ ys) ≡ ones w xs + ones w ys
unfolding ones
ones_append w [] ys = omega arith
ones_append w (x ∷ xs) ys = let ih = ones_append w xs ys in omega arith

-- ---- check l + jq
module _ (q l j : ℕ) (hl : l < q) where
  pub at_mod : (l + j * q) % q ≡ l
  at_mod = add-mul-mod_self_right l j q ∙ mod-eq_of_lt hl

  at_div : (l + j * q) / q ≡ j
  at_div = add-mul-div_right l j (omega arith) ∙ ap (λ (z : ℕ). z + j) (div-eq_of_lt hl) ∙ zero_first
    where
      zero_first : 0 + j ≡ j
      zero_first = omega arith

  pub at_lt : j < 374 → l + j * q < 374 * q
  at_lt h = let e : j * q + l ≡ l + j * q = omega arith in subst (λ (z : ℕ). z < 374 * q) e (digits_lt {q = j} {m = 374} {r = l} {c = q} h hl)

-- ---- a row's bits, m the first, at check l + jq
module _ (q l j : ℕ) (hl : l < q) (hj : j < 374) (m : ℕ) (w : List ℕ) where
  turned_place : (a : ℕ) → get_or w (m + place q (l + j * q) a) 0 % 2 ≡ turned_bit (take 374 (drop m w)) (a / q % 374) j
  unfolding place turned_bit
  turned_place a =
      ap (λ (z : ℕ). get_or w (m + (z + 374 - a / q % 374) % 374) 0 % 2) (at_div q l j hl)
      ∙ ap (λ (z : ℕ). z % 2)
      (sym (get_or-take 374 (drop m w) ((j + 374 - a / q % 374) % 374) 0 (mod-lt (j + 374 - a / q % 374) (omega arith)) ∙ get_or-drop m w ((j + 374 - a / q % 374) % 374) 0))

  row_bit_lem : (row : List ℕ) → ones w (only (l + j * q) (of_bits (374 * q) q 374 m 0 row)) ≡ row_bit q l (take 374 (drop m w)) row j
  unfolding ones row_bit
  row_bit_lem [] = ap (ones w) (bits_none (374 * q) q (l + j * q) 374 m 0)
  row_bit_lem (a ∷ row) =
      ap (ones w) (row_cons q (l + j * q) a (omega arith) (at_lt q l j hl hj) m row)
      ∙ ap (λ (z : ℕ). ones w (cond (eqb (a % q) z) (insert (m + place q (l + j * q) a) (only (l + j * q) (of_bits (374 * q) q 374 m 0 row))) (only (l + j * q) (of_bits (374 * q) q 374 m 0 row))))
      (at_mod q l j hl)
      ∙ go (eqb (a % q) l) (row_bit_lem row)
    where
      go : (t : Bool) → ones w (only (l + j * q) (of_bits (374 * q) q 374 m 0 row)) ≡ row_bit q l (take 374 (drop m w)) row j
          → ones w (cond t (insert (m + place q (l + j * q) a) (only (l + j * q) (of_bits (374 * q) q 374 m 0 row))) (only (l + j * q) (of_bits (374 * q) q 374 m 0 row)))
          ≡ cond t (turned_bit (take 374 (drop m w)) (a / q % 374) j + row_bit q l (take 374 (drop m w)) row j) (row_bit q l (take 374 (drop m w)) row j)
      go true ih =
          insert_ones w (m + place q (l + j * q) a) (only (l + j * q) (of_bits (374 * q) q 374 m 0 row)) ∙ ap₂ (λ (y z : ℕ). y + z) (turned_place a) ih
      go false ih = ih

-- ---- the rows that are left
unfoldable pub info_left : ℕ → ℕ → List ℕ → Rows → ℕ → ℕ
info_left q l w s j = ones w (only (l + j * q) (left_edges (374 * q) q s))

module _ (q l : ℕ) (w : List ℕ) (s : Rows) where
  -- the code's parts: the row's bits and its addresses
  pub info_add : (t : Rows) (r : Row) → l < q → (x y x₀ : List ℕ) (f : ℕ → ℕ) → left s ≡ seen r ∷ left t
      → AddedToSums x y (row_bit q l (take (r.first + 374 - r.first) (drop r.first w)) r.addrs.now)
      → Left x (info_left q l w s) x₀ f → Left y (info_left q l w t) x₀ f
  unfolding info_left
  info_add t r hl x y x₀ f e a =
      left_add x y x₀ (row_bit q l (take (r.first + 374 - r.first) (drop r.first w)) r.addrs.now) (info_left q l w s) (info_left q l w t) f a (λ j hj. next j hj)
    where
      size : r.first + 374 - r.first ≡ 374
      size = omega arith

      next : (j : ℕ) → j < 374 → info_left q l w s j ≡ row_bit q l (take (r.first + 374 - r.first) (drop r.first w)) r.addrs.now j + info_left q l w t j
      next j hj =
          let bits : List Edge = of_bits (374 * q) q 374 r.first 0 r.addrs.now in
          let rest : List Edge = left_edges (374 * q) q t in
          ap (λ (es : List Edge). ones w (only (l + j * q) es)) (edges_first (374 * q) q s t r e)
          ∙ ap (ones w) (only_append (l + j * q) bits rest) ∙ ones_append w (only (l + j * q) bits) (only (l + j * q) rest)
          ∙ ap (λ (z : ℕ). z + ones w (only (l + j * q) rest))
          (row_bit_lem q l j hl hj r.first w r.addrs.now ∙ ap (λ (z : ℕ). row_bit q l (take z (drop r.first w)) r.addrs.now j) (sym size))

  pub info_start : (n : Rows) (lens addrs x : List ℕ) → s ≡ n → n.first ≡ 0 → n.lens.now ≡ lens → n.addrs.now ≡ addrs → Left x (info_left q l w s) x (info_bit q l w lens addrs)
  unfolding info_left info_bit
  info_start n lens addrs x i e f g j h =
      ap (λ (es : List Edge). (get_or x j 0 + ones w (only (l + j * q) es)) % 2) (edges_start (374 * q) q s n lens addrs i e f g)

  pub info_end : (x x₀ : List ℕ) (f : ℕ → ℕ) → length x ≡ 374 → left s ≡ [] → Left x (info_left q l w s) x₀ f → AddedToSums x₀ x f
  unfolding info_left only ones
  info_end x x₀ f k e =
      left_none x x₀ (info_left q l w s) f k
      (λ j i. ap (λ (es : List Edge). ones w (only (l + j * q) es)) (edges_none (374 * q) q s e))
