-- The loops over the checks l, l + q, and so on, and over the residues l.
use Rattle.std.proofs.Common.{◌≡◌, refl, sym, ap, ap₂, ◌∙◌, subst, List, ℕ, zero, suc, ◌+◌, ◌-◌, ◌*◌, ◌/◌, ◌%◌, ◌≤◌, ◌<◌, arith, mod-lt, mul-lt-mul_of_pos_right, div-add-mod', div-lt_iff_lt-mul, zero-add, length, take, drop, get_or, set, replicate, length-set, length-drop, get_or-set_other, get_or-drop}
use Rattle.std.proofs.Math.Decide.{ℕ_discrete}
use Rattle.std.proofs.Math.ListN.{get_or-replicate}
use Rattle.laws.specs.Modulo.{sum_to, sum_none, sum_more, sum_same, sum_grid}
use Rattle.laws.specs.Stores.{set_at}
use Rattle.laws.specs.Lists.{lent_from}
use Rattle.ldpc_shape.specs.declared.Table.{Table}
use Rattle.ldpc_shape.specs.Shape.{k_of, p_of, rows_of}
use Rattle.ldpc_shape.proofs.Accepted.{table_bounded, table_k, table_p, table_q}
use Rattle.ldpc_edges.specs.Code.{of_rows, meets, only, ones, stairs, check, sums, parity, unmet, unmets, weight}
use Rattle.ldpc_edges.proofs.Encoder.{parity_from}
use Rattle.ldpc_encode.specs.Sums.{AddedToSums, info_bit, Scattered, stair_bit, unmet_at}
use Rattle.ldpc_encode.proofs.Rows.{at_mod, at_lt, ones_append}

-- ---- scattering
pub scatter_again : (q l : ℕ) (x out out' : List ℕ) (i : ℕ) → l < q → i < 374 → length out ≡ 374 * q → Scattered i q l x out out'
    → Scattered (i + 1) q l x out (set out' (l + i * q) (get_or x i 0 % 2))
scatter_again q l x out out' i hl hi lo S =
    record {
      long = length-set out' (l + i * q) _ ∙ S.long;
      put = λ j h. put j h (ℕ_discrete j i);
      kept = λ d h. get_or-set_other out' (l + i * q) d _ 0 (λ f. h (ap (λ (z : ℕ). z % q) f ∙ at_mod q l i hl)) ∙ S.kept d h;
    }
  where
    put : (j : ℕ) → j < i + 1 → Dec (j ≡ i) → get_or (set out' (l + i * q) (get_or x i 0 % 2)) (l + j * q) 0 ≡ get_or x j 0 % 2
    put j h (yes f) =
        set_at 0 out' (l + i * q) _ (l + j * q) (omega (arith, S.long, at_lt q l i hl hi)) (ap (λ (z : ℕ). l + z * q) f) ∙ ap (λ (z : ℕ). get_or x z 0 % 2) (sym f)
    put j h (no f) =
        let g : j < i = omega arith in
        get_or-set_other out' (l + i * q) (l + j * q) _ 0 (λ z. omega (arith, mul-lt-mul_of_pos_right {k = q} g (omega arith))) ∙ S.put j g

-- ---- counting
pub count_next : (q l : ℕ) (x p : List ℕ) (i s r b : ℕ) → s ≡ sum_to i (unmet_at q l x p) → b % 2 ≡ stair_bit p (l + i * q) % 2 → r ≡ (get_or x i 0 + b) % 2
    → s + r ≡ sum_to (i + 1) (unmet_at q l x p)
unfolding unmet_at
count_next q l x p i s r b f g h = ap₂ (λ (y z : ℕ). y + z) f bit ∙ sum_more i (unmet_at q l x p)
  where
    low : (x b t : ℕ) → b % 2 ≡ t % 2 → (x + b) % 2 ≡ (x + t) % 2
    low x b t e = omega arith

    bit : r ≡ unmet_at q l x p i
    bit = h ∙ low (get_or x i 0) b (stair_bit p (l + i * q)) g

-- ---- the residues, for the parity: those below l are done
abbrev pub Done : ℕ → ℕ → List ℕ → (ℕ → ℕ) → Type 0
Done q l out f = (c : ℕ) → c < 374 * q → c % q < l → get_or out c 0 ≡ f c % 2

pub done_again : (q l : ℕ) (x out out' : List ℕ) (f : ℕ → ℕ) → l < q → Scattered 374 q l x out out' → ((i : ℕ) → i < 374 → get_or x i 0 % 2 ≡ f (l + i * q) % 2)
    → Done q l out f → Done q (l + 1) out' f
done_again q l x out out' f hl S X D c h g = go (ℕ_discrete (c % q) l)
  where
    go : Dec (c % q ≡ l) → get_or out' c 0 ≡ f c % 2
    go (yes e) =
        let i : c / q < 374 = (div-lt_iff_lt-mul {k = q} (omega arith)).1 h in
        let d : l + c / q * q ≡ c = omega (arith, div-add-mod' c q) in
        ap (λ (z : ℕ). get_or out' z 0) (sym d) ∙ S.put (c / q) i ∙ X (c / q) i ∙ ap (λ (z : ℕ). f z % 2) d
    go (no e) = S.kept c e ∙ D c h (omega arith)

-- how many of the information bits of check c are 1
unfoldable pub info_ones : ℕ → List ℕ → List ℕ → List ℕ → ℕ → ℕ
info_ones n lens addrs w c = ones w (only c (meets n lens addrs))

-- how many of the checks with residues below l are unsatisfied
unfoldable pub unmet_below : ℕ → List ℕ → List ℕ → ℕ → List ℕ → ℕ → ℕ
unmet_below n lens addrs s w l = sum_to l (λ m. sum_to 374 (λ i. unmet n lens addrs w (m + i * s)))

-- ---- for a table
module _ (T : Table) where
  abbrev n : ℕ
  n = T.sizes.n

  abbrev lens : List ℕ
  lens = T.lens.now

  abbrev addrs : List ℕ
  addrs = T.addrs.now

  abbrev q : ℕ
  q = T.sizes.q

  rows_fit : 374 * length lens ≡ T.sizes.k
  unfolding k_of
  rows_fit = sym (table_k T)

  pub k_fits : (w : List ℕ) → T.sizes.k ≤ length w → 374 * length lens ≤ length w
  k_fits w h = omega (arith, rows_fit)

  p_is : p_of n lens ≡ 374 * q
  p_is = sym (table_p T) ∙ (table_bounded T).p_is

  pub info_is : (w : List ℕ) (l i : ℕ) → info_bit q l w lens addrs i ≡ info_ones n lens addrs w (l + i * q)
  unfolding info_bit info_ones meets
  info_is w l i = ap₂ (λ (y z : ℕ). ones w (only (l + i * q) (of_rows y z 0 (rows_of lens addrs)))) (sym p_is) (table_q T)

  pub parity_done : (w out : List ℕ) → length out ≡ T.sizes.p → (l : ℕ) → q ≤ l → Done q l out (info_ones n lens addrs w) → sums 0 out ≡ parity n lens addrs w
  unfolding info_ones
  parity_done w out lo l h D =
      parity_from n lens addrs w (subst (λ (z : ℕ). 0 < z) (table_p T) (table_bounded T).p_pos) out (lo ∙ table_p T)
      (λ c g. D c (subst (λ (z : ℕ). c < z) p_is g) (omega (arith, mod-lt c (table_bounded T).q_pos)))

  -- the parity part of a word, as it is lent
  part_is : (w : List ℕ) → take (length w - T.sizes.k) (drop T.sizes.k w) ≡ drop (k_of lens) w
  part_is w = lent_from T.sizes.k w ∙ ap (λ (z : ℕ). drop z w) (table_k T)

  pub parity_size : (w : List ℕ) → length w ≡ T.sizes.n → length (take (length w - T.sizes.k) (drop T.sizes.k w)) ≡ 374 * q
  parity_size w g = ap length (lent_from T.sizes.k w) ∙ length-drop T.sizes.k w ∙ omega (arith, table_bounded T)

  pub parity_part : (w : List ℕ) (l : ℕ) (x : List ℕ)
      → sum_to 374 (unmet_at q l x (take (length w - T.sizes.k) (drop T.sizes.k w))) ≡ sum_to 374 (unmet_at q l x (drop (k_of lens) w))
  parity_part w l x = ap (λ (z : List ℕ). sum_to 374 (unmet_at q l x z)) (part_is w)

  -- ---- the weight: check c of a word w is odd as its information and its parity bits are together
  stair_ones : (w : List ℕ) (c : ℕ) → ones w (stairs (k_of lens) c) ≡ stair_bit (drop (k_of lens) w) c
  unfolding stairs stair_bit ones
  stair_ones w zero =
      let z : k_of lens ≡ k_of lens + 0 = omega arith in
      let y = ap (λ (v : ℕ). get_or w v 0) z ∙ sym (get_or-drop (k_of lens) w 0 0) in
      omega arith
  stair_ones w (suc c) =
      let y = get_or-drop (k_of lens) w c 0 in
      let z = get_or-drop (k_of lens) w (suc c) 0 in
      omega arith

  unmet_is : (w x : List ℕ) (l i : ℕ) → get_or x i 0 % 2 ≡ info_ones n lens addrs w (l + i * q) % 2 → unmet n lens addrs w (l + i * q) ≡ unmet_at q l x (drop (k_of lens) w) i
  unfolding unmet check unmet_at info_ones
  unmet_is w x l i h =
      ap (λ (z : ℕ). z % 2) (ones_append w (only (l + i * q) (meets n lens addrs)) (stairs (k_of lens) (l + i * q)))
      ∙ ap (λ (z : ℕ). (ones w (only (l + i * q) (meets n lens addrs)) + z) % 2) (stair_ones w (l + i * q))
      ∙ low _ (get_or x i 0) _ h
    where
      low : (a b t : ℕ) → b % 2 ≡ a % 2 → (a + t) % 2 ≡ (b + t) % 2
      low a b t e = omega arith

  pub below_start : (w : List ℕ) → 0 ≡ unmet_below n lens addrs q w 0
  unfolding unmet_below
  below_start w = sum_none _

  pub below_next : (w x : List ℕ) (l u r : ℕ) → ((i : ℕ) → i < 374 → get_or x i 0 % 2 ≡ info_bit q l w lens addrs i % 2)
      → u ≡ unmet_below n lens addrs q w l → r ≡ sum_to 374 (unmet_at q l x (drop (k_of lens) w)) → u + r ≡ unmet_below n lens addrs q w (l + 1)
  unfolding unmet_below
  below_next w x l u r X f g =
      ap₂ (λ (y z : ℕ). y + z) f (g ∙ sum_same 374 _ _ (λ i h. sym (unmet_is w x l i (X i h ∙ ap (λ (z : ℕ). z % 2) (info_is w l i)))))
      ∙ sum_more l (λ m. sum_to 374 (λ i. unmet n lens addrs w (m + i * q)))

  unmets_sum : (w : List ℕ) (c : ℕ) → unmets n lens addrs w c ≡ sum_to c (unmet n lens addrs w)
  unfolding unmets sum_to
  unmets_sum w zero = refl
  unmets_sum w (suc c) = ap (λ (z : ℕ). unmet n lens addrs w c + z) (unmets_sum w c)

  pub below_end : (w : List ℕ) (l u : ℕ) → l ≡ q → u ≡ unmet_below n lens addrs q w l → u ≡ weight n lens addrs w
  unfolding unmet_below weight
  below_end w l u h f =
      f ∙ ap (λ (z : ℕ). sum_to z (λ m. sum_to 374 (λ i. unmet n lens addrs w (m + i * q)))) h
      ∙ sym (unmets_sum w (p_of n lens) ∙ ap (λ (z : ℕ). sum_to z (unmet n lens addrs w)) p_is ∙ sum_grid 374 q (unmet n lens addrs w))

-- ---- a fresh array of sums
pub from_zeros : (x : List ℕ) (f : ℕ → ℕ) → AddedToSums (replicate 374 0) x f → (i : ℕ) → i < 374 → get_or x i 0 % 2 ≡ f i % 2
from_zeros x f a i h = a.sum i h ∙ ap (λ (z : ℕ). (z + f i) % 2) (get_or-replicate 374 i 0 0 h) ∙ ap (λ (z : ℕ). z % 2) (zero-add (f i))
