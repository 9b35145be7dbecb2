-- The loops of `discrepancy` and `mend`, and what holds at the head of the loop of `shortest`, which each way through keeps. Assumes nothing.
use Rattle.std.proofs.Common.{◌≡◌, refl, sym, ap, ap₂, ◌∙◌, subst, ◌≢◌, List, ℕ, zero, suc, ◌+◌, ◌-◌, ◌≤◌, ◌<◌, le_refl, add-one, arith, bit_xor, get_or, length, set, get_or-set_same, get_or-set_other}
use Rattle.std.proofs.Math.Path.{fun_ext, transport}
use Rattle.std.proofs.Math.Decide.{dec_lt, ℕ_discrete}
use Rattle.std.proofs.Math.ListN.{get_or-eq_default}
use Rattle.laws.specs.Definitions.{◌⊕◌}
use Rattle.algebra.specs.RingLaws.{⊠-zero}
use Rattle.algebra.specs.Series.{conv}
use Rattle.algebra.specs.SeriesLaws.{sum, sum_none, sum_last, unit}
use Rattle.algebra.specs.Massey.{Inv, fixed, fixed_at, fixed_below, ups_supp, inv_start, inv_move, discrepancy, step_zero, step_keep, step_grow, no_shorter}
use Rattle.algebra.specs.Register.{Gen}
use Rattle.gf16.specs.Field16.{gf16, R16}
use Rattle.bch_locator.specs.Element.{to_el, to_el_inj, to_el_xor, to_el_zero, to_el_one, poly}
use Rattle.bch_locator.specs.Register.{term, total, Mended, RegisterOf}

pub total_none : (c s : List ℕ) (k : ℕ) → to_el 0 ≡ total c s k 0
unfolding total
total_none c s k = to_el_zero ∙ sym (sum_none R16 _)

pub total_more : (c s : List ℕ) (k i d p : ℕ) → to_el d ≡ total c s k i → to_el p ≡ R16.◌⊠◌ (to_el (get_or c i 0)) (to_el (get_or s (k - i) 0)) → to_el (bit_xor d p) ≡ total c s k (i + 1)
unfolding total term poly ◌⊕◌
total_more c s k i d p e f = to_el_xor d p ∙ ap₂ R16.◌⊞◌ e f ∙ sym (ap (λ (n : ℕ). sum R16 n (term c s k)) (add-one i) ∙ sum_last R16 i (term c s k))

unfoldable pub Mending : List ℕ → List ℕ → ℕ → ℕ → List ℕ → ℕ → Type 0
Mending c c₀ q m b i = (j : ℕ) → j < 13 → (j < i → poly c j ≡ fixed gf16 (poly c₀) (to_el q) m (poly b) j) × (i ≤ j → poly c j ≡ poly c₀ j)

pub mending_start : (c₀ : List ℕ) (q m : ℕ) (b : List ℕ) → Mending c₀ c₀ q m b m
unfolding Mending
mending_start c₀ q m b j h = (λ k. sym (fixed_below gf16 (poly c₀) (to_el q) m (poly b) j k), λ k. refl)

pub mending_again : (c c₀ : List ℕ) (q m : ℕ) (b : List ℕ) (i p : ℕ) → length c ≡ 13 → i < 13 → m ≤ i → Mending c c₀ q m b i
    → to_el p ≡ R16.◌⊠◌ (to_el q) (to_el (get_or b (i - m) 0)) → Mending (set c i (bit_xor (get_or c i 0) p)) c₀ q m b (i + 1)
unfolding Mending poly ◌⊕◌
mending_again c c₀ q m b i p len h hm inv e j hj = pick (ℕ_discrete i j)
  where
    new : ℕ
    new = bit_xor (get_or c i 0) p

    same : to_el (get_or (set c i new) i 0) ≡ fixed gf16 (poly c₀) (to_el q) m (poly b) i
    same =
        ap to_el (get_or-set_same c i new 0 (omega (arith, len))) ∙ to_el_xor (get_or c i 0) p ∙ ap₂ R16.◌⊞◌ ((inv i h).1 (le_refl i)) e
        ∙ sym (fixed_at gf16 (poly c₀) (to_el q) m (poly b) i (i - m) (omega arith))

    pick : Dec (i ≡ j) → (j < i + 1 → to_el (get_or (set c i new) j 0) ≡ fixed gf16 (poly c₀) (to_el q) m (poly b) j) × (i + 1 ≤ j → to_el (get_or (set c i new) j 0) ≡ to_el (get_or c₀ j 0))
    pick (yes d) =
        (λ _. subst (λ (z : ℕ). to_el (get_or (set c i new) z 0) ≡ fixed gf16 (poly c₀) (to_el q) m (poly b) z) d same, λ k. absurd (omega arith))
    pick (no ne) =
        let o : to_el (get_or (set c i new) j 0) ≡ to_el (get_or c j 0) = ap to_el (get_or-set_other c i j new 0 (λ w. ne (sym w))) in
        (λ k. o ∙ (inv j hj).0 (omega arith), λ k. o ∙ (inv j hj).1 (omega arith))

pub mending_end : (c c₀ : List ℕ) (q m : ℕ) (b : List ℕ) (i : ℕ) → 13 ≤ i → length c ≡ 13 → Mending c c₀ q m b i → Mended c c₀ q m b
unfolding Mending
mending_end c c₀ q m b i h e inv = record { len = e; at = λ j hj. (inv j hj).0 (omega arith) }

pub record State (s c b : List ℕ) (l m e k : ℕ) : Type 0 where
  pub k_le : k ≤ 24
  pub l_le : l ≤ 12
  pub l_k : l ≤ k
  pub l_m : l + m ≤ k + 1
  pub len : length c ≡ 13
  pub inv : Inv gf16 (poly s) k l (k + 1 - (l + m)) m (poly c) (poly b) (to_el e)

module _ (s c b : List ℕ) (l m e k : ℕ) (S : State s c b l m e k) where
  conv_is : (d : ℕ) → to_el d ≡ total c s k (l + 1) → to_el d ≡ conv R16 (poly c) (poly s) k
  unfolding total term
  conv_is d e' = e' ∙ ap (λ (n : ℕ). sum R16 n (term c s k)) (add-one l) ∙ discrepancy gf16 (poly s) k l (k + 1 - (l + m)) m (poly c) (poly b) (to_el e) S.inv

  nonzero : (d : ℕ) → to_el d ≡ total c s k (l + 1) → d < 65536 → d ≢ 0 → conv R16 (poly c) (poly s) k ≢ R16.𝟘
  nonzero d e' h ne z = ne (to_el_inj d 0 h (omega arith) (conv_is d e' ∙ z ∙ sym to_el_zero))

  pub state_zero : (d : ℕ) → k < 24 → to_el d ≡ total c s k (l + 1) → d ≡ 0 → State s c b l (m + 1) e (k + 1)
  state_zero d h e' z =
      record {
        k_le = omega arith;
        l_le = S.l_le;
        l_k = omega (arith, S.l_k);
        l_m = omega (arith, S.l_m);
        len = S.len;
        inv =
            inv_move gf16 (poly s)
            (step_zero gf16 (poly s) k l (k + 1 - (l + m)) m (poly c) (poly b) (to_el e) S.inv (sym (conv_is d e') ∙ ap to_el z ∙ to_el_zero))
            (sym (add-one k)) refl same (sym (add-one m)) refl refl refl;
      }
    where
      same : k + 1 - (l + m) ≡ k + 1 + 1 - (l + (m + 1))
      same = omega arith

  mended_fun : (c' : List ℕ) (q : ℕ) → Mended c' c q m b → k + 1 - l ≤ 12 → poly c' ≡ fixed gf16 (poly c) (to_el q) m (poly b)
  unfolding fixed poly
  mended_fun c' q M h = fun_ext (λ i. pick i (dec_lt i 13))
    where
      pick : (i : ℕ) → Dec (i < 13) → poly c' i ≡ fixed gf16 (poly c) (to_el q) m (poly b) i
      pick i (yes g) = M.at i g
      pick i (no g) =
          ap to_el (get_or-eq_default c' 0 {n = i} (omega (arith, M.len))) ∙ to_el_zero
          ∙ sym (ap₂ (λ y z. R16.◌⊞◌ y (R16.◌⊠◌ (to_el q) z)) (S.inv.gen.supp i (omega (arith, S.l_le))) (ups_supp gf16 m (k + 1 - (l + m)) (poly b) S.inv.supp_b i (omega (arith, S.l_m)))
          ∙ ap (R16.◌⊞◌ R16.𝟘) (⊠-zero R16 (to_el q)) ∙ R16.⊞-zero R16.𝟘)

  module _ (d : ℕ) (h : k < 24) (e' : to_el d ≡ total c s k (l + 1)) (hd : d < 65536) (ne : d ≢ 0) where
    nz : conv R16 (poly c) (poly s) k ≢ R16.𝟘
    nz = nonzero d e' hd ne

    module _ (v q : ℕ) (ev : to_el v ≡ gf16.inv (to_el e)) (eq : to_el q ≡ R16.◌⊠◌ (to_el d) (to_el v)) where
      factor : to_el q ≡ R16.◌⊠◌ (conv R16 (poly c) (poly s) k) (gf16.inv (to_el e))
      factor = eq ∙ ap₂ R16.◌⊠◌ (conv_is d e') ev

      mended_to : (c' : List ℕ) → Mended c' c q m b → k + 1 - l ≤ 12 → fixed gf16 (poly c) (R16.◌⊠◌ (conv R16 (poly c) (poly s) k) (gf16.inv (to_el e))) m (poly b) ≡ poly c'
      mended_to c' M g = sym (mended_fun c' q M g ∙ ap (λ z. fixed gf16 (poly c) z m (poly b)) factor)

      pub state_keep : (c' : List ℕ) → Mended c' c q m b → k < l + l → State s c' b l (m + 1) e (k + 1)
      state_keep c' M g =
          record {
            k_le = omega arith;
            l_le = S.l_le;
            l_k = omega (arith, S.l_k);
            l_m = omega (arith, S.l_m);
            len = M.len;
            inv =
                inv_move gf16 (poly s)
                (step_keep gf16 (poly s) k l (k + 1 - (l + m)) m (poly c) (poly b) (to_el e) S.inv nz g)
                (sym (add-one k)) refl same (sym (add-one m)) (mended_to c' M (omega (arith, S.l_le))) refl refl;
          }
        where
          same : k + 1 - (l + m) ≡ k + 1 + 1 - (l + (m + 1))
          same = omega arith

      pub state_grow : (c' : List ℕ) → Mended c' c q m b → l + l ≤ k → k + 1 - l ≤ 12 → State s c' c (k + 1 - l) 1 d (k + 1)
      state_grow c' M g a =
          record {
            k_le = omega arith;
            l_le = a;
            l_k = omega arith;
            l_m = omega (arith, S.l_k);
            len = M.len;
            inv =
                inv_move gf16 (poly s)
                (step_grow gf16 (poly s) k l (k + 1 - (l + m)) m (poly c) (poly b) (to_el e) S.inv nz g)
                (sym (add-one k)) length_is same refl (mended_to c' M a) refl (sym (conv_is d e'));
          }
        where
          length_is : suc k - l ≡ k + 1 - l
          length_is = omega arith

          same : l ≡ k + 1 + 1 - (k + 1 - l + 1)
          same = omega (arith, S.l_k)

    pub state_fail : 12 < k + 1 - l → (c₀ : List ℕ) → ((i : ℕ) → get_or c₀ i 0 ≡ 0) → RegisterOf s c₀ 13
    state_fail g c₀ z =
        record {
          most = omega arith;
          gen = λ a. absurd (omega arith);
          short = λ c' l' G. let t = no_shorter gf16 (poly s) k l (k + 1 - (l + m)) m (poly c) (poly b) (to_el e) S.inv nz 24 h c' l' G in omega arith;
          none = λ a. z;
        }

  pub state_end : 24 ≤ k → RegisterOf s c l
  state_end g =
      record {
        most = omega (arith, S.l_le);
        gen = λ a. subst (λ (z : ℕ). Gen R16 (poly s) z (poly c) l) k_is S.inv.gen;
        short = λ c' l' G. S.inv.short c' l' (subst (λ (z : ℕ). Gen R16 (poly s) z c' l') (sym k_is) G);
        none = λ a. absurd (omega (arith, S.l_le));
      }
    where
      k_is : k ≡ 24
      k_is = omega (arith, S.k_le)

-- the array at the start
pub one_first : (c : List ℕ) → get_or c 0 0 ≡ 1 → ((i : ℕ) → get_or c (suc i) 0 ≡ 0) → poly c ≡ unit R16
unfolding poly unit
one_first c e f = fun_ext at
  where
    at : (i : ℕ) → to_el (get_or c i 0) ≡ unit R16 i
    at zero = ap to_el e ∙ to_el_one
    at (suc i) = ap to_el (f i) ∙ to_el_zero

pub state_start : (s c b : List ℕ) → length c ≡ 13 → poly c ≡ unit R16 → poly b ≡ unit R16 → State s c b 0 1 1 0
state_start s c b n e f =
    record {
      k_le = omega arith;
      l_le = omega arith;
      l_k = omega arith;
      l_m = omega arith;
      len = n;
      inv = inv_move gf16 (poly s) (inv_start gf16 (poly s)) refl refl refl refl (sym e) (sym f) (sym to_el_one);
    }

pub state_move : (s : List ℕ) {c c' b b' : List ℕ} {l l' m m' e e' : ℕ} (k : ℕ) → State s c b l m e k → c' ≡ c → b' ≡ b → l' ≡ l → m' ≡ m → e' ≡ e → State s c' b' l' m' e' k
state_move s k S pc pb pl pm pe = transport (λ i. State s (sym pc i) (sym pb i) (sym pl i) (sym pm i) (sym pe i) k) S
