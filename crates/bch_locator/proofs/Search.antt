-- The search: lane i holds c (l - 1 - i) α^(p (i + 1)), so that c l and the lanes' sum are α^(p l) times the register at α^-p. Assumes nothing.
use Rattle.std.proofs.Common.{◌≡◌, refl, sym, ap, ap₂, ◌∙◌, subst, ◌≢◌, List, ℕ, zero, suc, ◌+◌, ◌-◌, ◌*◌, ◌≤◌, ◌<◌, zero-mul, mul-zero, not-suc-le-zero, add-one, arith, bit_xor, get_or, length, [], ◌∷◌, ◌++◌}
use Rattle.std.proofs.lemmas.List.{get_or_push, get_or_append_left, length_push}
use Rattle.std.proofs.Math.Nat.{suc-sub-suc, sub-zero}
use Rattle.std.proofs.Math.Decide.{ℕ_discrete, dec_lt}
use Rattle.laws.specs.Definitions.{◌⊕◌}
use Rattle.algebra.specs.Ring.{Ring}
use Rattle.algebra.specs.RingLaws.{⊠-zero, ⊠-lc, ⊞-cancel, one-⊠}
use Rattle.algebra.specs.Series.{pow, ev, zeros}
use Rattle.algebra.specs.SeriesLaws.{sum, sum_none, sum_last, sum_front, sum_ext, sum_more, pow_add, conv_sum, conv_pow}
use Rattle.algebra.specs.Power.{pow_mul}
use Rattle.algebra.specs.Roots.{domain, pow_nz}
use Rattle.algebra.specs.Values.{ev_zero}
use Rattle.algebra.specs.Places.{zeros_none, zeros_more, zeros_same}
use Rattle.algebra.specs.Corrects.{roots_fit}
use Rattle.algebra.specs.Gf.{El}
use Rattle.gf16.specs.Field16.{gf16, R16, α, value_at}
use Rattle.gf16.specs.Alpha.{α_nz, α_apart}
use Rattle.bch_locator.specs.Element.{to_el, to_el_inj, to_el_xor, to_el_zero, to_el_one, poly}
use Rattle.bch_locator.specs.Lanes.{Lanes, Products, PowersOf}
use Rattle.bch_locator.specs.Places.{PlacesOf, Reversed}
use Rattle.bch_locator.proofs.Raised.{raised, lanes_raised, lanes_past}

-- ---- the terms
pub record Terms (t c : List ℕ) (l p : ℕ) : Type 0 where
  pub lanes : Lanes t
  pub at : (i : ℕ) → i < l → poly t i ≡ R16.◌⊠◌ (poly c (l - suc i)) (pow R16 α (p * suc i))
  pub rest : (i : ℕ) → l ≤ i → poly t i ≡ R16.𝟘

pub terms_start : (t c : List ℕ) (l : ℕ) → Reversed t c l → Terms t c l 0
unfolding poly pow
terms_start t c l W =
    record {
      lanes = W.lanes;
      at = λ i h. ap to_el (W.at i h) ∙ sym (R16.⊠-one _) ∙ ap (λ (k : ℕ). R16.◌⊠◌ (poly c (l - suc i)) (pow R16 α k)) (sym (zero-mul (suc i)));
      rest = λ i h. ap to_el (W.rest i h) ∙ to_el_zero;
    }

pub terms_again : (r t q c : List ℕ) (l p : ℕ) → l ≤ 12 → Terms t c l p → PowersOf q suc → Products r t q → Terms r c l (p + 1)
terms_again r t q c l p h S P Q =
    record { lanes = Q.lanes; at = next; rest = λ i g. none i g (dec_lt i 12) }
  where
    next : (i : ℕ) → i < l → poly r i ≡ R16.◌⊠◌ (poly c (l - suc i)) (pow R16 α ((p + 1) * suc i))
    next i g =
        let e : suc i + p * suc i ≡ (p + 1) * suc i = omega arith in
        lanes_raised r t q suc S.lanes P Q i (omega arith) ∙ ap (R16.◌⊠◌ (pow R16 α (suc i))) (S.at i g)
        ∙ ⊠-lc R16 (pow R16 α (suc i)) (poly c (l - suc i)) (pow R16 α (p * suc i))
        ∙ ap (R16.◌⊠◌ (poly c (l - suc i))) (sym (pow_add R16 α (suc i) (p * suc i)) ∙ ap (pow R16 α) e)

    idle : (i : ℕ) → 12 ≤ i → Dec (i < 16) → poly r i ≡ R16.𝟘
    idle i g (yes k) = Q.at i k ∙ ap (λ (z : ℕ). ev R16 32 z α) (ap (λ (z : ℕ). get_or t i 0 * z) (P.rest i g) ∙ mul-zero _) ∙ ev_zero R16 32 α
    idle i g (no k) = lanes_past r i Q.lanes (omega arith)

    none : (i : ℕ) → l ≤ i → Dec (i < 12) → poly r i ≡ R16.𝟘
    none i g (yes k) = lanes_raised r t q suc S.lanes P Q i k ∙ ap (R16.◌⊠◌ (pow R16 α (suc i))) (S.rest i g) ∙ ⊠-zero R16 _
    none i g (no k) = idle i (omega arith) (dec_lt i 16)

-- ---- their sum
sum_reverse : {F : Type 0} (R : Ring F) (n : ℕ) (f : ℕ → F) → sum R n f ≡ sum R n (λ i. f (n - suc i))
sum_reverse R zero f = sum_none R f ∙ sym (sum_none R _)
sum_reverse R (suc n) f =
    sum_last R n f ∙ ap₂ R.◌⊞◌ (sum_reverse R n f ∙ sum_ext R n _ _ (λ i h. ap f (sym (suc-sub-suc n (suc i))))) (ap f (sym (sub-zero n) ∙ sym (suc-sub-suc n 0)))
    ∙ R.⊞-comm _ _ ∙ sym (sum_front R n (λ i. f (suc n - suc i)))

pow_none : (x : El 15) → R16.𝟙 ≡ pow R16 x 0
unfolding pow
pow_none x = refl

pow_one : (x : El 15) → pow R16 x 1 ≡ x
unfolding pow
pow_one x = R16.⊠-one x

-- term j of the register at α^-p, times α^(p l)
unfoldable lifted : List ℕ → ℕ → ℕ → ℕ → El 15
lifted c l p j = R16.◌⊠◌ (poly c j) (pow R16 (pow R16 α p) (l - j))

lifted_sum : (c : List ℕ) (l p : ℕ) → R16.◌⊞◌ (sum R16 l (lifted c l p)) (poly c l) ≡ R16.◌⊠◌ (pow R16 (pow R16 α p) l) (value_at (poly c) l p)
unfolding lifted
lifted_sum c l p =
    ap (R16.◌⊞◌ (sum R16 l (lifted c l p))) last
    ∙ sym (sum_last R16 l (lifted c l p)) ∙ sym (conv_sum R16 l (poly c) (pow R16 x)) ∙ conv_pow R16 l (poly c) x (gf16.inv x) (gf16.inv_law x (α_nz p))
  where
    x : El 15
    x = pow R16 α p

    last : poly c l ≡ lifted c l p l
    last = let e : 0 ≡ l - l = omega arith in sym (R16.⊠-one (poly c l)) ∙ ap (R16.◌⊠◌ (poly c l)) (pow_none x ∙ ap (pow R16 x) e)

pub total_is : (t c : List ℕ) (l p : ℕ) → l ≤ 12 → Terms t c l p
    → R16.◌⊞◌ (sum R16 16 (poly t)) (poly c l) ≡ R16.◌⊠◌ (pow R16 (pow R16 α p) l) (value_at (poly c) l p)
unfolding lifted
total_is t c l p h S =
    ap (λ y. R16.◌⊞◌ y (poly c l))
    (sum_more R16 l 16 (poly t) (omega arith) (λ i g _. S.rest i g) ∙ sum_ext R16 l (poly t) (λ i. lifted c l p (l - suc i)) term ∙ sym (sum_reverse R16 l (lifted c l p)))
    ∙ lifted_sum c l p
  where
    term : (i : ℕ) → i < l → poly t i ≡ lifted c l p (l - suc i)
    term i g =
        let e : suc i ≡ l - (l - suc i) = omega arith in
        S.at i g ∙ ap (R16.◌⊠◌ (poly c (l - suc i))) (pow_mul R16 α p (suc i) ∙ ap (pow R16 (pow R16 α p)) e)

-- length 1: α^p and c 1
one_is : (c : List ℕ) (p : ℕ) → poly c 0 ≡ R16.𝟙 → R16.◌⊞◌ (pow R16 α p) (poly c 1) ≡ R16.◌⊠◌ (pow R16 (pow R16 α p) 1) (value_at (poly c) 1 p)
unfolding lifted
one_is c p head =
    ap (λ y. R16.◌⊞◌ y (poly c 1)) (sym (sum_last R16 0 f ∙ ap (λ y. R16.◌⊞◌ y (f 0)) (sum_none R16 f) ∙ R16.⊞-comm _ _ ∙ R16.⊞-zero (f 0) ∙ front)) ∙ lifted_sum c 1 p
  where
    f : ℕ → El 15
    f = lifted c 1 p

    front : f 0 ≡ pow R16 α p
    front = ap (λ y. R16.◌⊠◌ y (pow R16 (pow R16 α p) 1)) head ∙ one-⊠ R16 _ ∙ pow_one (pow R16 α p)

-- two numbers whose sum is the register's value times a power of α
module _ (c : List ℕ) (l p v w : ℕ) (both : R16.◌⊞◌ (to_el v) (to_el w) ≡ R16.◌⊠◌ (pow R16 (pow R16 α p) l) (value_at (poly c) l p)) where
  hit : v ≡ w → value_at (poly c) l p ≡ R16.𝟘
  hit e =
      domain gf16 (value_at (poly c) l p) (pow R16 (pow R16 α p) l)
      (R16.⊠-comm _ _ ∙ sym both ∙ ap (λ (z : ℕ). R16.◌⊞◌ (to_el z) (to_el w)) e ∙ R16.⊞-self (to_el w))
      (pow_nz gf16 (pow R16 α p) l (α_nz p))

  miss : v < 65536 → w < 65536 → v ≢ w → value_at (poly c) l p ≢ R16.𝟘
  miss hv hw ne z =
      ne (to_el_inj v w hv hw (⊞-cancel R16 (to_el v) (to_el w) (both ∙ ap (R16.◌⊠◌ (pow R16 (pow R16 α p) l)) z ∙ ⊠-zero R16 _)))

module _ (t c : List ℕ) (l p v w : ℕ) (h : l ≤ 12) (S : Terms t c l p) (ev : to_el v ≡ sum R16 16 (poly t)) (ew : w ≡ get_or c l 0) where
  both_sum : R16.◌⊞◌ (to_el v) (to_el w) ≡ R16.◌⊠◌ (pow R16 (pow R16 α p) l) (value_at (poly c) l p)
  unfolding poly
  both_sum = ap₂ R16.◌⊞◌ ev (ap to_el ew) ∙ total_is t c l p h S

  pub sum_hit : v ≡ w → value_at (poly c) l p ≡ R16.𝟘
  sum_hit = hit c l p v w both_sum

  pub sum_miss : v < 65536 → w < 65536 → v ≢ w → value_at (poly c) l p ≢ R16.𝟘
  sum_miss = miss c l p v w both_sum

module _ (c : List ℕ) (p v w : ℕ) (head : poly c 0 ≡ R16.𝟙) (ev : to_el v ≡ pow R16 α p) (ew : w ≡ get_or c 1 0) where
  both_one : R16.◌⊞◌ (to_el v) (to_el w) ≡ R16.◌⊠◌ (pow R16 (pow R16 α p) 1) (value_at (poly c) 1 p)
  unfolding poly
  both_one = ap₂ R16.◌⊞◌ ev (ap to_el ew) ∙ one_is c p head

  pub one_hit : v ≡ w → value_at (poly c) 1 p ≡ R16.𝟘
  one_hit = hit c 1 p v w both_one

  pub one_miss : v < 65536 → w < 65536 → v ≢ w → value_at (poly c) 1 p ≢ R16.𝟘
  one_miss = miss c 1 p v w both_one

pub power_start : to_el 1 ≡ pow R16 α 0
power_start = to_el_one ∙ pow_none α

pub power_again : (x r p : ℕ) → x < 65536 → to_el x ≡ pow R16 α p → to_el r ≡ ev R16 32 (x * 2) α → to_el r ≡ pow R16 α (p + 1)
power_again x r p h e f =
    let k : 1 + p ≡ p + 1 = omega arith in
    f ∙ raised x 1 h (omega arith) ∙ ap (R16.◌⊠◌ (pow R16 α 1)) e ∙ sym (pow_add R16 α 1 p) ∙ ap (pow R16 α) k

-- ---- the list of places
pub places_start : (at c : List ℕ) (l : ℕ) → at ≡ [] → PlacesOf at c l 0
places_start at c l e =
    subst (λ (x : List ℕ). PlacesOf x c l 0) (sym e) (record {
      many = sym (zeros_none gf16 (value_at (poly c) l));
      most = omega arith;
      in_order = λ i j h k. absurd (not-suc-le-zero k);
      inside = λ i h. absurd (not-suc-le-zero h);
      root = λ i h. absurd (not-suc-le-zero h);
      all = λ p h. absurd (not-suc-le-zero h);
    })

pub places_miss : (at c : List ℕ) (l p : ℕ) → PlacesOf at c l p → value_at (poly c) l p ≢ R16.𝟘 → PlacesOf at c l (p + 1)
places_miss at c l p D ne =
    record {
      many = D.many ∙ sym (zeros_same gf16 p (value_at (poly c) l) ne) ∙ ap (λ (k : ℕ). zeros gf16 k (value_at (poly c) l)) (sym (add-one p));
      most = D.most;
      in_order = D.in_order;
      inside = λ i h. let t = D.inside i h in omega arith;
      root = D.root;
      all = λ q h z. pick q h z (ℕ_discrete q p);
    }
  where
    pick : (q : ℕ) → q < p + 1 → value_at (poly c) l q ≡ R16.𝟘 → Dec (q ≡ p) → (i : ℕ) × (i < length at) × (get_or at i 0 ≡ q)
    pick q h z (yes e) = absurd (ne (ap (value_at (poly c) l) (sym e) ∙ z))
    pick q h z (no e) = D.all q (omega arith) z

-- one root more still fits
pub count_fits : (at c : List ℕ) (l p : ℕ) → p < 65535 → poly c 0 ≡ R16.𝟙 → PlacesOf at c l p → value_at (poly c) l p ≡ R16.𝟘 → length at < l
count_fits at c l p h head D z =
    let m = zeros_more gf16 p (value_at (poly c) l) z in
    let f = roots_fit gf16 (suc p) (pow R16 α) (λ q _. α_nz q) (α_apart (omega arith)) (poly c) l head in
    omega (arith, m, f, D.many)

pub places_hit : (at at' c : List ℕ) (l p : ℕ) → p < 65535 → poly c 0 ≡ R16.𝟙 → PlacesOf at c l p → value_at (poly c) l p ≡ R16.𝟘 → at' ≡ at ++ p ∷ [] → PlacesOf at' c l (p + 1)
places_hit at at' c l p h head D z e = subst (λ (x : List ℕ). PlacesOf x c l (p + 1)) (sym e) (record {
  many = one_more ∙ ap (λ (k : ℕ). k + 1) D.many ∙ add-one _ ∙ sym (zeros_more gf16 p (value_at (poly c) l) z) ∙ ap (λ (k : ℕ). zeros gf16 k (value_at (poly c) l)) (sym (add-one p));
  most = omega (arith, one_more, small);
  in_order = λ i j a b. order i j a (omega (arith, one_more)) (ℕ_discrete j (length at));
  inside = λ i a. within i (omega (arith, one_more)) (ℕ_discrete i (length at));
  root = λ i a. vanish i (omega (arith, one_more)) (ℕ_discrete i (length at));
  all = λ q a w. found q a w (ℕ_discrete q p);
})
  where
    new : List ℕ
    new = at ++ p ∷ []

    one_more : length new ≡ length at + 1
    one_more = length_push at p

    small : length at < l
    small = count_fits at c l p h head D z

    old : (i : ℕ) → i < length at → get_or new i 0 ≡ get_or at i 0
    old i a = get_or_append_left at (p ∷ []) 0 i a

    newest : (i : ℕ) → i ≡ length at → get_or new i 0 ≡ p
    newest i e = get_or_push at p 0 i (sym e)

    order : (i j : ℕ) → i < j → j < length at + 1 → Dec (j ≡ length at) → get_or new i 0 < get_or new j 0
    order i j a b (yes e) = let u = old i (omega arith) in let w = newest j e in let t = D.inside i (omega arith) in omega arith
    order i j a b (no e) = let u = old i (omega arith) in let w = old j (omega arith) in let t = D.in_order i j a (omega arith) in omega arith

    within : (i : ℕ) → i < length at + 1 → Dec (i ≡ length at) → get_or new i 0 < p + 1
    within i a (yes e) = let u = newest i e in omega arith
    within i a (no e) = let u = old i (omega arith) in let t = D.inside i (omega arith) in omega arith

    vanish : (i : ℕ) → i < length at + 1 → Dec (i ≡ length at) → value_at (poly c) l (get_or new i 0) ≡ R16.𝟘
    vanish i a (yes e) = ap (value_at (poly c) l) (newest i e) ∙ z
    vanish i a (no e) = ap (value_at (poly c) l) (old i (omega arith)) ∙ D.root i (omega arith)

    found : (q : ℕ) → q < p + 1 → value_at (poly c) l q ≡ R16.𝟘 → Dec (q ≡ p) → (i : ℕ) × (i < length new) × (get_or new i 0 ≡ q)
    found q a w (yes e) = (length at, omega (arith, one_more), newest (length at) refl ∙ sym e)
    found q a w (no e) =
        let r = D.all q (omega arith) w in
        let b : r.0 < length at = r.1 in
        (r.0, omega (arith, one_more), old r.0 b ∙ r.2)

pub places_end : (at c : List ℕ) (l p n : ℕ) → p ≡ n → PlacesOf at c l p → PlacesOf at c l n
places_end at c l p n e D = subst (PlacesOf at c l) e D

pub places_length : (at c : List ℕ) (l l' n : ℕ) → l' ≡ l → PlacesOf at c l n → PlacesOf at c l' n
places_length at c l l' n e D = subst (λ (k : ℕ). PlacesOf at c k n) (sym e) D

-- as many roots as the length: there are no others
full_more : (at c : List ℕ) (l p k : ℕ) → p + k ≤ 65535 → poly c 0 ≡ R16.𝟙 → length at ≡ l → PlacesOf at c l p → PlacesOf at c l (p + k)
full_more at c l p zero h head e D = places_end at c l p (p + 0) (omega arith) D
full_more at c l p (suc k) h head e D = more (full_more at c l p k (omega arith) head e D)
  where
    more : PlacesOf at c l (p + k) → PlacesOf at c l (p + suc k)
    more W =
        places_end at c l (p + k + 1) (p + suc k) (omega arith)
        (places_miss at c l (p + k) W (λ z. let f = count_fits at c l (p + k) (omega arith) head W z in omega (arith, f)))

pub places_full : (at c : List ℕ) (l p n : ℕ) → p ≤ n → n ≤ 65535 → poly c 0 ≡ R16.𝟙 → length at ≡ l → PlacesOf at c l p → PlacesOf at c l n
places_full at c l p n h g head e D =
    let k : p + (n - p) ≡ n = omega arith in
    places_end at c l (p + (n - p)) n k (full_more at c l p (n - p) (omega arith) head e D)

pub places_as : (at at' c : List ℕ) (l p : ℕ) → at' ≡ at → PlacesOf at c l p → PlacesOf at' c l p
places_as at at' c l p e D = subst (λ (x : List ℕ). PlacesOf x c l p) (sym e) D

-- ---- `lane_sum`
pub lanes_none : (t : List ℕ) → to_el 0 ≡ sum R16 0 (poly t)
lanes_none t = to_el_zero ∙ sym (sum_none R16 (poly t))

pub lanes_more : (t : List ℕ) (i r : ℕ) → to_el r ≡ sum R16 i (poly t) → to_el (bit_xor r (get_or t i 0)) ≡ sum R16 (i + 1) (poly t)
unfolding poly ◌⊕◌
lanes_more t i r e =
    to_el_xor r (get_or t i 0) ∙ ap (λ y. R16.◌⊞◌ y (to_el (get_or t i 0))) e ∙ sym (ap (λ (n : ℕ). sum R16 n (poly t)) (add-one i) ∙ sum_last R16 i (poly t))

-- ---- `reversed`
pub record Reversing (t c : List ℕ) (l i : ℕ) : Type 0 where
  pub lanes : Lanes t
  pub below : i ≤ l
  pub at : (j : ℕ) → j < i → get_or t j 0 ≡ get_or c (l - suc j) 0
  pub rest : (j : ℕ) → i ≤ j → get_or t j 0 ≡ 0
