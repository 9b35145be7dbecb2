-- The remainder's value at the odd powers of α, from the top digit down in all lanes at once; the even powers by squares. Assumes nothing.
use Rattle.std.proofs.Common.{◌≡◌, refl, sym, ap, ap₂, ◌∙◌, List, ℕ, zero, suc, ◌+◌, ◌-◌, ◌*◌, ◌/◌, ◌%◌, ◌^◌, ◌≤◌, ◌<◌, mod-lt, not-suc-le-zero, add-one, arith, bit_xor, bit_and, shr-shr, get_or, length, set, length-set, replicate, get_or-set_same, get_or-set_other}
use Rattle.std.proofs.Math.Decide.{ℕ_discrete}
use Rattle.laws.specs.Xor.{⊕-lt, two_cases, two_pos}
use Rattle.laws.specs.Definitions.{◌⊕◌}
use Rattle.algebra.specs.RingLaws.{one-⊠, ⊠-zero, zero-⊞}
use Rattle.algebra.specs.Series.{pow, bit, ev}
use Rattle.algebra.specs.SeriesLaws.{pow_add}
use Rattle.algebra.specs.Power.{pow_suc'}
use Rattle.algebra.specs.Values.{ev_square}
use Rattle.algebra.specs.Gf.{El}
use Rattle.gf16.specs.Field16.{R16, α}
use Rattle.bch_table.specs.Step.{joined}
use Rattle.bch_locator.specs.Element.{to_el, to_el_xor, to_el_zero, to_el_one, poly}
use Rattle.bch_locator.specs.Lanes.{Lanes, Products, PowersOf}
use Rattle.bch_locator.specs.Syndromes.{Syndromes, odd, first_part, second_part, Added, Horner, Squared}
use Rattle.bch_table.specs.Digits.{low_bit}
use Rattle.bch_locator.proofs.Raised.{lanes_raised, ev_join}
use Rattle.bch_locator.proofs.Filling.{Filling}
use Rattle.laws.specs.Lists.{replicate_at}
use Rattle.laws.specs.Stores.{set_at}

-- ---- `add_bit`
abbrev pub Plus : List ℕ → ℕ → ℕ → ℕ → Type 0
Plus s b i v = v ≡ get_or s i 0 ⊕ b

pub plus_fits : (s : List ℕ) (b i : ℕ) → get_or s i 0 < 65536 → b < 65536 → bit_xor (get_or s i 0) b < 65536
unfolding ◌⊕◌
plus_fits s b i g h = ⊕-lt 16 g h

pub plus_is : (s : List ℕ) (b i : ℕ) → Plus s b i (bit_xor (get_or s i 0) b)
unfolding ◌⊕◌
plus_is s b i = refl

pub added_end : (r s : List ℕ) (b i : ℕ) → 16 ≤ i → Filling (Plus s b) r i → Added r s b
unfolding poly
added_end r s b i h F = record { lanes = F.lanes; at = λ j g. ap to_el (F.at j (omega arith)) ∙ to_el_xor (get_or s j 0) b }

-- ---- the loop of `digits`: the digits of w from k up are done
pub record Partial (r s : List ℕ) (w k : ℕ) : Type 0 where
  pub lanes : Lanes r
  pub at : (i : ℕ) → i < 12 → poly r i ≡ R16.◌⊞◌ (R16.◌⊠◌ (pow R16 (odd i) (64 - k)) (poly s i)) (ev R16 (64 - k) (w / 2 ^ k) (odd i))

pub partial_start : (s : List ℕ) (w : ℕ) → Lanes s → Partial s s w 64
unfolding pow ev
partial_start s w L = record { lanes = L; at = λ i g. sym (R16.⊞-zero _ ∙ one-⊠ R16 (poly s i)) }

bit_is : (d : ℕ) → d < 2 → to_el d ≡ bit R16 d
unfolding bit
bit_is = two_cases (λ d. to_el d ≡ bit R16 d) to_el_zero to_el_one

parts : (i : ℕ) → second_part i + first_part i ≡ 2 * i + 1
unfolding first_part second_part
parts i = omega arith

horner_step : (z x : El 15) (k q' q : ℕ) → q' ≡ q / 2
    → R16.◌⊞◌ (R16.◌⊠◌ z (R16.◌⊞◌ (R16.◌⊠◌ (pow R16 z k) x) (ev R16 k q' z))) (bit R16 (q % 2)) ≡ R16.◌⊞◌ (R16.◌⊠◌ (pow R16 z (k + 1)) x) (ev R16 (k + 1) q z)
unfolding ev
horner_step z x k q' q e =
    ap (λ (m : ℕ). R16.◌⊞◌ (R16.◌⊠◌ z (R16.◌⊞◌ (R16.◌⊠◌ (pow R16 z k) x) (ev R16 k m z))) (bit R16 (q % 2))) e
    ∙ ap (λ y. R16.◌⊞◌ y (bit R16 (q % 2))) (R16.⊠-dist z _ _) ∙ R16.⊞-assoc _ _ _
    ∙ ap₂ R16.◌⊞◌ (sym (R16.⊠-assoc z (pow R16 z k) x) ∙ ap (λ y. R16.◌⊠◌ y x) (pow_suc' R16 z k ∙ ap (pow R16 z) (sym (add-one k)))) (R16.⊞-comm _ _)
    ∙ ap (λ (m : ℕ). R16.◌⊞◌ (R16.◌⊠◌ (pow R16 z (k + 1)) x) (ev R16 m q z)) (sym (add-one k))

odd_times : (i : ℕ) (x : El 15) → R16.◌⊠◌ (pow R16 α (second_part i)) (R16.◌⊠◌ (pow R16 α (first_part i)) x) ≡ R16.◌⊠◌ (odd i) x
unfolding odd
odd_times i x = sym (R16.⊠-assoc _ _ _) ∙ ap (λ z. R16.◌⊠◌ z x) (sym (pow_add R16 α (second_part i) (first_part i)) ∙ ap (pow R16 α) (parts i))

pub partial_again : (s : List ℕ) (w : ℕ) (r : List ℕ) (k : ℕ) (one two next p q : List ℕ) → Partial r s w k → 0 < k → k ≤ 64
    → PowersOf p first_part → PowersOf q second_part → Products one r p → Products two one q → Added next two (bit_and (w / 2 ^ (k - 1)) 1) → Partial next s w (k - 1)
partial_again s w r k one two next p q D h le P Q U W A =
    record {
      lanes = A.lanes;
      at = λ i g.
          A.at i (omega arith) ∙ ap₂ R16.◌⊞◌ (times i g ∙ ap (R16.◌⊠◌ (odd i)) (D.at i g)) (ap to_el (low_bit (w / 2 ^ (k - 1))) ∙ bit_is (w / 2 ^ (k - 1) % 2) (mod-lt (w / 2 ^ (k - 1)) two_pos))
          ∙ horner_step (odd i) (poly s i) (64 - k) (w / 2 ^ k) (w / 2 ^ (k - 1)) half
          ∙ ap (λ (m : ℕ). R16.◌⊞◌ (R16.◌⊠◌ (pow R16 (odd i) m) (poly s i)) (ev R16 m (w / 2 ^ (k - 1)) (odd i))) more;
    }
  where
    times : (i : ℕ) → i < 12 → poly two i ≡ R16.◌⊠◌ (odd i) (poly r i)
    times i g =
        lanes_raised two one q second_part U.lanes Q W i g ∙ ap (R16.◌⊠◌ (pow R16 α (second_part i))) (lanes_raised one r p first_part D.lanes P U i g)
        ∙ odd_times i (poly r i)

    more : 64 - k + 1 ≡ 64 - (k - 1)
    more = omega arith

    half : w / 2 ^ k ≡ w / 2 ^ (k - 1) / 2
    half = let e : k ≡ k - 1 + 1 = omega arith in ap (λ (z : ℕ). w / 2 ^ z) e ∙ sym (shr-shr w (k - 1) 1)

-- ---- three words
poly_none : (i : ℕ) → poly (replicate 16 0) i ≡ R16.𝟘
unfolding poly
poly_none i = ap to_el (replicate_at 0 16 i) ∙ to_el_zero

pub joined_values : (a b c : List ℕ) (h m l : ℕ) → Horner a (replicate 16 0) h → Horner b a m → Horner c b l
    → (i : ℕ) → i < 12 → poly c i ≡ ev R16 192 (joined h m l) (odd i)
unfolding joined
joined_values a b c h m l A B C i g =
    C.at i g
    ∙ ap (λ y. R16.◌⊞◌ (R16.◌⊠◌ (pow R16 (odd i) 64) y) (ev R16 64 l (odd i)))
    (B.at i g ∙ ap (λ y. R16.◌⊞◌ (R16.◌⊠◌ (pow R16 (odd i) 64) y) (ev R16 64 m (odd i))) (A.at i g ∙ first) ∙ sym (ev_join R16 64 64 h m (odd i) B.fit))
    ∙ sym (ev_join R16 128 64 (h * 2 ^ 64 + m) l (odd i) C.fit)
  where
    first : R16.◌⊞◌ (R16.◌⊠◌ (pow R16 (odd i) 64) (poly (replicate 16 0) i)) (ev R16 64 h (odd i)) ≡ ev R16 64 h (odd i)
    first =
        ap (λ y. R16.◌⊞◌ (R16.◌⊠◌ (pow R16 (odd i) 64) y) (ev R16 64 h (odd i))) (poly_none i)
        ∙ ap (λ y. R16.◌⊞◌ y (ev R16 64 h (odd i))) (⊠-zero R16 _) ∙ zero-⊞ R16 _

-- ---- the even powers
pub record Squaring (s t : List ℕ) (k : ℕ) : Type 0 where
  pub len : length s ≡ 24
  pub most : k ≤ 12
  pub lane : (j : ℕ) → j < k → poly s (2 * j) ≡ poly t j
  pub square : (j : ℕ) → j < k → poly s (2 * j + 1) ≡ R16.◌⊠◌ (poly s j) (poly s j)

-- lane k, and the square of what stands at k then
pub squaring_again : (s t : List ℕ) (k v q : ℕ) → k < 12 → Squaring s t k → v ≡ get_or t k 0
    → to_el q ≡ R16.◌⊠◌ (to_el (get_or (set s (2 * k) v) k 0)) (to_el (get_or (set s (2 * k) v) k 0)) → Squaring (set (set s (2 * k) v) (2 * k + 1) q) t (k + 1)
unfolding poly
squaring_again s t k v q h S e f =
    record {
      len = length-set u (2 * k + 1) q ∙ length-set s (2 * k) v ∙ S.len;
      most = omega arith;
      lane = λ j g. lane j g (ℕ_discrete j k);
      square = λ j g. square j g (ℕ_discrete j k);
    }
  where
    u : List ℕ
    u = set s (2 * k) v

    s' : List ℕ
    s' = set u (2 * k + 1) q

    -- what stands below 2 k + 1 stays
    early : (j : ℕ) → j < 2 * k + 1 → get_or s' j 0 ≡ get_or u j 0
    early j g = get_or-set_other u (2 * k + 1) j q 0 (omega arith)

    earlier : (j : ℕ) → j < 2 * k → get_or s' j 0 ≡ get_or s j 0
    earlier j g = early j (omega arith) ∙ get_or-set_other s (2 * k) j v 0 (omega arith)

    lane : (j : ℕ) → j < k + 1 → Dec (j ≡ k) → to_el (get_or s' (2 * j) 0) ≡ to_el (get_or t j 0)
    lane j g (yes d) =
        let a : 2 * j ≡ 2 * k = omega arith in
        ap to_el (ap (λ (m : ℕ). get_or s' m 0) a ∙ early (2 * k) (omega arith) ∙ get_or-set_same s (2 * k) v 0 (omega (arith, S.len)) ∙ e ∙ ap (λ (m : ℕ). get_or t m 0) (sym d))
    lane j g (no d) = ap to_el (earlier (2 * j) (omega arith)) ∙ S.lane j (omega arith)

    square : (j : ℕ) → j < k + 1 → Dec (j ≡ k) → to_el (get_or s' (2 * j + 1) 0) ≡ R16.◌⊠◌ (to_el (get_or s' j 0)) (to_el (get_or s' j 0))
    square j g (yes d) =
        let b : get_or u k 0 ≡ get_or s' j 0 = sym (ap (λ (m : ℕ). get_or s' m 0) d ∙ early k (omega arith)) in
        ap to_el (set_at 0 u (2 * k + 1) q (2 * j + 1) (omega (arith, length-set s (2 * k) v, S.len)) (omega arith)) ∙ f
        ∙ ap (λ (m : ℕ). R16.◌⊠◌ (to_el m) (to_el m)) b
    square j g (no d) =
        ap to_el (earlier (2 * j + 1) (omega arith)) ∙ S.square j (omega arith) ∙ ap (λ (m : ℕ). R16.◌⊠◌ (to_el m) (to_el m)) (sym (earlier j (omega arith)))

-- ---- all of them
even_place : (s t : List ℕ) (w : ℕ) → Squared s t → ((i : ℕ) → i < 12 → poly t i ≡ ev R16 192 w (odd i)) → (j k : ℕ) → j ≡ 2 * k → j < 24
    → poly s j ≡ ev R16 192 w (pow R16 α (j + 1))
unfolding odd
even_place s t w S o j k e h =
    ap (poly s) e ∙ S.lane k (omega arith) ∙ o k (omega arith) ∙ ap (λ (m : ℕ). ev R16 192 w (pow R16 α (m + 1))) (sym e)

odd_place : (s t : List ℕ) (w : ℕ) → Squared s t → (j k : ℕ) → j ≡ 2 * k + 1 → j < 24 → poly s k ≡ ev R16 192 w (pow R16 α (k + 1))
    → poly s j ≡ ev R16 192 w (pow R16 α (j + 1))
odd_place s t w S j k e h r =
    let m : (k + 1) + (k + 1) ≡ j + 1 = omega arith in
    ap (poly s) e ∙ S.square k (omega arith) ∙ ap₂ R16.◌⊠◌ r r ∙ ev_square R16 192 w (pow R16 α (k + 1))
    ∙ ap (ev R16 192 w) (sym (pow_add R16 α (k + 1) (k + 1)) ∙ ap (pow R16 α) m)

pub all_powers : (s t : List ℕ) (w : ℕ) → Squared s t → ((i : ℕ) → i < 12 → poly t i ≡ ev R16 192 w (odd i)) → Syndromes s w
all_powers s t w S o = record { len = S.len; at = λ j h. go (suc j) j (omega arith) h }
  where
    Right : ℕ → Type 0
    Right j = poly s j ≡ ev R16 192 w (pow R16 α (j + 1))

    go : (n j : ℕ) → j < n → j < 24 → Right j
    go zero j a h = absurd (not-suc-le-zero a)
    go (suc n) j a h = pick (ℕ_discrete (j % 2) 0) (go n (j / 2))
      where
        pick : Dec (j % 2 ≡ 0) → (j / 2 < n → j / 2 < 24 → Right (j / 2)) → Right j
        pick (yes e) r = even_place s t w S o j (j / 2) (omega arith) h
        pick (no e) r = odd_place s t w S j (j / 2) (omega arith) h (r (omega arith) (omega arith))
