-- The encoded word meets every check, and no other parity does.
--
-- In order: bits; the parity of this information (`parity_from`); a word with this information, check by check; the theorems (`encode_meets`,
-- `encode_weight`, `parity_only`).
use Rattle.std.specs.Prelude.{◌≡◌, Bool, true, false, cond, eqb, length, get_or, set, replicate}
use Rattle.std.proofs.Math.Path.{refl, sym, ap, ap₂}
use Rattle.std.proofs.Common.{◌∙◌, subst, zero-add, eqb-true, length-set, get_or-set_same, get_or-set_other, get_or-append-add, ext_get_or, List, [], ◌∷◌, ◌++◌, append-nil, ℕ, zero, suc, ◌+◌, ◌%◌, ◌≤◌, ◌<◌, arith}
use Rattle.std.proofs.lemmas.Bool.{eqb-false}
use Rattle.std.specs.Int.Bits.{bit_xor}
use Rattle.std.proofs.Math.ListN.{length-replicate, length-append, get_or-append, get_or-eq_default}
use Rattle.std.proofs.lemmas.List.{get_or-replicate}
use Rattle.std.proofs.Math.Decide.{ℕ_discrete, dec_lt}
use Rattle.laws.specs.Modulo.{xor_parity, xor_bit}
use Rattle.ldpc_shape.specs.Shape.{k_of, p_of, code_refusal}
use Rattle.ldpc_shape.specs.Accepted.{p_pos, n_is}
use Rattle.ldpc_shape.proofs.Accepted.{accepted}
use Rattle.ldpc_edges.specs.Code.{Edge, edge, meets, only, stairs, check, flip, flips, sums, parity, encode, ones, unmet, unmets, weight}
use Rattle.ldpc_edges.specs.Inside.{Inside}
use Rattle.ldpc_edges.proofs.Inside.{meets_inside}
use Rattle.ldpc_edges.specs.Encoder.{Bits}

flip_same : (x : List ℕ) (p c : ℕ) → c < length x → p ≡ c → get_or (flip x p) c 0 ≡ bit_xor (get_or x c 0) 1
unfolding flip
flip_same x p c h e = ap (λ (z : ℕ). get_or (set x z (bit_xor (get_or x z 0) 1)) c 0) e ∙ get_or-set_same x c _ 0 h

flip_other : (x : List ℕ) (p c : ℕ) → (p ≡ c → ⊥) → get_or (flip x p) c 0 ≡ get_or x c 0
unfolding flip
flip_other x p c ne = get_or-set_other x p c _ 0 (λ e. ne (sym e))

flip_length : (x : List ℕ) (p : ℕ) → length (flip x p) ≡ length x
unfolding flip
flip_length x p = length-set x p _

flips_length : (w : List ℕ) (es : List Edge) (x : List ℕ) → length (flips w es x) ≡ length x
unfolding flips
flips_length w [] x = refl
flips_length w (edge p m ∷ es) x = flips_length w es _ ∙ one (eqb (get_or w m 0 % 2) 1)
  where
    one : (b : Bool) → length (cond b (flip x p) x) ≡ length x
    one true = flip_length x p
    one false = refl

sums_length : (b : ℕ) (x : List ℕ) → length (sums b x) ≡ length x
unfolding sums
sums_length b [] = refl
sums_length b (a ∷ x) = ap suc (sums_length (bit_xor b a) x)

flip_bits : (x : List ℕ) (p : ℕ) → Bits x → Bits (flip x p)
flip_bits x p B c = go (dec_lt c (length x)) (ℕ_discrete p c)
  where
    go : Dec (c < length x) → Dec (p ≡ c) → get_or (flip x p) c 0 < 2
    go (yes h) (yes e) = subst (λ (z : ℕ). z < 2) (sym (flip_same x p c h e)) (xor_bit (get_or x c 0) 1 (B c) (omega arith))
    go (yes h) (no e) = subst (λ (z : ℕ). z < 2) (sym (flip_other x p c e)) (B c)
    go (no h) d = subst (λ (z : ℕ). z < 2) (sym (get_or-eq_default (flip x p) 0 (omega (arith, flip_length x p)))) (omega arith)

flips_bits : (w : List ℕ) (es : List Edge) (x : List ℕ) → Bits x → Bits (flips w es x)
unfolding flips
flips_bits w [] x B = B
flips_bits w (edge p m ∷ es) x B = flips_bits w es (cond (eqb (get_or w m 0 % 2) 1) (flip x p) x) (one (eqb (get_or w m 0 % 2) 1))
  where
    one : (b : Bool) → Bits (cond b (flip x p) x)
    one true = flip_bits x p B
    one false = B

sums_bits : (b : ℕ) (x : List ℕ) → b < 2 → Bits x → Bits (sums b x)
unfolding sums
sums_bits b [] h B c = subst (λ (z : ℕ). z < 2) (sym (get_or-eq_default {A = ℕ} [] 0 {n = c} (omega arith))) (omega arith)
sums_bits b (a ∷ x) h B zero = xor_bit b a h (B 0)
sums_bits b (a ∷ x) h B (suc c) = sums_bits (bit_xor b a) x (xor_bit b a h (B 0)) (λ i. B (suc i)) c

zeros_bits : (n : ℕ) → Bits (replicate n 0)
zeros_bits n c = go (dec_lt c n)
  where
    go : Dec (c < n) → get_or (replicate n 0) c 0 < 2
    go (yes h) = subst (λ (z : ℕ). z < 2) (sym (get_or-replicate n c 0 0 h)) (omega arith)
    go (no h) = subst (λ (z : ℕ). z < 2) (sym (get_or-eq_default (replicate n 0) 0 {n = c} (omega (arith, length-replicate {A = ℕ} n 0)))) (omega arith)

-- an edge whose bit is 1 flips its check, and makes the check's count one more; v agrees with w below k
flips_ones : (k c : ℕ) (v w rest : List ℕ) → ((i : ℕ) → i < k → get_or v i 0 ≡ get_or w i 0) → (es : List Edge) (P : ℕ) → Inside P k es → (x : List ℕ) → c < length x
    → (get_or (flips v es x) c 0 + ones w rest) % 2 ≡ (get_or x c 0 + ones w (only c es ++ rest)) % 2
unfolding flips only ones
flips_ones k c v w rest s [] P I x h = refl
flips_ones k c v w rest s (edge p m ∷ es) P I x h =
    flips_ones k c v w rest s es P I.2 (cond (eqb (get_or v m 0 % 2) 1) (flip x p) x) (long (eqb (get_or v m 0 % 2) 1))
    ∙ go (eqb (get_or v m 0 % 2) 1) (eqb p c) refl refl
  where
    same : get_or v m 0 ≡ get_or w m 0
    same = s m I.1

    long : (b : Bool) → c < length (cond b (flip x p) x)
    long true = subst (λ (z : ℕ). c < z) (sym (flip_length x p)) h
    long false = h

    go : (b e : Bool) → eqb (get_or v m 0 % 2) 1 ≡ b → eqb p c ≡ e → (get_or (cond b (flip x p) x) c 0 + ones w (only c es ++ rest)) % 2
        ≡ (get_or x c 0 + ones w (cond e (m ∷ only c es) (only c es) ++ rest)) % 2
    go true true t u = omega (arith, same, eqb-true (get_or v m 0 % 2) 1 t, flip_same x p c h (eqb-true p c u), xor_parity (get_or x c 0) 1)
    go true false t u = omega (arith, flip_other x p c (eqb-false p c u))
    go false true t u = omega (arith, same, eqb-false (get_or v m 0 % 2) 1 t)
    go false false t u = refl

sums_first : (b : ℕ) (x : List ℕ) → 0 < length x → get_or (sums b x) 0 0 ≡ bit_xor b (get_or x 0 0)
unfolding sums
sums_first b [] h = absurd (omega arith)
sums_first b (a ∷ x) h = refl

sums_next : (b : ℕ) (x : List ℕ) (c : ℕ) → suc c < length x → get_or (sums b x) (suc c) 0 ≡ bit_xor (get_or (sums b x) c 0) (get_or x (suc c) 0)
unfolding sums
sums_next b [] c h = absurd (omega arith)
sums_next b (a ∷ x) zero h = sums_first _ x (omega arith)
sums_next b (a ∷ x) (suc c) h = sums_next (bit_xor b a) x c (omega arith)

-- ---- v is the information
module _ (n : ℕ) (lens addrs v : List ℕ) (some : 0 < p_of n lens) where
  -- the checks flipped by the information
  flipped : List ℕ
  flipped = flips v (meets n lens addrs) (replicate (p_of n lens) 0)

  flipped_length : length flipped ≡ p_of n lens
  unfolding flipped
  flipped_length = flips_length v (meets n lens addrs) _ ∙ length-replicate _ 0

  flipped_bits : Bits flipped
  unfolding flipped
  flipped_bits = flips_bits v (meets n lens addrs) _ (zeros_bits (p_of n lens))

  -- w is a word with this information: its count at check c, and at the bits `rest`
  flipped_sum : (w : List ℕ) → ((i : ℕ) → i < k_of lens → get_or v i 0 ≡ get_or w i 0) → (c : ℕ) → c < p_of n lens → (rest : List ℕ)
      → (get_or flipped c 0 + ones w rest) % 2 ≡ ones w (only c (meets n lens addrs) ++ rest) % 2
  unfolding flipped
  flipped_sum w same c h rest =
      flips_ones (k_of lens) c v w rest same (meets n lens addrs) (p_of n lens) (meets_inside n lens addrs some) (replicate (p_of n lens) 0)
      (subst (λ (z : ℕ). c < z) (sym (length-replicate _ 0)) h)
      ∙ ap (λ (z : ℕ). (z + ones w (only c (meets n lens addrs) ++ rest)) % 2) (get_or-replicate _ c 0 0 h)
      ∙ ap (λ (z : ℕ). z % 2) (zero-add (ones w (only c (meets n lens addrs) ++ rest)))

  -- what the parity starts from at check c: whether an odd number of its information bits is 1
  flipped_at : (c : ℕ) → c < p_of n lens → get_or flipped c 0 ≡ ones v (only c (meets n lens addrs)) % 2
  unfolding ones
  flipped_at c h =
      let e = ap (λ (l : List ℕ). ones v l % 2) (append-nil (only c (meets n lens addrs))) in
      omega (arith, flipped_bits c, flipped_sum v (λ i g. refl) c h [])

  -- the parity: each check's start, xored with the bit before
  parity_is : parity n lens addrs v ≡ sums 0 flipped
  unfolding parity flipped
  parity_is = refl

  pub parity_from : (x : List ℕ) → length x ≡ p_of n lens → ((c : ℕ) → c < p_of n lens → get_or x c 0 ≡ ones v (only c (meets n lens addrs)) % 2)
      → sums 0 x ≡ parity n lens addrs v
  parity_from x l f =
      ap (sums 0) (ext_get_or 0 x flipped (l ∙ sym flipped_length) (λ c h. let g : c < p_of n lens = omega (arith, l) in f c g ∙ sym (flipped_at c g))) ∙ sym parity_is

  pub parity_length : length (parity n lens addrs v) ≡ p_of n lens
  parity_length = ap length parity_is ∙ sums_length 0 flipped ∙ flipped_length

  parity_bits_lem : Bits (parity n lens addrs v)
  parity_bits_lem = subst Bits (sym parity_is) (sums_bits 0 flipped (omega arith) flipped_bits)

  parity_first : get_or (parity n lens addrs v) 0 0 % 2 ≡ get_or flipped 0 0 % 2
  parity_first =
      omega (arith, ap (λ (l : List ℕ). get_or l 0 0) parity_is, sums_first 0 flipped (subst (λ (z : ℕ). 0 < z) (sym flipped_length) some), xor_parity 0 (get_or flipped 0 0))

  parity_next : (c : ℕ) → suc c < p_of n lens → get_or (parity n lens addrs v) (suc c) 0 % 2 ≡ (get_or (parity n lens addrs v) c 0 + get_or flipped (suc c) 0) % 2
  parity_next c h =
      omega (
        arith,
        ap (λ (l : List ℕ). get_or l (suc c) 0) parity_is,
        ap (λ (l : List ℕ). get_or l c 0) parity_is,
        sums_next 0 flipped c (subst (λ (z : ℕ). suc c < z) (sym flipped_length) h),
        xor_parity (get_or (sums 0 flipped) c 0) (get_or flipped (suc c) 0),
      )

  -- ---- w is a word with this information
  module _ (w : List ℕ) (same : (i : ℕ) → i < k_of lens → get_or v i 0 ≡ get_or w i 0) where
    unmet_first : unmet n lens addrs w 0 ≡ (get_or flipped 0 0 + (get_or w (k_of lens) 0 % 2 + 0)) % 2
    unfolding unmet check stairs ones
    unmet_first = sym (flipped_sum w same 0 some (stairs (k_of lens) 0))

    unmet_next : (c : ℕ) → suc c < p_of n lens
        → unmet n lens addrs w (suc c) ≡ (get_or flipped (suc c) 0 + (get_or w (k_of lens + c) 0 % 2 + (get_or w (k_of lens + suc c) 0 % 2 + 0))) % 2
    unfolding unmet check stairs ones
    unmet_next c h = sym (flipped_sum w same (suc c) h (stairs (k_of lens) (suc c)))

    -- with the parity behind the information, every check is met
    pub met_by_parity : ((c : ℕ) → c < p_of n lens → get_or w (k_of lens + c) 0 % 2 ≡ get_or (parity n lens addrs v) c 0) → (c : ℕ) → c < p_of n lens → unmet n lens addrs w c ≡ 0
    met_by_parity p zero h =
        let e : k_of lens + 0 ≡ k_of lens = omega arith in
        omega (arith, unmet_first, p 0 h, ap (λ (z : ℕ). get_or w z 0) e, parity_first)
    met_by_parity p (suc c) h = omega (arith, unmet_next c h, p (suc c) h, p c (omega arith), parity_next c h)

    -- and with every check met, what stands behind the information is the parity
    parity_by_met : ((c : ℕ) → c < p_of n lens → unmet n lens addrs w c ≡ 0) → (c : ℕ) → c < p_of n lens → get_or w (k_of lens + c) 0 % 2 ≡ get_or (parity n lens addrs v) c 0
    parity_by_met m zero h =
        let e : k_of lens + 0 ≡ k_of lens = omega arith in
        omega (arith, unmet_first, m 0 h, ap (λ (z : ℕ). get_or w z 0) e, parity_first, parity_bits_lem 0)
    parity_by_met m (suc c) h =
        omega (arith, unmet_next c h, m (suc c) h, parity_by_met m c (omega arith), parity_next c h, parity_bits_lem (suc c))

-- ---- the theorems
module _ (n : ℕ) (lens addrs v : List ℕ) (A : code_refusal n lens addrs ≡ 0) (fit : length v ≡ k_of lens) where
  some : 0 < p_of n lens
  some = p_pos n lens addrs (accepted n lens addrs A)

  front : (p : List ℕ) (i : ℕ) → i < k_of lens → get_or v i 0 ≡ get_or (v ++ p) i 0
  front p i h = sym (get_or-append v p 0 i (subst (λ (z : ℕ). i < z) (sym fit) h))

  behind : (p : List ℕ) (c : ℕ) → get_or (v ++ p) (k_of lens + c) 0 ≡ get_or p c 0
  behind p c = ap (λ (z : ℕ). get_or (v ++ p) (z + c) 0) (sym fit) ∙ get_or-append-add v p c 0

  bit_mod : (x : ℕ) → x < 2 → x % 2 ≡ x
  bit_mod x h = omega arith

  -- Encoding meets every check.
  pub encode_meets : (c : ℕ) → c < p_of n lens → unmet n lens addrs (encode n lens addrs v) c ≡ 0
  unfolding encode
  encode_meets =
      met_by_parity n lens addrs v some (v ++ parity n lens addrs v) (front (parity n lens addrs v))
      (λ c h. ap (λ (z : ℕ). z % 2) (behind (parity n lens addrs v) c) ∙ bit_mod _ (parity_bits_lem n lens addrs v some c))

  -- Hence the syndrome weight is 0.
  pub encode_weight : weight n lens addrs (encode n lens addrs v) ≡ 0
  unfolding weight unmets
  encode_weight = go (p_of n lens) (omega arith)
    where
      go : (c : ℕ) → c ≤ p_of n lens → unmets n lens addrs (encode n lens addrs v) c ≡ 0
      go zero h = refl
      go (suc c) h = let a = encode_meets c h in let b = go c (omega arith) in omega arith

  -- The parity is the only one with that property: P bits behind the information that meet every check are the parity.
  pub parity_only : (p : List ℕ) → length p ≡ p_of n lens → Bits p → ((c : ℕ) → c < p_of n lens → unmet n lens addrs (v ++ p) c ≡ 0) → p ≡ parity n lens addrs v
  parity_only p l B m =
      ext_get_or 0 p (parity n lens addrs v) (l ∙ sym (parity_length n lens addrs v some))
      (λ c h. let g : c < p_of n lens = omega (arith, l) in
      sym (bit_mod _ (B c)) ∙ ap (λ (z : ℕ). z % 2) (sym (behind p c)) ∙ parity_by_met n lens addrs v some (v ++ p) (front p) m c g)

  pub encode_length : length (encode n lens addrs v) ≡ n
  unfolding encode
  encode_length = length-append v (parity n lens addrs v) ∙ ap₂ (λ (x y : ℕ). x + y) fit (parity_length n lens addrs v some) ∙ n_is n lens addrs (accepted n lens addrs A)
