-- The byte loops: xor in place, the running sum, the copy.
use Rattle.std.proofs.Common.{◌≡◌, refl, sym, ap, ap₂, ◌∙◌, List, [], ◌∷◌, ◌++◌, append_assoc, append-nil, ℕ, zero, suc, ◌+◌, ◌-◌, ◌≤◌, ◌<◌, arith, add-one, bit_xor, length, take, drop, get_or, set, length-take, length-drop, length-append, take-append-drop, take-suc, take-suc-set, take_all, take_at, drop-cons, drop-drop, drop-set-lt}
use Rattle.std.proofs.Math.Seq.{take-length, drop-length}
use Rattle.laws.specs.Lists.{back_from}
use Rattle.ldpc_edges.specs.Code.{sums}
use Rattle.ldpc_encode.specs.Sums.{xors}

-- ---- xor in place
pub xors_again : (x w x₀ : List ℕ) (i : ℕ) → i < length x → i < length w → take i x ++ xors (drop i x) (drop i w) ≡ xors x₀ w
    → take (i + 1) (set x i (bit_xor (get_or x i 0) (get_or w i 0))) ++ xors (drop (i + 1) (set x i (bit_xor (get_or x i 0) (get_or w i 0)))) (drop (i + 1) w) ≡ xors x₀ w
unfolding xors
xors_again x w x₀ i h g inv =
    let v : ℕ = bit_xor (get_or x i 0) (get_or w i 0) in
    ap (λ (z : ℕ). take z (set x i v) ++ xors (drop z (set x i v)) (drop z w)) (add-one i)
    ∙ ap₂ (λ (y z : List ℕ). y ++ xors z (drop (suc i) w)) (take-suc-set x i v h) (drop-set-lt (suc i) x i v (omega arith))
    ∙ append_assoc (take i x) (v ∷ []) (xors (drop (suc i) x) (drop (suc i) w))
    ∙ ap₂ (λ (y z : List ℕ). take i x ++ xors y z) (sym (drop-cons x i 0 h)) (sym (drop-cons w i 0 g)) ∙ inv

pub xors_end : (x w x₀ : List ℕ) (i : ℕ) → length x ≤ i → i ≤ length x → take i x ++ xors (drop i x) (drop i w) ≡ xors x₀ w → x ≡ xors x₀ w
unfolding xors
xors_end x w x₀ i h g inv =
    let e : i ≡ length x = omega arith in
    sym (ap₂ (λ (y z : ℕ). take y x ++ xors (drop z x) (drop i w)) e e ∙ ap₂ (λ (y z : List ℕ). y ++ xors z (drop i w)) (take-length x) (drop-length x) ∙ append-nil x) ∙ inv

pub xors_length : (x w : List ℕ) → length (xors x w) ≡ length x
unfolding xors
xors_length [] w = refl
xors_length (a ∷ x) [] = refl
xors_length (a ∷ x) (b ∷ w) = ap suc (xors_length x w)

pub xors_at : (x w : List ℕ) (i : ℕ) → i < length x → i < length w → get_or (xors x w) i 0 ≡ bit_xor (get_or x i 0) (get_or w i 0)
unfolding xors
xors_at [] w i h g = absurd (omega arith)
xors_at (a ∷ x) [] i h g = absurd (omega arith)
xors_at (a ∷ x) (b ∷ w) zero h g = refl
xors_at (a ∷ x) (b ∷ w) (suc i) h g = xors_at x w i (omega arith) (omega arith)

-- ---- the running sum
pub sums_again : (x x₀ : List ℕ) (i b : ℕ) → i < length x → take i x ++ sums b (drop i x) ≡ sums 0 x₀
    → take (i + 1) (set x i (bit_xor b (get_or x i 0))) ++ sums (bit_xor b (get_or x i 0)) (drop (i + 1) (set x i (bit_xor b (get_or x i 0)))) ≡ sums 0 x₀
unfolding sums
sums_again x x₀ i b h inv =
    let v : ℕ = bit_xor b (get_or x i 0) in
    ap₂ (λ (y z : ℕ). take y (set x i v) ++ sums v (drop z (set x i v))) (add-one i) (add-one i)
    ∙ ap₂ (λ (y z : List ℕ). y ++ sums v z) (take-suc-set x i v h) (drop-set-lt (suc i) x i v (omega arith))
    ∙ append_assoc (take i x) (v ∷ []) (sums v (drop (suc i) x))
    ∙ ap (λ (z : List ℕ). take i x ++ sums b z) (sym (drop-cons x i 0 h)) ∙ inv

pub sums_end : (x x₀ : List ℕ) (i b : ℕ) → length x ≤ i → i ≤ length x → take i x ++ sums b (drop i x) ≡ sums 0 x₀ → x ≡ sums 0 x₀
unfolding sums
sums_end x x₀ i b h g inv =
    let e : i ≡ length x = omega arith in
    sym (ap₂ (λ (y z : ℕ). take y x ++ sums b (drop z x)) e e ∙ ap₂ (λ (y z : List ℕ). y ++ sums b z) (take-length x) (drop-length x) ∙ append-nil x) ∙ inv

-- ---- the copy
pub copied : (x w : List ℕ) (i : ℕ) → i < length x → i < length w → take i x ≡ take i w → take (i + 1) (set x i (get_or w i 0)) ≡ take (i + 1) w
copied x w i h g e =
    ap (λ (z : ℕ). take z (set x i (get_or w i 0))) (add-one i) ∙ take-suc-set x i (get_or w i 0) h ∙ ap (λ (l : List ℕ). l ++ (get_or w i 0 ∷ [])) e
    ∙ sym (ap (λ (z : ℕ). take z w) (add-one i) ∙ take-suc w i 0 g)

pub copied_rest : (x x₀ : List ℕ) (i v : ℕ) → drop i x ≡ drop i x₀ → drop (i + 1) (set x i v) ≡ drop (i + 1) x₀
copied_rest x x₀ i v e =
    drop-set-lt (i + 1) x i v (omega arith) ∙ sym (drop-drop 1 i x) ∙ ap (drop 1) e ∙ drop-drop 1 i x₀

pub copied_all : (x w x₀ : List ℕ) (i : ℕ) → length w ≤ i → i ≤ length w → take i x ≡ take i w → drop i x ≡ drop i x₀ → x ≡ w ++ drop (length w) x₀
copied_all x w x₀ i h g a b =
    let e : i ≡ length w = omega arith in
    sym (take-append-drop i x) ∙ ap₂ (λ (y z : List ℕ). y ++ z) (a ∙ take_all i w h) (b ∙ ap (λ (z : ℕ). drop z x₀) e)

-- the part after the copy has the parity's length; in its place the parity makes the encoded word
pub rest_length : (w x₀ : List ℕ) (x : List ℕ) → length w ≤ length x₀ → x ≡ w ++ drop (length w) x₀ → length (take (length x - length w) (drop (length w) x)) ≡ length x₀ - length w
rest_length w x₀ x h e =
    length-take (length x - length w) (drop (length w) x)
    ∙ omega (arith, length-drop (length w) x, ap length e, length-append w (drop (length w) x₀), length-drop (length w) x₀)

pub put_behind : (w x₀ x par : List ℕ) → length w ≤ length x₀ → x ≡ w ++ drop (length w) x₀
    → take (length w) x ++ (par ++ drop (length x - length w) (drop (length w) x)) ≡ w ++ par
put_behind w x₀ x par h e =
    back_from (length w) x par ∙ ap (λ (y : List ℕ). y ++ par) (ap (take (length w)) e ∙ take_at w (drop (length w) x₀) (length w) refl)
