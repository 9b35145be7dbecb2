-- Xor as a sum modulo 2, and sums of the first m values of a function.
--
-- In order: `xor_parity`, `xor_bit`; `sum_to` and one term more; equal terms; a sum over the numbers below a * q by their residues (`sum_grid`).
--
-- Not here: sums over the words of a list (schedule, Status: `sum`).
use Rattle.std.specs.Prelude.{◌≡◌, refl, ℕ, zero, suc, ◌+◌, ◌*◌, ◌%◌, ◌<◌}
use Rattle.std.proofs.Common.{sym, ap, ap₂, ◌∙◌, arith, add_comm, add-one}
use Rattle.std.specs.Int.Bits.{bit_xor, xor_add_and}
use Rattle.std.proofs.lemmas.Nat.{xor_lt}

-- xor adds modulo 2
pub xor_parity : (a b : ℕ) → bit_xor a b % 2 ≡ (a + b) % 2
xor_parity a b = omega (arith, xor_add_and a b)

pub xor_bit : (a b : ℕ) → a < 2 → b < 2 → bit_xor a b < 2
xor_bit a b h g = xor_lt 1 a b h g

-- f 0 + .. + f (m - 1)
unfoldable pub sum_to : ℕ → (ℕ → ℕ) → ℕ
sum_to zero f = 0
sum_to (suc m) f = f m + sum_to m f

pub sum_none : (f : ℕ → ℕ) → 0 ≡ sum_to 0 f
unfolding sum_to
sum_none f = refl

pub sum_more : (m : ℕ) (f : ℕ → ℕ) → sum_to m f + f m ≡ sum_to (m + 1) f
unfolding sum_to
sum_more m f = add_comm (sum_to m f) (f m) ∙ sym (ap (λ (z : ℕ). sum_to z f) (add-one m))

pub sum_same : (m : ℕ) (f g : ℕ → ℕ) → ((i : ℕ) → i < m → f i ≡ g i) → sum_to m f ≡ sum_to m g
unfolding sum_to
sum_same zero f g h = refl
sum_same (suc m) f g h = ap₂ (λ (x y : ℕ). x + y) (h m (omega arith)) (sum_same m f g (λ i l. h i (omega arith)))

sum_append : (a b : ℕ) (f : ℕ → ℕ) → sum_to (a + b) f ≡ sum_to a f + sum_to b (λ i. f (a + i))
unfolding sum_to
sum_append a zero f = let e : a + 0 ≡ a = omega arith in let g = ap (λ (z : ℕ). sum_to z f) e in omega arith
sum_append a (suc b) f =
    let e : a + suc b ≡ suc (a + b) = omega arith in
    let g = ap (λ (z : ℕ). sum_to z f) e in
    let ih = sum_append a b f in
    omega arith

sum_add : (m : ℕ) (f g : ℕ → ℕ) → sum_to m (λ i. f i + g i) ≡ sum_to m f + sum_to m g
unfolding sum_to
sum_add zero f g = refl
sum_add (suc m) f g = let ih = sum_add m f g in omega arith

sum_zero : (m : ℕ) → sum_to m (λ i. 0) ≡ 0
unfolding sum_to
sum_zero zero = refl
sum_zero (suc m) = let ih = sum_zero m in omega arith

sum_swap : (a b : ℕ) (f : ℕ → ℕ → ℕ) → sum_to a (λ i. sum_to b (λ l. f i l)) ≡ sum_to b (λ l. sum_to a (λ i. f i l))
unfolding sum_to
sum_swap zero b f = sym (sum_zero b)
sum_swap (suc a) b f =
    ap (λ (z : ℕ). sum_to b (λ l. f a l) + z) (sum_swap a b f) ∙ sym (sum_add b (λ l. f a l) (λ l. sum_to a (λ i. f i l)))

sum_rows : (a q : ℕ) (f : ℕ → ℕ) → sum_to (a * q) f ≡ sum_to a (λ i. sum_to q (λ l. f (i * q + l)))
unfolding sum_to
sum_rows zero q f = let e : 0 * q ≡ 0 = omega arith in ap (λ (z : ℕ). sum_to z f) e
sum_rows (suc a) q f =
    let e : suc a * q ≡ a * q + q = omega arith in
    let ih = sum_rows a q f in
    ap (λ (z : ℕ). sum_to z f) e ∙ sum_append (a * q) q f ∙ omega arith

-- the numbers below a * q, by their residue modulo q
pub sum_grid : (a q : ℕ) (f : ℕ → ℕ) → sum_to (a * q) f ≡ sum_to q (λ l. sum_to a (λ i. f (l + i * q)))
sum_grid a q f =
    sum_rows a q f ∙ sum_swap a q (λ i l. f (i * q + l))
    ∙ sum_same q _ _ (λ l h. sum_same a _ _ (λ i g. let e : i * q + l ≡ l + i * q = omega arith in ap f e))
