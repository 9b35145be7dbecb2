-- The two computed checks that make a field of the ring: a linear map that undoes x + x², so that only 0 and 1 are their own squares
-- (`idempotents`), and suc n squarings of α, which are then those of every element (`fix`).
use Rattle.std.specs.Prelude.{◌≡◌, ◌⊎◌, Bool, List, [], ◌∷◌, T, eqb}
use Rattle.std.proofs.Math.Path.{refl, sym, ap, ap₂, subst}
use Rattle.std.proofs.Common.{◌∙◌, le_of_suc-le-suc, mod-lt, le_of_lt, arith, ℕ, zero, suc, ◌*◌, ◌/◌, ◌%◌, ◌^◌, ◌<◌}
use Rattle.std.proofs.Math.Logic.{inl, inr}
use Rattle.std.proofs.Math.Dec.{eqb→eq}
use Rattle.std.proofs.Math.Pow.{pow-lt}
use Rattle.laws.specs.Tests.{below, below_at}
use Rattle.laws.specs.Xor.{⊕-self, ⊕-zero, ⊕-half, ⊕-odd, ⊕-double, ⊕-swap, bit_mul, two_cases, two_pos, span}
use Rattle.laws.specs.Definitions.{◌⊕◌}
use Rattle.algebra.specs.RingLaws.{sqs, sqs_add, sqs_mul, sqs_zero, sqs_one, square_add}
use Rattle.algebra.specs.Gf.{El, mul}
use Rattle.algebra.specs.GfLaws.{el_path, mul_two, mul_zero_l}
use Rattle.algebra.specs.GfField.{gf_ring}

-- ---- linear maps by their values at the powers of two
unfoldable pub lin : List ℕ → ℕ → ℕ
lin [] x = 0
lin (v ∷ vs) x = (x % 2 * v) ⊕ lin vs (x / 2)

lin_add : (vs : List ℕ) (a b : ℕ) → lin vs (a ⊕ b) ≡ lin vs a ⊕ lin vs b
unfolding lin
lin_add [] a b = sym (⊕-zero 0)
lin_add (v ∷ vs) a b =
    rw (⊕-odd, ⊕-half, bit_mul (a % 2) (b % 2) v (mod-lt a two_pos) (mod-lt b two_pos), lin_add vs (a / 2) (b / 2)) (⊕-swap _ _ _ _)

lin_zero : (vs : List ℕ) → lin vs 0 ≡ 0
lin_zero vs = ap (lin vs) (sym (⊕-zero 0)) ∙ lin_add vs 0 0 ∙ ⊕-self (lin vs 0)

-- the check of idempotents: `vs` undoes x + x², but for the lowest digit
unfoldable pub undoes : ℕ → ℕ → List ℕ → Bool
undoes n poly vs = below (suc n) (λ i. eqb (lin vs (2 ^ i ⊕ mul n poly (2 ^ i) (2 ^ i))) (2 ^ i / 2 * 2))

-- the check of Fermat: suc n squarings of 2
unfoldable pub squarings : ℕ → ℕ → ℕ → ℕ → ℕ
squarings n poly zero a = a
squarings n poly (suc k) a = squarings n poly k (mul n poly a a)

module _ (n poly : ℕ) (hp : poly < 2 ^ suc n) where
  -- induction on elements
  el_span : (P : El n → Type 0) → P (gf_ring n poly hp).𝟘 → ((a b : El n) → P a → P b → P ((gf_ring n poly hp).◌⊞◌ a b))
      → ((i : ℕ) (h : i < suc n) → P (2 ^ i, pow-lt h)) → (a : El n) → P a
  unfolding gf_ring
  el_span P z add base a =
      span (λ x. (h : x < 2 ^ suc n) → P (x, h)) (λ h. subst P (el_path refl) z) (suc n)
      (λ x y hx hy p q h. subst P (el_path refl) (add (x, hx) (y, hy) (p hx) (q hy)))
      (λ i hi h. subst P (el_path refl) (base i hi)) a.0 a.1 a.1

  -- the checks give the field
  module _ (pos : 0 < n) (vs : List ℕ) (undone : T (undoes n poly vs)) (fermat : squarings n poly (suc n) 2 ≡ 2) where
    square-⊕ : (a b : ℕ) → a < 2 ^ suc n → b < 2 ^ suc n → mul n poly (a ⊕ b) (a ⊕ b) ≡ mul n poly a a ⊕ mul n poly b b
    unfolding gf_ring
    square-⊕ a b ha hb = ap (λ (x : El n). x.0) (square_add (gf_ring n poly hp) (a, ha) (b, hb))

    undo : (a : ℕ) → a < 2 ^ suc n → lin vs (a ⊕ mul n poly a a) ≡ a / 2 * 2
    unfolding undoes
    undo =
        span (λ a. lin vs (a ⊕ mul n poly a a) ≡ a / 2 * 2) (undo_zero) (suc n)
        (λ a b ha hb p q.
        ap (λ (x : ℕ). lin vs ((a ⊕ b) ⊕ x)) (square-⊕ a b ha hb) ∙ ap (lin vs) (⊕-swap a b _ _) ∙ lin_add vs _ _ ∙ ap₂ ◌⊕◌ p q
        ∙ sym (⊕-double (a / 2) (b / 2)) ∙ ap (λ (x : ℕ). x * 2) (sym (⊕-half a b)))
        (λ i hi. eqb→eq _ _ (below_at (suc n) _ undone i hi))
      where
        undo_zero : lin vs (0 ⊕ mul n poly 0 0) ≡ 0
        undo_zero = ap (λ (x : ℕ). lin vs (0 ⊕ x)) (mul_zero_l n poly hp 0) ∙ ap (lin vs) (⊕-zero 0) ∙ lin_zero vs

    pub idempotents : (a : El n) → (gf_ring n poly hp).◌⊠◌ a a ≡ a → (a ≡ (gf_ring n poly hp).𝟘) ⊎ (a ≡ (gf_ring n poly hp).𝟙)
    unfolding gf_ring
    idempotents a e =
        two_cases (λ x. a.0 ≡ x → (a ≡ (gf_ring n poly hp).𝟘) ⊎ (a ≡ (gf_ring n poly hp).𝟙)) (λ p. inl (el_path p)) (λ p. inr (el_path p)) a.0 small refl
      where
        halves : a.0 / 2 * 2 ≡ 0
        halves = sym (undo a.0 a.1) ∙ ap (λ (x : El n). lin vs (a.0 ⊕ x.0)) e ∙ ap (lin vs) (⊕-self a.0) ∙ lin_zero vs

        small : a.0 < 2
        small = omega (arith, halves)

    squarings_sqs : (k : ℕ) (a : El n) → (sqs (gf_ring n poly hp) k a).0 ≡ squarings n poly k a.0
    unfolding gf_ring sqs squarings
    squarings_sqs zero a = refl
    squarings_sqs (suc k) a = squarings_sqs k ((gf_ring n poly hp).◌⊠◌ a a)

    α : El n
    α = (2, pow-lt {i = 1} (omega arith))

    pub fix : (a : El n) → sqs (gf_ring n poly hp) (suc n) a ≡ a
    unfolding gf_ring α
    fix = el_span (λ a. sqs (gf_ring n poly hp) (suc n) a ≡ a) (sqs_zero (gf_ring n poly hp) (suc n)) (λ a b p q. sqs_add (gf_ring n poly hp) (suc n) a b ∙ ap₂ (gf_ring n poly hp).◌⊞◌ p q) powers
      where
        powers : (i : ℕ) (h : i < suc n) → sqs (gf_ring n poly hp) (suc n) (2 ^ i, pow-lt h) ≡ (2 ^ i, pow-lt h)
        powers zero h =
            let e : (1, pow-lt h) ≡ (gf_ring n poly hp).𝟙 = el_path refl in
            ap (sqs (gf_ring n poly hp) (suc n)) e ∙ sqs_one (gf_ring n poly hp) (suc n) ∙ sym e
        powers (suc i) h =
            let e : (2 ^ suc i, pow-lt h) ≡ (gf_ring n poly hp).◌⊠◌ α (2 ^ i, pow-lt (le_of_lt h)) = el_path (sym (mul_two n poly hp i (le_of_suc-le-suc h))) in
            let fα : sqs (gf_ring n poly hp) (suc n) α ≡ α = el_path (squarings_sqs (suc n) α ∙ fermat) in
            ap (sqs (gf_ring n poly hp) (suc n)) e ∙ sqs_mul (gf_ring n poly hp) (suc n) α (2 ^ i, pow-lt (le_of_lt h))
            ∙ ap₂ (gf_ring n poly hp).◌⊠◌ fα (powers i (le_of_lt h)) ∙ sym e
