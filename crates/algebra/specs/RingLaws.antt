-- What holds in every ring of characteristic 2: exchanging terms, zero and one, squares; and inverses from Fermat's law.
use Rattle.std.specs.Prelude.{◌≡◌, ◌≢◌, ◌⊎◌}
use Rattle.std.proofs.Math.Path.{refl, sym, ap}
use Rattle.std.proofs.Common.{ap₂, ◌∙◌, inl, inr, ℕ, zero, suc}
use Rattle.algebra.specs.Ring.{Ring}

module _ {F : Type 0} (R : Ring F) where
  open R use {𝟘, 𝟙, ◌⊞◌, ◌⊠◌, ⊞-assoc, ⊞-comm, ⊞-zero, ⊞-self, ⊠-assoc, ⊠-comm, ⊠-one, ⊠-dist}

  infixl 60 ◌⊞◌
  infixl 70 ◌⊠◌
  ⊞-lc : (a b c : F) → a ⊞ (b ⊞ c) ≡ b ⊞ (a ⊞ c)
  ⊞-lc a b c = sym (⊞-assoc a b c) ∙ ap (λ (x : F). x ⊞ c) (⊞-comm a b) ∙ ⊞-assoc b a c

  pub ⊠-lc : (a b c : F) → a ⊠ (b ⊠ c) ≡ b ⊠ (a ⊠ c)
  ⊠-lc a b c = sym (⊠-assoc a b c) ∙ ap (λ (x : F). x ⊠ c) (⊠-comm a b) ∙ ⊠-assoc b a c

  pub zero-⊞ : (a : F) → 𝟘 ⊞ a ≡ a
  zero-⊞ a = ⊞-comm 𝟘 a ∙ ⊞-zero a

  pub one-⊠ : (a : F) → 𝟙 ⊠ a ≡ a
  one-⊠ a = ⊠-comm 𝟙 a ∙ ⊠-one a

  pub dist-⊠ : (a b c : F) → (a ⊞ b) ⊠ c ≡ a ⊠ c ⊞ b ⊠ c
  dist-⊠ a b c = ⊠-comm (a ⊞ b) c ∙ ⊠-dist c a b ∙ ap₂ ◌⊞◌ (⊠-comm c a) (⊠-comm c b)

  pub ⊠-zero : (a : F) → a ⊠ 𝟘 ≡ 𝟘
  ⊠-zero a = ap (λ (x : F). a ⊠ x) (sym (⊞-zero 𝟘)) ∙ ⊠-dist a 𝟘 𝟘 ∙ ⊞-self (a ⊠ 𝟘)

  pub zero-⊠ : (a : F) → 𝟘 ⊠ a ≡ 𝟘
  zero-⊠ a = ⊠-comm 𝟘 a ∙ ⊠-zero a

  -- two that are next to one another, with something after them, go
  pub ⊞-self-l : (a b : F) → a ⊞ (a ⊞ b) ≡ b
  ⊞-self-l a b = sym (⊞-assoc a a b) ∙ ap (λ (x : F). x ⊞ b) (⊞-self a) ∙ zero-⊞ b

  pub ⊞-cancel : (a b : F) → a ⊞ b ≡ 𝟘 → a ≡ b
  ⊞-cancel a b e = sym (⊞-zero a) ∙ ap (λ (x : F). a ⊞ x) (sym e) ∙ ⊞-self-l a b

  pub ⊞-swap : (a b c d : F) → (a ⊞ b) ⊞ (c ⊞ d) ≡ (a ⊞ c) ⊞ (b ⊞ d)
  ⊞-swap a b c d = simp (⊞-assoc, ⊞-lc)

  pub ⊠-swap : (a b c d : F) → (a ⊠ b) ⊠ (c ⊠ d) ≡ (a ⊠ c) ⊠ (b ⊠ d)
  ⊠-swap a b c d = simp (⊠-assoc, ⊠-lc)

  -- ---- squares
  pub square_add : (a b : F) → (a ⊞ b) ⊠ (a ⊞ b) ≡ a ⊠ a ⊞ b ⊠ b
  square_add a b =
      ⊠-dist (a ⊞ b) a b ∙ ap₂ ◌⊞◌ (dist-⊠ a b a) (dist-⊠ a b b)
      ∙ ap (λ (x : F). a ⊠ a ⊞ x ⊞ (a ⊠ b ⊞ b ⊠ b)) (⊠-comm b a)
      ∙ ⊞-assoc (a ⊠ a) (a ⊠ b) (a ⊠ b ⊞ b ⊠ b) ∙ ap (λ (x : F). a ⊠ a ⊞ x) (⊞-self-l (a ⊠ b) (b ⊠ b))

  -- a to the 2 ^ k
  unfoldable pub sqs : ℕ → F → F
  sqs zero a = a
  sqs (suc k) a = sqs k (a ⊠ a)

  pub sqs_add : (k : ℕ) (a b : F) → sqs k (a ⊞ b) ≡ sqs k a ⊞ sqs k b
  unfolding sqs
  sqs_add zero a b = refl
  sqs_add (suc k) a b = ap (sqs k) (square_add a b) ∙ sqs_add k (a ⊠ a) (b ⊠ b)

  pub sqs_mul : (k : ℕ) (a b : F) → sqs k (a ⊠ b) ≡ sqs k a ⊠ sqs k b
  unfolding sqs
  sqs_mul zero a b = refl
  sqs_mul (suc k) a b = ap (sqs k) (⊠-swap a b a b) ∙ sqs_mul k (a ⊠ a) (b ⊠ b)

  pub sqs_zero : (k : ℕ) → sqs k 𝟘 ≡ 𝟘
  sqs_zero k = ap (sqs k) (sym (⊞-zero 𝟘)) ∙ sqs_add k 𝟘 𝟘 ∙ ⊞-self (sqs k 𝟘)

  pub sqs_one : (k : ℕ) → sqs k 𝟙 ≡ 𝟙
  unfolding sqs
  sqs_one zero = refl
  sqs_one (suc k) = ap (sqs k) (⊠-one 𝟙) ∙ sqs_one k

  -- a to the 2 ^ k - 1
  unfoldable pub ones_power : ℕ → F → F
  ones_power zero a = 𝟙
  ones_power (suc k) a = a ⊠ ones_power k (a ⊠ a)

  ones_power_law : (k : ℕ) (a : F) → a ⊠ ones_power k a ≡ sqs k a
  unfolding ones_power sqs
  ones_power_law zero a = ⊠-one a
  ones_power_law (suc k) a = sym (⊠-assoc a a (ones_power k (a ⊠ a))) ∙ ones_power_law k (a ⊠ a)

  -- Fermat, and only two idempotents: then there are inverses
  pub fermat_inverse : (k : ℕ) → ((a : F) → sqs (suc k) a ≡ a) → ((a : F) → a ⊠ a ≡ a → (a ≡ 𝟘) ⊎ (a ≡ 𝟙))
      → (a : F) → a ≢ 𝟘 → a ⊠ ones_power k (a ⊠ a) ≡ 𝟙
  unfolding ones_power
  fermat_inverse k fix idem a nz = pick (idem u uu)
    where
      v : F
      v = ones_power k (a ⊠ a)

      u : F
      u = a ⊠ v

      au : a ⊠ u ≡ a
      au = ones_power_law (suc k) a ∙ fix a

      uu : u ⊠ u ≡ u
      uu = ap (λ (x : F). x ⊠ u) (⊠-comm a v) ∙ ⊠-assoc v a u ∙ ap (λ (x : F). v ⊠ x) au ∙ ⊠-comm v a

      pick : (u ≡ 𝟘) ⊎ (u ≡ 𝟙) → u ≡ 𝟙
      pick (inl e) = absurd (nz (sym au ∙ ap (λ (x : F). a ⊠ x) e ∙ ⊠-zero a))
      pick (inr e) = e
