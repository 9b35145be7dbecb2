-- There is only one shortest register of length at most half of what it generates: "the shortest register" names no algorithm. Here up to
-- what Massey's bound says of a difference of two; the rest, with `only_register`, is in proofs/OnlyRegister.antt.
use Rattle.std.specs.Prelude.{◌≡◌, refl, ◌≢◌, ℕ, suc, ◌+◌, ◌-◌, ◌≤◌, ◌<◌}
use Rattle.std.proofs.Common.{sym, ◌∙◌, zero-add, arith}
use Rattle.std.proofs.Math.Path.{ap, fun_ext}
use Rattle.std.proofs.Math.Decide.{dec_le}
use Rattle.algebra.specs.Ring.{Ring, Field}
use Rattle.algebra.specs.RingLaws.{⊠-zero}
use Rattle.algebra.specs.Series.{conv}
use Rattle.algebra.specs.SeriesLaws.{conv_mul_l}
use Rattle.algebra.specs.Massey.{massey, gen_less, gen_more, ups, ups_at, ups_below, conv_ups}
use Rattle.algebra.specs.Register.{Gen, Shortest}

module _ {F : Type 0} (K : Field F) where
  open K.ring use {𝟘, 𝟙, ◌⊞◌, ◌⊠◌, ⊞-zero, ⊞-self, ⊠-comm}

  infixl 60 ◌⊞◌
  infixl 70 ◌⊠◌
  abbrev R : Ring F
  R = K.ring

  module _ (s : ℕ → F) (k : ℕ) (c : ℕ → F) (l : ℕ) (S : Shortest R s k c l) where
    pub same_length : (c' : ℕ → F) (l' : ℕ) → Shortest R s k c' l' → l ≡ l'
    same_length c' l' S' =
        let h = S.short c' l' S'.gen in
        let h' = S'.short c l S.gen in
        omega arith

    module _ (half : l + l ≤ k) (d : ℕ → F) (supp : (i : ℕ) → l < i → d i ≡ 𝟘) (zeros : (n : ℕ) → l ≤ n → n < k → conv R d s n ≡ 𝟘) where
      -- d begins at j: moved down by j and made monic it is a register, shorter than l by j
      module _ (j : ℕ) (pos : 0 < j) (low : (i : ℕ) → i < j → d i ≡ 𝟘) (nz : d j ≢ 𝟘) where
        pub moved : ℕ → F
        moved i = K.inv (d j) ⊠ d (i + j)

        pub fits : j ≤ l
        fits = pick (dec_le j l)
          where
            pick : Dec (j ≤ l) → j ≤ l
            pick (yes h) = h
            pick (no h) = absurd (nz (supp j (omega arith)))

        back : (i : ℕ) → ups R j (λ i. d (i + j)) i ≡ d i
        back i = pick (dec_le j i)
          where
            pick : Dec (j ≤ i) → ups R j (λ i. d (i + j)) i ≡ d i
            pick (yes h) =
                let e : (i - j) + j ≡ i = omega arith in
                ups_at K j i (i - j) (λ i. d (i + j)) e ∙ ap d e
            pick (no h) = ups_below K j i (λ i. d (i + j)) (omega arith) ∙ sym (low i (omega arith))

        conv_moved : (n : ℕ) → conv R moved s n ≡ K.inv (d j) ⊠ conv R d s (n + j)
        unfolding moved
        conv_moved n =
            conv_mul_l R n (K.inv (d j)) (λ i. d (i + j)) s
            ∙ ap (λ y. K.inv (d j) ⊠ y) (sym (conv_ups K j (n + j) n (λ i. d (i + j)) s refl) ∙ ap (λ g. conv R g s (n + j)) (fun_ext back))

        pub start : Gen R s (k - j) moved (l - j)
        unfolding moved
        start =
            record {
              head = ap (λ i. K.inv (d j) ⊠ d i) (zero-add j) ∙ ⊠-comm (K.inv (d j)) (d j) ∙ K.inv_law (d j) nz;
              supp = λ i h. ap (λ y. K.inv (d j) ⊠ y) (supp (i + j) (omega arith)) ∙ ⊠-zero R _;
              zeros = λ n h h'. conv_moved n ∙ ap (λ y. K.inv (d j) ⊠ y) (zeros (n + j) (omega arith) (omega arith)) ∙ ⊠-zero R _;
            }

        -- it cannot fail below k, by Massey's bound
        pub again : (m : ℕ) → k - j ≤ m → Gen R s m moved (l - j) → m < k → Gen R s (suc m) moved (l - j)
        again m a g h = pick (K.dec (conv R moved s m) 𝟘)
          where
            pick : Dec (conv R moved s m ≡ 𝟘) → Gen R s (suc m) moved (l - j)
            pick (yes e) = gen_more K s m moved (l - j) g e
            pick (no ne) = absurd (omega (arith, massey K s m moved (l - j) c l g ne (gen_less K s (suc m) k c l h S.gen), fits))
