-- Massey's bound on the registers of a sequence; Berlekamp-Massey finds a shortest one.
use Rattle.std.specs.Prelude.{◌≡◌, ◌≢◌}
use Rattle.std.proofs.Math.Path.{refl, ap, ap₂, transport}
use Rattle.std.proofs.Common.{sym, ◌∙◌, not-suc-le-zero, le_of_suc-le-suc, le_refl, arith, ℕ, zero, suc, ◌+◌, ◌-◌, ◌≤◌, ◌<◌}
use Rattle.std.proofs.Math.Nat.{le-suc}
use Rattle.std.proofs.Math.Decide.{ℕ_discrete, dec_le}
use Rattle.algebra.specs.Ring.{Ring, Field}
use Rattle.algebra.specs.RingLaws.{one-⊠, ⊠-zero, zero-⊠}
use Rattle.algebra.specs.Register.{Gen, Shortest}
use Rattle.algebra.specs.Series.{conv}
use Rattle.algebra.specs.SeriesLaws.{unit, up, conv_ext, conv_vanish, conv_head, conv_add_l, conv_mul_l, conv_up_l, conv_lc, sum, conv_sum, sum_more}

-- times x ^ m
unfoldable pub ups : {F : Type 0} → Ring F → ℕ → (ℕ → F) → ℕ → F
ups R zero g = g
ups R (suc m) g = up R (ups R m g)

module _ {F : Type 0} (R : Ring F) where
  -- sequences that agree below k have the same registers
  pub gen_ext : (s s' : ℕ → F) (k : ℕ) (c : ℕ → F) (l : ℕ) → ((j : ℕ) → j < k → s j ≡ s' j) → Gen R s k c l → Gen R s' k c l
  gen_ext s s' k c l e g =
      record { head = g.head; supp = g.supp; zeros = λ n h h'. sym (conv_ext R n c s s' (λ j a. e j (omega arith))) ∙ g.zeros n h h' }

  pub shortest_ext : (s s' : ℕ → F) (k : ℕ) (c : ℕ → F) (l : ℕ) → ((j : ℕ) → j < k → s j ≡ s' j) → Shortest R s k c l → Shortest R s' k c l
  shortest_ext s s' k c l e S =
      record {
        gen = gen_ext s s' k c l e S.gen;
        short = λ c' l' g. S.short c' l' (gen_ext s' s k c' l' (λ j h. sym (e j h)) g);
      }

module _ {F : Type 0} (K : Field F) where
  open K.ring use {𝟘, 𝟙, ◌⊞◌, ◌⊠◌, ⊞-zero, ⊞-self, ⊠-assoc, ⊠-comm, ⊠-one}

  infixl 60 ◌⊞◌
  infixl 70 ◌⊠◌
  abbrev R : Ring F
  R = K.ring

  -- fewer places
  pub gen_less : (s : ℕ → F) (j k : ℕ) (c : ℕ → F) (l : ℕ) → j ≤ k → Gen R s k c l → Gen R s j c l
  gen_less s j k c l a g = record { head = g.head; supp = g.supp; zeros = λ n h h'. g.zeros n h (omega arith) }

  -- one place more
  pub gen_more : (s : ℕ → F) (k : ℕ) (c : ℕ → F) (l : ℕ) → Gen R s k c l → conv R c s k ≡ 𝟘 → Gen R s (suc k) c l
  gen_more s k c l g e = record { head = g.head; supp = g.supp; zeros = λ n h h'. pick n h h' (ℕ_discrete n k) }
    where
      pick : (n : ℕ) → l ≤ n → n < suc k → Dec (n ≡ k) → conv R c s n ≡ 𝟘
      pick n h h' (yes q) = ap (conv R c s) q ∙ e
      pick n h h' (no ne) = g.zeros n h (omega arith)

  -- a product is zero where the first is past its support or the second is zero
  part : (l : ℕ) (c g : ℕ → F) → ((i : ℕ) → l < i → c i ≡ 𝟘) → (i j : ℕ) → (i ≤ l → g j ≡ 𝟘) → c i ⊠ g j ≡ 𝟘
  part l c g supp i j z = pick (dec_le i l)
    where
      pick : Dec (i ≤ l) → c i ⊠ g j ≡ 𝟘
      pick (yes h) = ap (λ y. c i ⊠ y) (z h) ∙ ⊠-zero R (c i)
      pick (no h) = ap (λ y. y ⊠ g j) (supp i (omega arith)) ∙ zero-⊠ R (g j)

  -- Massey's bound: if a register of length l fails first at k, one that serves there too has a length l' with k < l + l'
  pub massey : (s : ℕ → F) (k : ℕ) (c : ℕ → F) (l : ℕ) (c' : ℕ → F) (l' : ℕ)
      → Gen R s k c l → conv R c s k ≢ 𝟘 → Gen R s (suc k) c' l' → k < l + l'
  massey s k c l c' l' g nz g' = pick (dec_le (suc k) (l + l'))
    where
      zero_side : l + l' ≤ k → conv R c (conv R c' s) k ≡ 𝟘
      zero_side h = conv_vanish R k c (conv R c' s) (λ i j e. part l c (conv R c' s) g.supp i j (λ q. g'.zeros j (omega arith) (omega arith)))

      other_side : l + l' ≤ k → conv R c' (conv R c s) k ≡ conv R c s k
      other_side h =
          conv_head R k c' (conv R c s) (λ i j e. part l' c' (conv R c s) g'.supp (suc i) j (λ q. g.zeros j (omega arith) (omega arith)))
          ∙ ap (λ y. y ⊠ conv R c s k) g'.head ∙ one-⊠ R (conv R c s k)

      pick : Dec (suc k ≤ l + l') → k < l + l'
      pick (yes h) = h
      pick (no h) =
          let q : l + l' ≤ k = omega arith in
          absurd (nz (sym (other_side q) ∙ conv_lc R k c' c s ∙ zero_side q))

  -- ---- shifted by m
  pub conv_ups : (m n j : ℕ) (b s : ℕ → F) → j + m ≡ n → conv R (ups R m b) s n ≡ conv R b s j
  unfolding ups up
  conv_ups zero n j b s e = ap (conv R b s) (omega arith)
  conv_ups (suc m) zero j b s e = absurd (omega arith)
  conv_ups (suc m) (suc n) j b s e = conv_up_l R (suc n) (ups R m b) s ∙ conv_ups m n j b s (omega arith)

  pub ups_supp : (m l : ℕ) (b : ℕ → F) → ((i : ℕ) → l < i → b i ≡ 𝟘) → (i : ℕ) → l + m < i → ups R m b i ≡ 𝟘
  unfolding ups up
  ups_supp zero l b h i k = h i (omega arith)
  ups_supp (suc m) l b h zero k = refl
  ups_supp (suc m) l b h (suc i) k = ups_supp m l b h i (omega arith)

  ups_head : (m : ℕ) (b : ℕ → F) → 0 < m → ups R m b 0 ≡ 𝟘
  unfolding ups up
  ups_head zero b h = absurd (omega arith)
  ups_head (suc m) b h = refl

  pub ups_below : (m i : ℕ) (b : ℕ → F) → i < m → ups R m b i ≡ 𝟘
  unfolding ups up
  ups_below zero i b h = absurd (not-suc-le-zero h)
  ups_below (suc m) zero b h = refl
  ups_below (suc m) (suc i) b h = ups_below m i b (le_of_suc-le-suc h)

  pub ups_at : (m i j : ℕ) (b : ℕ → F) → j + m ≡ i → ups R m b i ≡ b j
  unfolding ups up
  ups_at zero i j b e = ap b (omega arith)
  ups_at (suc m) zero j b e = absurd (omega arith)
  ups_at (suc m) (suc i) j b e = ups_at m i j b (omega arith)

  -- c + q x^m b
  unfoldable pub fixed : (ℕ → F) → F → ℕ → (ℕ → F) → ℕ → F
  fixed c q m b i = c i ⊞ q ⊠ ups R m b i

  conv_fixed : (c : ℕ → F) (q : F) (m : ℕ) (b s : ℕ → F) (n : ℕ) → conv R (fixed c q m b) s n ≡ conv R c s n ⊞ q ⊠ conv R (ups R m b) s n
  unfolding fixed
  conv_fixed c q m b s n = conv_add_l R n c (λ i. q ⊠ ups R m b i) s ∙ ap (λ y. conv R c s n ⊞ y) (conv_mul_l R n q (ups R m b) s)

  -- ---- the invariant, after k of s: c of length l is a shortest register; b of length lb was one that failed m places back, by δ
  pub record Inv (s : ℕ → F) (k l lb m : ℕ) (c b : ℕ → F) (δ : F) : Type 0 where
    pub gen : Gen R s k c l
    pub short : (c' : ℕ → F) (l' : ℕ) → Gen R s k c' l' → l ≤ l'
    pub δ_nz : δ ≢ 𝟘
    pub m_pos : 0 < m
    pub link : l + lb + m ≡ suc k
    pub supp_b : (i : ℕ) → lb < i → b i ≡ 𝟘
    pub before : (n : ℕ) → lb ≤ n → suc n + m ≤ k → conv R b s n ≡ 𝟘
    pub failed : (j : ℕ) → j + m ≡ k → conv R b s j ≡ δ

  -- the same at equal places
  pub inv_move : (s : ℕ → F) {k k' l l' lb lb' m m' : ℕ} {c c' b b' : ℕ → F} {δ δ' : F}
      → Inv s k l lb m c b δ → k ≡ k' → l ≡ l' → lb ≡ lb' → m ≡ m' → c ≡ c' → b ≡ b' → δ ≡ δ' → Inv s k' l' lb' m' c' b' δ'
  inv_move s I pk pl plb pm pc pb pδ = transport (λ i. Inv s (pk i) (pl i) (plb i) (pm i) (pc i) (pb i) (pδ i)) I

  pub fixed_at : (c : ℕ → F) (q : F) (m : ℕ) (b : ℕ → F) (i j : ℕ) → j + m ≡ i → fixed c q m b i ≡ c i ⊞ q ⊠ b j
  unfolding fixed
  fixed_at c q m b i j e = ap (λ y. c i ⊞ q ⊠ y) (ups_at m i j b e)

  pub fixed_below : (c : ℕ → F) (q : F) (m : ℕ) (b : ℕ → F) (i : ℕ) → i < m → fixed c q m b i ≡ c i
  unfolding fixed
  fixed_below c q m b i h = ap (λ y. c i ⊞ q ⊠ y) (ups_below m i b h) ∙ ap (λ y. c i ⊞ y) (⊠-zero R q) ∙ ⊞-zero (c i)

  pub inv_start : (s : ℕ → F) → Inv s 0 0 0 1 (unit R) (unit R) 𝟙
  unfolding unit
  inv_start s =
      record {
        gen = record { head = refl; supp = later; zeros = λ n h h'. absurd (not-suc-le-zero h') };
        short = λ c' l' g. omega arith;
        δ_nz = K.one_nz;
        m_pos = omega arith;
        link = refl;
        supp_b = later;
        before = λ n h h'. absurd (omega arith);
        failed = λ j e. absurd (omega arith);
      }
    where
      later : (i : ℕ) → 0 < i → unit R i ≡ 𝟘
      later zero h = absurd (not-suc-le-zero h)
      later (suc i) h = refl

  module _ (s : ℕ → F) (k l lb m : ℕ) (c b : ℕ → F) (δ : F) (I : Inv s k l lb m c b δ) where
    pub step_zero : conv R c s k ≡ 𝟘 → Inv s (suc k) l lb (suc m) c b δ
    step_zero e =
        record {
          gen = gen_more s k c l I.gen e;
          short = λ c' l' g. I.short c' l' (gen_less s k (suc k) c' l' (le-suc k) g);
          δ_nz = I.δ_nz;
          m_pos = omega arith;
          link = omega (arith, I.link);
          supp_b = I.supp_b;
          before = λ n h h'. I.before n h (omega arith);
          failed = λ j h. I.failed j (omega arith);
        }

    -- the register mended, at any length that is long enough
    mend : (l' : ℕ) → l ≤ l' → k < l + l' → Gen R s (suc k) (fixed c (conv R c s k ⊠ K.inv δ) m b) l'
    unfolding fixed
    mend l' h h' =
        record {
          head = ap₂ (λ y z. y ⊞ q ⊠ z) I.gen.head (ups_head m b I.m_pos) ∙ ap (λ y. 𝟙 ⊞ y) (⊠-zero R q) ∙ ⊞-zero 𝟙;
          supp = λ i j. ap₂ (λ y z. y ⊞ q ⊠ z) (I.gen.supp i (omega arith)) (ups_supp m lb b I.supp_b i (omega (arith, I.link))) ∙ ap (λ y. 𝟘 ⊞ y) (⊠-zero R q) ∙ ⊞-zero 𝟘;
          zeros = λ n a a'. conv_fixed c q m b s n ∙ pick n a a' (ℕ_discrete n k);
        }
      where
        q : F
        q = conv R c s k ⊠ K.inv δ

        pick : (n : ℕ) → l' ≤ n → n < suc k → Dec (n ≡ k) → conv R c s n ⊞ q ⊠ conv R (ups R m b) s n ≡ 𝟘
        pick n a a' (yes e) =
            ap₂ (λ y z. y ⊞ q ⊠ z) (ap (conv R c s) e) (conv_ups m n (n - m) b s (omega (arith, I.link)) ∙ I.failed (n - m) (omega (arith, I.link)))
            ∙ ap (λ y. conv R c s k ⊞ y) (⊠-assoc _ (K.inv δ) δ ∙ ap (λ y. conv R c s k ⊠ y) (⊠-comm (K.inv δ) δ ∙ K.inv_law δ I.δ_nz) ∙ ⊠-one _)
            ∙ ⊞-self (conv R c s k)
        pick n a a' (no ne) =
            ap₂ (λ y z. y ⊞ q ⊠ z) (I.gen.zeros n (omega arith) (omega arith))
            (conv_ups m n (n - m) b s (omega (arith, I.link)) ∙ I.before (n - m) (omega (arith, I.link)) (omega (arith, I.link)))
            ∙ ap (λ y. 𝟘 ⊞ y) (⊠-zero R q) ∙ ⊞-zero 𝟘

    pub step_keep : conv R c s k ≢ 𝟘 → k < l + l → Inv s (suc k) l lb (suc m) (fixed c (conv R c s k ⊠ K.inv δ) m b) b δ
    step_keep nz h =
        record {
          gen = mend l (le_refl l) h;
          short = λ c' l' g. I.short c' l' (gen_less s k (suc k) c' l' (le-suc k) g);
          δ_nz = I.δ_nz;
          m_pos = omega arith;
          link = omega (arith, I.link);
          supp_b = I.supp_b;
          before = λ n h h'. I.before n h (omega arith);
          failed = λ j h. I.failed j (omega arith);
        }

    pub step_grow : conv R c s k ≢ 𝟘 → l + l ≤ k → Inv s (suc k) (suc k - l) l 1 (fixed c (conv R c s k ⊠ K.inv δ) m b) c (conv R c s k)
    step_grow nz h =
        record {
          gen = mend (suc k - l) (omega arith) (omega arith);
          short = λ c' l' g. let t = massey s k c l c' l' I.gen nz g in omega arith;
          δ_nz = nz;
          m_pos = omega arith;
          link = omega arith;
          supp_b = I.gen.supp;
          before = λ n a a'. I.gen.zeros n a (omega arith);
          failed = λ j e. ap (conv R c s) (omega arith);
        }

    -- where the register fails, no shorter one than suc k - l serves, for any longer stretch
    pub no_shorter : conv R c s k ≢ 𝟘 → (k' : ℕ) → k < k' → (c' : ℕ → F) (l' : ℕ) → Gen R s k' c' l' → k < l + l'
    no_shorter nz k' h c' l' g = massey s k c l c' l' I.gen nz (gen_less s (suc k) k' c' l' h g)

    -- the sum that the code computes is the discrepancy
    pub discrepancy : sum R (suc l) (λ i. c i ⊠ s (k - i)) ≡ conv R c s k
    discrepancy =
        sym (conv_sum R k c s ∙ sum_more R (suc l) (suc k) _ (omega (arith, I.link, I.m_pos)) (λ i h h'. ap (λ y. y ⊠ s (k - i)) (I.gen.supp i h) ∙ zero-⊠ R _))

    inv_shortest : Shortest R s k c l
    inv_shortest = record { gen = I.gen; short = I.short }

  -- ---- Berlekamp-Massey: there is a shortest register, for every sequence and every stretch of it
  record State (s : ℕ → F) (k : ℕ) : Type 0 where
    l : ℕ
    lb : ℕ
    m : ℕ
    c : ℕ → F
    b : ℕ → F
    δ : F
    inv : Inv s k l lb m c b δ

  state_of_lem : {s : ℕ → F} {k l lb m : ℕ} {c b : ℕ → F} {δ : F} → Inv s k l lb m c b δ → State s k
  state_of_lem {s} {k} {l} {lb} {m} {c} {b} {δ} I = record { l = l; lb = lb; m = m; c = c; b = b; δ = δ; inv = I }

  next : (s : ℕ → F) (k : ℕ) → State s k → State s (suc k)
  next s k S = pick (K.dec (conv R S.c s k) 𝟘) (dec_le (suc k) (S.l + S.l))
    where
      pick : Dec (conv R S.c s k ≡ 𝟘) → Dec (k < S.l + S.l) → State s (suc k)
      pick (yes e) d = state_of_lem (step_zero s k _ _ _ _ _ _ S.inv e)
      pick (no ne) (yes h) = state_of_lem (step_keep s k _ _ _ _ _ _ S.inv ne h)
      pick (no ne) (no h) = state_of_lem (step_grow s k _ _ _ _ _ _ S.inv ne (omega arith))

  state : (s : ℕ → F) (k : ℕ) → State s k
  state s zero = state_of_lem (inv_start s)
  state s (suc k) = next s k (state s k)

  pub shortest_exists : (s : ℕ → F) (k : ℕ) → (c : ℕ → F) × (l : ℕ) × Shortest R s k c l
  shortest_exists s k = let S = state s k in (S.c, S.l, inv_shortest s k _ _ _ _ _ _ S.inv)
