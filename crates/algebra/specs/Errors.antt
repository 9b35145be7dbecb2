-- Errors of a word of n places: their weight, their places listed, and what a shortest register of their syndromes finds:
-- as many roots as there are errors, and exactly at the wrong places. Any error values, any first power of the syndromes.
use Rattle.std.specs.Prelude.{◌≡◌, ◌≢◌}
use Rattle.std.proofs.Math.Path.{refl, sym, ap, ap₂}
use Rattle.std.proofs.Common.{◌∙◌, not-suc-le-zero, le_refl, arith, ℕ, zero, suc, ◌+◌, ◌≤◌, ◌<◌}
use Rattle.std.proofs.Math.Logic.{ite, if_pos, if_neg}
use Rattle.std.proofs.Math.Decide.{ℕ_discrete, dec_le, dec_lt}
use Rattle.algebra.specs.Ring.{Ring, Field}
use Rattle.algebra.specs.RingLaws.{zero-⊠}
use Rattle.algebra.specs.Series.{pow, eval}
use Rattle.algebra.specs.SeriesLaws.{sum, sum_ext, pow_add}
use Rattle.algebra.specs.Roots.{Distinct, domain, pow_nz, inv_inj, vandermonde}
use Rattle.algebra.specs.Massey.{gen_ext}
use Rattle.algebra.specs.Register.{Gen, Shortest}
use Rattle.algebra.specs.Locator.{syndrome, locator, locator_gen, all_roots, only_roots, length_is}

module _ {F : Type 0} (K : Field F) where
  open K.ring use {𝟘, ◌⊞◌, ◌⊠◌, ⊞-zero, ⊠-assoc}

  infixl 60 ◌⊞◌
  infixl 70 ◌⊠◌
  abbrev R₂ : Ring F
  R₂ = K.ring

  one_more : {A : Type 0} → Dec A → ℕ → ℕ
  one_more (yes _) k = k
  one_more (no _) k = suc k

  -- how many of the first n are not zero
  unfoldable pub weight : ℕ → (ℕ → F) → ℕ
  unfolding one_more
  weight zero ε = 0
  weight (suc n) ε = one_more (K.dec (ε n) 𝟘) (weight n ε)

  pub weight_none : (ε : ℕ → F) → weight 0 ε ≡ 0
  unfolding weight
  weight_none ε = refl

  pub weight_same : (n : ℕ) (ε : ℕ → F) → ε n ≡ 𝟘 → weight (suc n) ε ≡ weight n ε
  unfolding weight one_more
  weight_same n ε z = pick (K.dec (ε n) 𝟘)
    where
      pick : (d : Dec (ε n ≡ 𝟘)) → one_more d (weight n ε) ≡ weight n ε
      pick (yes _) = refl
      pick (no nz) = absurd (nz z)

  pub weight_more : (n : ℕ) (ε : ℕ → F) → ε n ≢ 𝟘 → weight (suc n) ε ≡ suc (weight n ε)
  unfolding weight one_more
  weight_more n ε nz = pick (K.dec (ε n) 𝟘)
    where
      pick : (d : Dec (ε n ≡ 𝟘)) → one_more d (weight n ε) ≡ suc (weight n ε)
      pick (yes z) = absurd (nz z)
      pick (no _) = refl

  -- fewer places, less weight
  pub weight_mono : (n : ℕ) (ε η : ℕ → F) → ((p : ℕ) → p < n → ε p ≢ 𝟘 → η p ≢ 𝟘) → weight n ε ≤ weight n η
  weight_mono zero ε η h = omega (arith, weight_none ε)
  weight_mono (suc n) ε η h = pick (weight_mono n ε η (λ p g. h p (omega arith))) (K.dec (ε n) 𝟘) (K.dec (η n) 𝟘)
    where
      pick : weight n ε ≤ weight n η → Dec (ε n ≡ 𝟘) → Dec (η n ≡ 𝟘) → weight (suc n) ε ≤ weight (suc n) η
      pick r (yes z) (yes z') = omega (arith, r, weight_same n ε z, weight_same n η z')
      pick r (yes z) (no nz) = omega (arith, r, weight_same n ε z, weight_more n η nz)
      pick r (no nz) (yes z) = absurd (h n (le_refl (suc n)) nz z)
      pick r (no nz) (no nz') = omega (arith, r, weight_more n ε nz, weight_more n η nz')

  pub weight_ext : (n : ℕ) (ε η : ℕ → F) → ((p : ℕ) → p < n → ε p ≡ η p) → weight n ε ≡ weight n η
  weight_ext n ε η e =
      let a = weight_mono n ε η (λ p h ne z. ne (e p h ∙ z)) in
      let b = weight_mono n η ε (λ p h ne z. ne (sym (e p h) ∙ z)) in
      omega arith

  pub weight_strict : (n : ℕ) (ε η : ℕ → F) → ((p : ℕ) → p < n → ε p ≢ 𝟘 → η p ≢ 𝟘)
      → (q : ℕ) → q < n → ε q ≡ 𝟘 → η q ≢ 𝟘 → weight n ε < weight n η
  weight_strict zero ε η h q a z nz = absurd (not-suc-le-zero a)
  weight_strict (suc n) ε η h q a z nz = pick (ℕ_discrete q n) (K.dec (ε n) 𝟘) (K.dec (η n) 𝟘) (weight_strict n ε η (λ p g. h p (omega arith)) q)
    where
      all : weight n ε ≤ weight n η
      all = weight_mono n ε η (λ p g. h p (omega arith))

      pick : Dec (q ≡ n) → Dec (ε n ≡ 𝟘) → Dec (η n ≡ 𝟘) → (q < n → ε q ≡ 𝟘 → η q ≢ 𝟘 → weight n ε < weight n η) → weight (suc n) ε < weight (suc n) η
      pick (yes e) d d' r = omega (arith, all, weight_same n ε (sym (ap ε e) ∙ z), weight_more n η (λ y. nz (ap η e ∙ y)))
      pick (no ne) (yes y) (yes y') r = omega (arith, r (omega arith) z nz, weight_same n ε y, weight_same n η y')
      pick (no ne) (yes y) (no y') r = omega (arith, r (omega arith) z nz, weight_same n ε y, weight_more n η y')
      pick (no ne) (no y) (yes y') r = absurd (h n (le_refl (suc n)) y y')
      pick (no ne) (no y) (no y') r = omega (arith, r (omega arith) z nz, weight_more n ε y, weight_more n η y')

  -- ---- the e places below n where ε is not zero, in order: a sum over the n is one over them
  pub record Listing (n : ℕ) (ε : ℕ → F) (e : ℕ) : Type 0 where
    pub place : ℕ → ℕ
    pub in_order : (i j : ℕ) → i < j → j < e → place i < place j
    pub inside : (i : ℕ) → i < e → place i < n
    pub wrong : (i : ℕ) → i < e → ε (place i) ≢ 𝟘
    pub all : (p : ℕ) → p < n → ε p ≢ 𝟘 → (i : ℕ) × (i < e) × (place i ≡ p)
    pub sums : (f : ℕ → F) → ((p : ℕ) → p < n → ε p ≡ 𝟘 → f p ≡ 𝟘) → sum R₂ n f ≡ sum R₂ e (λ i. f (place i))

  skip : (n : ℕ) (ε : ℕ → F) (e : ℕ) → ε n ≡ 𝟘 → Listing n ε e → Listing (suc n) ε e
  unfolding sum
  skip n ε e z L =
      record {
        place = L.place;
        in_order = L.in_order;
        inside = λ i h. let t = L.inside i h in omega arith;
        wrong = L.wrong;
        all = λ p h ne. pick p h ne (ℕ_discrete p n);
        sums = λ f h. ap₂ ◌⊞◌ (L.sums f (λ p g. h p (omega arith))) (h n (le_refl (suc n)) z) ∙ ⊞-zero _;
      }
    where
      pick : (p : ℕ) → p < suc n → ε p ≢ 𝟘 → Dec (p ≡ n) → (i : ℕ) × (i < e) × (L.place i ≡ p)
      pick p h ne (yes q) = absurd (ne (ap ε q ∙ z))
      pick p h ne (no q) = L.all p (omega arith) ne

  after : ℕ → ℕ → (ℕ → ℕ) → ℕ → ℕ
  after n e f i = ite (dec_lt i e) (f i) n

  after_low : (n e : ℕ) (f : ℕ → ℕ) (i : ℕ) → i < e → after n e f i ≡ f i
  unfolding after
  after_low n e f i h = if_pos (dec_lt i e) h (f i) n

  after_at : (n e : ℕ) (f : ℕ → ℕ) → after n e f e ≡ n
  unfolding after
  after_at n e f = if_neg (dec_lt e e) (λ h. omega arith) (f e) n

  keep : (n : ℕ) (ε : ℕ → F) (e : ℕ) → ε n ≢ 𝟘 → Listing n ε e → Listing (suc n) ε (suc e)
  unfolding sum
  keep n ε e nz L =
      record {
        place = P;
        in_order = λ i j h h'. order i j h h' (ℕ_discrete j e);
        inside = λ i h. within i h (ℕ_discrete i e);
        wrong = λ i h. bad i h (ℕ_discrete i e);
        all = λ p h ne. found p h ne (ℕ_discrete p n);
        sums = λ f h.
            ap₂ ◌⊞◌
            (L.sums f (λ p g. h p (omega arith)) ∙ sum_ext R₂ e (λ i. f (L.place i)) (λ i. f (P i)) (λ i g. ap f (sym (low i g))))
            (ap f (sym top));
      }
    where
      P : ℕ → ℕ
      P = after n e L.place

      low : (i : ℕ) → i < e → P i ≡ L.place i
      low i h = after_low n e L.place i h

      top : P e ≡ n
      top = after_at n e L.place

      order : (i j : ℕ) → i < j → j < suc e → Dec (j ≡ e) → P i < P j
      order i j h h' (yes q) =
          let a = low i (omega arith) in let b = ap P q ∙ top in let t = L.inside i (omega arith) in omega arith
      order i j h h' (no q) =
          let a = low i (omega arith) in let b = low j (omega arith) in let t = L.in_order i j h (omega arith) in omega arith

      within : (i : ℕ) → i < suc e → Dec (i ≡ e) → P i < suc n
      within i h (yes q) = let b = ap P q ∙ top in omega arith
      within i h (no q) = let a = low i (omega arith) in let t = L.inside i (omega arith) in omega arith

      bad : (i : ℕ) → i < suc e → Dec (i ≡ e) → ε (P i) ≢ 𝟘
      bad i h (yes q) z = nz (sym (ap ε (ap P q ∙ top)) ∙ z)
      bad i h (no q) z = L.wrong i (omega arith) (sym (ap ε (low i (omega arith))) ∙ z)

      found : (p : ℕ) → p < suc n → ε p ≢ 𝟘 → Dec (p ≡ n) → (i : ℕ) × (i < suc e) × (P i ≡ p)
      found p h ne (yes q) = (e, le_refl (suc e), top ∙ sym q)
      found p h ne (no q) = let r = L.all p (omega arith) ne in let a : r.0 < e = r.1 in (r.0, omega arith, low r.0 r.1 ∙ r.2)

  pub listing : (n : ℕ) (ε : ℕ → F) → Listing n ε (weight n ε)
  unfolding weight one_more sum
  listing zero ε =
      record {
        place = λ i. i;
        in_order = λ i j h h'. h;
        inside = λ i h. absurd (not-suc-le-zero h);
        wrong = λ i h. absurd (not-suc-le-zero h);
        all = λ p h. absurd (not-suc-le-zero h);
        sums = λ f h. refl;
      }
  listing (suc n) ε = pick (K.dec (ε n) 𝟘) (listing n ε)
    where
      pick : (d : Dec (ε n ≡ 𝟘)) → Listing n ε (weight n ε) → Listing (suc n) ε (one_more d (weight n ε))
      pick (yes z) L = skip n ε (weight n ε) z L
      pick (no nz) L = keep n ε (weight n ε) nz L

  -- ---- syndromes: s_j is the sum over the places p below n of ε_p X_p^(b + j), for j < k
  abbrev pub Syndromes : ℕ → (ℕ → F) → ℕ → ℕ → (ℕ → F) → (ℕ → F) → Type 0
  Syndromes n x b k ε s = (j : ℕ) → j < k → s j ≡ sum R₂ n (λ p. ε p ⊠ pow R₂ (x p) (b + j))

  pub shift : (a u : F) (b j : ℕ) → a ⊠ pow R₂ u (b + j) ≡ a ⊠ pow R₂ u b ⊠ pow R₂ u j
  shift a u b j = ap (λ w. a ⊠ w) (pow_add R₂ u b j) ∙ sym (⊠-assoc a _ _)

  -- the register's polynomial at the inverse of X_p: what a Chien search looks for zeros of
  abbrev pub chien : (ℕ → F) → ℕ → (ℕ → F) → ℕ → F
  chien c l x p = eval R₂ (suc l) c (K.inv (x p))

  -- ---- n places with locators x, and k syndromes of an error ε
  module _ (n : ℕ) (x : ℕ → F) (x-nz : (p : ℕ) → p < n → x p ≢ 𝟘) (b k : ℕ) (ε s : ℕ → F) (s-is : Syndromes n x b k ε s) where
    e : ℕ
    e = weight n ε

    L : Listing n ε (weight n ε)
    L = listing n ε

    y₀ : ℕ → F
    y₀ i = ε (L.place i) ⊠ pow R₂ (x (L.place i)) b

    -- the locators of the wrong places
    pub x₀ : ℕ → F
    x₀ i = x (L.place i)

    agree : (j : ℕ) → j < k → s j ≡ syndrome R₂ e y₀ x₀ j
    unfolding syndrome e y₀ x₀ L
    agree j h =
        s-is j h ∙ L.sums (λ p. ε p ⊠ pow R₂ (x p) (b + j)) (λ p g z. ap (λ w. w ⊠ pow R₂ (x p) (b + j)) z ∙ zero-⊠ R₂ _)
        ∙ sum_ext R₂ e _ _ (λ i _. shift (ε (L.place i)) (x (L.place i)) b j)

    gen_there : (c : ℕ → F) (l : ℕ) → Gen R₂ s k c l → Gen R₂ (syndrome R₂ e y₀ x₀) k c l
    gen_there c l g = gen_ext R₂ s (syndrome R₂ e y₀ x₀) k c l agree g

    nz₀ : (p : ℕ) → p < e → x₀ p ≢ 𝟘
    unfolding e x₀ L
    nz₀ p h = x-nz (L.place p) (L.inside p h)

    ynz₀ : (p : ℕ) → p < e → y₀ p ≢ 𝟘
    unfolding e y₀ L
    ynz₀ p h z = L.wrong p h (domain K _ (pow R₂ (x (L.place p)) b) z (pow_nz K _ b (x-nz (L.place p) (L.inside p h))))

    -- the locator polynomial, the product of 1 + X_p x over the wrong places, is a register of the error's weight
    locator_serves : Gen R₂ s k (locator R₂ x₀ (weight n ε)) (weight n ε)
    unfolding e
    locator_serves = gen_ext R₂ (syndrome R₂ e y₀ x₀) s k _ _ (λ j h. sym (agree j h)) (locator_gen K e y₀ x₀ nz₀ k)

    -- so a shortest register is no longer than the error's weight
    pub no_longer : (c : ℕ → F) (l : ℕ) → Shortest R₂ s k c l → l ≤ weight n ε
    no_longer c l S = S.short (locator R₂ x₀ (weight n ε)) (weight n ε) locator_serves

    -- ---- the locators differ, and there are twice as many syndromes as errors: what any shortest register finds
    module _ (x-d : Distinct n x) (enough : weight n ε + weight n ε ≤ k) (c : ℕ → F) (l : ℕ) (S : Shortest R₂ s k c l) where
      d₀ : Distinct e x₀
      unfolding e x₀ L
      d₀ i j h h' = x-d (L.place i) (L.place j) (L.in_order i j h h') (L.inside j h')

      fits : l ≤ e
      unfolding e
      fits = no_longer c l S

      same_place : (p q : ℕ) → p < n → q < n → x p ≡ x q → p ≡ q
      same_place p q hp hq z = pick (dec_le p q) (dec_le q p)
        where
          pick : Dec (p ≤ q) → Dec (q ≤ p) → p ≡ q
          pick (yes a) (yes b) = omega arith
          pick (no a) b = absurd (x-d q p (omega arith) hp (sym z))
          pick (yes a) (no b) = absurd (x-d p q (omega arith) hq z)

      -- its length is the number of errors
      pub length_right : l ≡ weight n ε
      unfolding e
      length_right =
          let enough₀ : e + e ≤ k = omega (arith, enough) in
          length_is K e y₀ x₀ nz₀ ynz₀ d₀ k enough₀ c l (gen_there c l S.gen) fits

      -- each wrong place is a root
      pub found_wrong : (p : ℕ) → p < n → ε p ≢ 𝟘 → chien c l x p ≡ 𝟘
      unfolding e x₀ L
      found_wrong p h ne =
          let enough₀ : e + e ≤ k = omega (arith, enough) in
          let r = L.all p h ne in
          ap (chien c l x) (sym r.2) ∙ all_roots K e y₀ x₀ nz₀ ynz₀ d₀ k enough₀ c l (gen_there c l S.gen) fits r.0 r.1

      -- and each root a wrong place
      pub found_right : (p : ℕ) → p < n → chien c l x p ≡ 𝟘 → ε p ≢ 𝟘
      unfolding e x₀ L
      found_right p h r z =
          let enough₀ : e + e ≤ k = omega (arith, enough) in
          only_roots K e y₀ x₀ nz₀ ynz₀ d₀ k enough₀ c l (gen_there c l S.gen) fits (K.inv (x p)) r
          (λ i g d. L.wrong i g
          (ap ε (sym (same_place p (L.place i) h (L.inside i g) (inv_inj K (x p) (x (L.place i)) (x-nz p h) (x-nz (L.place i) (L.inside i g)) d))) ∙ z))

  -- ---- minimum distance: an error of weight at most d with d zero syndromes, from any power b on, is none
  pub min_distance : (n : ℕ) (x : ℕ → F) → ((p : ℕ) → p < n → x p ≢ 𝟘) → Distinct n x → (b d : ℕ) (ε : ℕ → F) → weight n ε ≤ d
      → ((j : ℕ) → j < d → sum R₂ n (λ p. ε p ⊠ pow R₂ (x p) (b + j)) ≡ 𝟘) → (p : ℕ) → p < n → ε p ≡ 𝟘
  min_distance n x x-nz x-d b d ε light z p h = pick (K.dec (ε p) 𝟘)
    where
      M : Listing n ε (weight n ε)
      M = listing n ε

      y : ℕ → F
      y i = ε (M.place i) ⊠ pow R₂ (x (M.place i)) b

      none : (i : ℕ) → i < weight n ε → y i ≡ 𝟘
      none = vandermonde K (weight n ε) y (λ i. x (M.place i)) (λ i j a b. x-d (M.place i) (M.place j) (M.in_order i j a b) (M.inside j b))
          (λ j a. sum_ext R₂ (weight n ε) _ _ (λ i _. sym (shift (ε (M.place i)) (x (M.place i)) b j))
          ∙ sym (M.sums (λ p. ε p ⊠ pow R₂ (x p) (b + j)) (λ p g w. ap (λ v. v ⊠ pow R₂ (x p) (b + j)) w ∙ zero-⊠ R₂ _)) ∙ z j (omega arith))

      pick : Dec (ε p ≡ 𝟘) → ε p ≡ 𝟘
      pick (yes e) = e
      pick (no ne) =
          let r = M.all p h ne in
          absurd (M.wrong r.0 r.1 (domain K _ (pow R₂ (x (M.place r.0)) b) (none r.0 r.1) (pow_nz K _ b (x-nz (M.place r.0) (M.inside r.0 r.1)))))
