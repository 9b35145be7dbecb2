-- A word's pairs, read one by one and stored in the word.
use Rattle.std.proofs.Common.{◌≡◌, refl, sym, ap, ap₂, ◌∙◌, ◌⊎◌, inl, inr, List, [], ◌∷◌, ◌++◌, ℕ, suc, ◌+◌, ◌≤◌, ◌<◌, ℤ, length, set, zero-add, add-one, arith}
use Rattle.report_form.specs.Description.{Pair, Small, Ascending, stored}
use Rattle.report_form.specs.Form.{Found, Missing, byte, found_as, Ongoing, going_more, going_wrong, chain_found, chain_none, chain_ends, chain_stops}
use Rattle.report_form.specs.Forms.{PairWithin, pair_form, pair_from, pairs, PairsWithin, pairs_within, pairs_apart, pair_chain}
use Rattle.report_form.proofs.Lists.{list_full, length_snoc, all_snoc}

-- the least position that may come behind pairs
abbrev pub least_of : ℕ → List Pair → ℕ
least_of least [] = least
least_of least (p ∷ ps) = least_of (suc p.position) ps

least_snoc : (least : ℕ) (ps : List Pair) (p : Pair) → least_of least (ps ++ p ∷ []) ≡ suc p.position
least_snoc least [] p = refl
least_snoc least (q ∷ ps) p = least_snoc (suc q.position) ps p

rising_snoc : (n least : ℕ) (ps : List Pair) (p : Pair) → Ascending n least ps → least_of least ps ≤ p.position → p.position < n → Small p.value → Ascending n least (ps ++ p ∷ [])
rising_snoc n least [] p r l h s = (l, h, s, tt)
rising_snoc n least (q ∷ ps) p r l h s = (r.0, r.1, r.2, rising_snoc n (suc q.position) ps p r.3 l h s)

rising_at : (n least : ℕ) (ps : List Pair) (p : Pair) (more : List Pair) → Ascending n least (ps ++ p ∷ more) → (least_of least ps ≤ p.position) × (p.position < n)
rising_at n least [] p more r = (r.0, r.1)
rising_at n least (q ∷ ps) p more r = rising_at n (suc q.position) ps p more r.3

stored_snoc : (ps : List Pair) (p : Pair) (l : List ℤ) → stored 0 (ps ++ p ∷ []) l ≡ set (stored 0 ps l) p.position p.value
stored_snoc [] p l = ap (λ (k : ℕ). set l k p.value) (zero-add p.position)
stored_snoc (q ∷ ps) p l = stored_snoc ps p (set l (0 + q.position) q.value)

-- what the loop knows of the pairs read so far
pub record PairsSo (word : List ℤ) (least count : ℕ) (word' : List ℤ) (ps : List Pair) : Type 0 where
  pub least_is : least_of 0 ps ≡ least
  pub count_is : length ps ≡ count
  pub stores : word' ≡ stored 0 ps word

module _ (n : ℕ) where
  abbrev pub PairsSoFar : List ℤ → ℕ → ℕ → List ℤ → List ℕ → List ℕ → Type 0
  PairsSoFar word least count word' t now = Ongoing pairs (PairsWithin n) (pairs_within n) (PairsSo word least count word') t now

  pub pairs_again : {word word' : List ℤ} {least count position : ℕ} {value z : ℤ} {t now next : List ℕ} → PairsSoFar word least count word' t now
      → Found pair_form (λ p. p ≡ pair_from position value) now next → z ≡ value → count < 64 → least ≤ position → position < n
      → PairsSoFar word (position + 1) (count + 1) (set word' position z) t next
  pairs_again {word} {word'} {least} {count} {position} {value} {z} {t} {now} {next} o f e c l h =
      let at : f.it.position ≡ position = ap (λ (p : Pair). p.position) f.says in
      going_more pairs (PairsWithin n) (pairs_within n) (PairsSo word least count word') (PairsSo word (position + 1) (count + 1) (set word' position z)) (λ p. p ≡ pair_from position value) t now next o f
      (record {
        rising = rising_snoc n 0 o.done f.it o.ok.rising (omega (arith, o.says.least_is, at)) (omega (arith, at)) f.within.value;
        few = omega (arith, length_snoc o.done f.it, o.says.count_is);
        all = all_snoc PairWithin o.done f.it o.ok.all f.within;
      })
      (record {
        least_is = least_snoc 0 o.done f.it ∙ ap suc at ∙ sym (add-one position);
        count_is = length_snoc o.done f.it ∙ ap suc o.says.count_is ∙ sym (add-one count);
        stores = ap (set word' position) e
            ∙ ap₂ (λ (l : List ℤ) (p : Pair). set l p.position p.value) o.says.stores (sym f.says)
            ∙ sym (stored_snoc o.done f.it word);
      })

  -- neither a newline nor a pair
  pub pairs_none : {word word' : List ℤ} {least count : ℕ} {t now : List ℕ} → PairsSoFar word least count word' t now → Missing (byte 10) now → Missing pair_form now → Missing (pair_chain n) t
  pairs_none o e m = chain_stops pairs (PairsWithin n) (pairs_within n) (byte 10) (λ b r _ _. pairs_apart n r) o m e

  -- a position that is not above the one before, or not below n
  pub pairs_wrong : {word word' : List ℤ} {least count position : ℕ} {value : ℤ} {t now next : List ℕ} → PairsSoFar word least count word' t now
      → Found pair_form (λ p. p ≡ pair_from position value) now next → (position < least) ⊎ (n ≤ position) → Missing (pair_chain n) t
  pairs_wrong {word} {word'} {least} {count} {position} {value} {t} {now} {next} o f bad =
      chain_none pairs (PairsWithin n) (pairs_within n) (byte 10) (λ b r _ _. pairs_apart n r)
      (going_wrong pairs (PairsWithin n) (pairs_within n) (PairsSo word least count word') (λ p. p ≡ pair_from position value) t now next o f (λ more w. go more (rising_at n 0 o.done f.it more w.rising) bad))
    where
      go : (more : List Pair) → (least_of 0 o.done ≤ f.it.position) × (f.it.position < n) → (position < least) ⊎ (n ≤ position) → ⊥
      go more r (inl l) = omega (arith, r.0, o.says.least_is, ap (λ (p : Pair). p.position) f.says)
      go more r (inr l) = omega (arith, r.1, ap (λ (p : Pair). p.position) f.says)

  -- no newline behind the last pair that may come
  pub pairs_unended : {word word' : List ℤ} {least count : ℕ} {t now : List ℕ} → PairsSoFar word least count word' t now → 64 ≤ count → Missing (byte 10) now → Missing (pair_chain n) t
  pairs_unended {word} {word'} {least} {count} {now = now} o e m =
      chain_ends pairs (PairsWithin n) (pairs_within n) (byte 10) (λ b r _ _. pairs_apart n r) o (list_full pairs (PairsWithin n) (pairs_within n) (PairsSo word least count word') 64 count (λ _ w. w.few) (λ _ s. s.count_is) now e) m

  pub pairs_found : {word word' : List ℤ} {least count : ℕ} {t now next : List ℕ} → PairsSoFar word least count word' t now → Found (byte 10) (λ _. Unit) now next
      → Found (pair_chain n) (λ x. word' ≡ stored 0 x.0 word) t next
  pairs_found o g = found_as (chain_found pairs (PairsWithin n) (pairs_within n) (byte 10) (λ b r _ _. pairs_apart n r) o g) (λ x s. s.0.stores)
